use Rattle.std.proofs.Common.{◌≡◌, Some, ◌∙◌, ap, subst, sym, take}
use Rattle.relay_types.specs.declared.state.State.{State}
use Rattle.relay_types.specs.declared.state.State.TheVariants.{Pending, Delivered, Exhausted}
use Rattle.delivery_book.specs.Fields.{in_state, counts_for, settled_counts}
use Rattle.delivery_book.specs.contracts.book.DeliveryBook.{the_view}
use Rattle.delivery_book.specs.Entries.{BookValue}
use Rattle.delivery_book.specs.Book.{StandsFor, count_in}
use Rattle.delivery_book.proofs.Entries.{first_below}
use Rattle.delivery_book.proofs.Tellings.{counts_told, stands_settled_counts, deliveries_for}
use Rattle.delivery_book.proofs.book.DeliveryBook.settled_counts.Goals as goal

pub returns-clause-stands : goal.returns-clause-stands
returns-clause-stands c = λ records settled h.
    let each : (asked : State) → in_state asked (counts_for c.self.inside.settled_tally (Some c.args.name))
    ≡ count_in asked (take settled records) (deliveries_for (take settled records) (Some c.args.name)) =
    λ asked. c.self.invariant.settled (Some c.args.name) asked
    ∙ stands_settled_counts _ records settled c.self.inside.settled_entries (Some c.args.name) asked
    (subst (λ b. StandsFor b records settled) (sym c.self.view_is) h)
    (first_below _ _ _ c.self.invariant.keyed.settled_within c.self.invariant.keyed.settled_below
    c.self.invariant.keyed.settled_above) in
    c.of.ensures ∙ (λ i. record {
      pending = each Pending i;
      delivered = each Delivered i;
      exhausted =
          each Exhausted i;
    })

pub returns-clause-value : goal.returns-clause-value
returns-clause-value c =
    let keyed = c.self.invariant.keyed in
    c.of.ensures
    ∙ counts_told (the_view c.self.inside) c.self.inside.settled_entries
    (counts_for c.self.inside.settled_tally (Some c.args.name)) (Some c.args.name)
    (first_below _ _ _ keyed.settled_within keyed.settled_below keyed.settled_above)
    (c.self.invariant.settled (Some c.args.name))
    ∙ ap (λ (b : BookValue). settled_counts b (Some c.args.name)) c.self.view_is
