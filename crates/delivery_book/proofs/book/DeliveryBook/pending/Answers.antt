use Rattle.std.proofs.Common.{Some, ◌∙◌, ap}
use Rattle.std.specs.Prelude.{count_by}
use Rattle.relay_types.specs.declared.state.State.TheVariants.{Pending}
use Rattle.delivery_book.specs.Entries.{pending_in}
use Rattle.delivery_book.specs.Fields.{is_counted}
use Rattle.delivery_book.proofs.Tellings.{stands_pending}
use Rattle.delivery_book.proofs.book.DeliveryBook.pending.Goals as goal

pub returns-clause-stands : goal.returns-clause-stands
returns-clause-stands c = λ records settled h.
    ap (λ k. k.pending) c.of.ensures
    ∙ c.self.invariant.latest (Some c.args.name) Pending
    ∙ ap (λ b. count_by (is_counted (λ e. e.latest) (Some c.args.name) Pending) b.entries) c.self.view_is
    ∙ stands_pending c.args.self.now records settled (Some c.args.name) h

pub returns-clause-value : goal.returns-clause-value
returns-clause-value c =
    ap (λ k. k.pending) c.of.ensures
    ∙ c.self.invariant.latest (Some c.args.name) Pending
    ∙ ap (λ b. pending_in b c.args.name) c.self.view_is
