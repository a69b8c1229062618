use Rattle.std.proofs.Common.{None, ◌∙◌, ap}
use Rattle.std.specs.Prelude.{count_by}
use Rattle.relay_types.specs.declared.state.State.TheVariants.{Pending}
use Rattle.delivery_book.specs.Fields.{is_counted}
use Rattle.delivery_book.proofs.Tellings.{stands_pending}
use Rattle.delivery_book.proofs.book.DeliveryBook.pending_all.Goals as goal

pub returns : goal.returns
returns c = λ records settled h.
    ap (λ k. k.pending) c.all.ensures
    ∙ c.self.invariant.latest None Pending
    ∙ ap (λ b. count_by (is_counted (λ e. e.latest) None Pending) b.entries) c.self.view_is
    ∙ stands_pending c.args.self.now records settled None h
