use Rattle.std.proofs.Common.{Some, ◌∙◌, ap, arith, subst}
use Rattle.std.specs.Prelude.{option_map}
use Rattle.delivery_book.specs.declared.entry.Entry.{Entry}
use Rattle.delivery_book.specs.Entries.{BookValue, HasOneEach, entry_at, row_in}
use Rattle.delivery_book.proofs.Entries.{one_each}
use Rattle.delivery_book.proofs.Tellings.{stands_settled_row, stands_waiting_row}
use Rattle.delivery_book.proofs.book.DeliveryBook.settled.Goals as goal

pub returns-in-Some-clause-stands : goal.returns-in-Some-clause-stands
returns-in-Some-clause-stands c = λ records settled h.
    ap Some c.row.ensures
    ∙ ap (option_map (λ (e : Entry). row_in e.settled e)) c.in-Some.ensures
    ∙ ap (λ es. option_map (λ (e : Entry). row_in e.settled e) (entry_at es c.args.delivery))
    (c.deref.ensures.value ∙ ap (λ b. b.entries) c.self.view_is)
    ∙ stands_settled_row c.args.self.now records settled c.args.delivery h
    (omega (arith, c.if-delivery-self.true, ap (λ b. b.settled_seq) c.self.view_is))

pub returns-in-None-clause-stands : goal.returns-in-None-clause-stands
returns-in-None-clause-stands c = λ records settled h.
    ap (option_map (λ (e : Entry). row_in e.settled e)) c.in-None.ensures
    ∙ ap (λ es. option_map (λ (e : Entry). row_in e.settled e) (entry_at es c.args.delivery))
    (c.deref.ensures.value ∙ ap (λ b. b.entries) c.self.view_is)
    ∙ stands_settled_row c.args.self.now records settled c.args.delivery h
    (omega (arith, c.if-delivery-self.true, ap (λ b. b.settled_seq) c.self.view_is))

pub returns-else-delivery-self-clause-stands : goal.returns-else-delivery-self-clause-stands
returns-else-delivery-self-clause-stands c = λ records settled h.
    stands_waiting_row c.args.self.now records settled c.args.delivery h
    (omega (arith, c.if-delivery-self.false, ap (λ b. b.settled_seq) c.self.view_is))

pub returns-in-Some-clause-once : goal.returns-in-Some-clause-once
returns-in-Some-clause-once c = subst (λ (b : BookValue). HasOneEach b) c.self.view_is
    (one_each _ c.self.invariant.keyed.ascending)

pub returns-in-None-clause-once : goal.returns-in-None-clause-once
returns-in-None-clause-once c = subst (λ (b : BookValue). HasOneEach b) c.self.view_is
    (one_each _ c.self.invariant.keyed.ascending)

pub returns-else-delivery-self-clause-once : goal.returns-else-delivery-self-clause-once
returns-else-delivery-self-clause-once c = subst (λ (b : BookValue). HasOneEach b) c.self.view_is
    (one_each _ c.self.invariant.keyed.ascending)
