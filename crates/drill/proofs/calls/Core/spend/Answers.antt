use mathlib.Core.Logic.{∥∥₁_elim}
use Rattle.std.proofs.Common.{◌≡◌, ◌∙◌, Some, None, refl, sym, ap}
use Rattle.std.specs.Prelude.{◌==◌, position}
use Rattle.permits.specs.Rows.{same_row}
use Rattle.drill.specs.Cores.{HoldsAll}
use Rattle.drill.proofs.CoreLaws.{answers_spent, answers_no_permit, taken_first}
use Rattle.drill.proofs.calls.Core.spend.Goals as goal

pub returns-in_default-clause-answers : goal.returns-in_default-clause-answers
returns-in_default-clause-answers g c =
    answers_no_permit c.args.self.now c.args.delivery c.args.now c.args.post
    (ap (position (λ row. row.delivery == c.args.delivery)) (sym c.deref.ensures.value) ∙ sym c.place_of.ensures
    ∙ c.in_default.is)

pub unreachable-requires : goal.unreachable-requires
unreachable-requires g c = ∥∥₁_elim c.requires (λ x y. absurd x) (λ (h : HoldsAll c.args.self.now).
    let first = taken_first c.args.delivery c.in-Some.place c.remove-permit.result c.args.self.now.permits.items
    c.remove-permit.new.self.items (record {
      at = ap (position (λ row. row.delivery == c.args.delivery)) (sym c.deref.ensures.value) ∙ sym c.place_of.ensures
          ∙ c.in-Some.is;
      own = c.remove-permit.ensures.value;
      left = c.remove-permit.ensures.items;
    }) in
    let none : position (same_row c.remove-permit.result) c.args.self.now.desk.live ≡ None = c.in-Err.ensures.foreign.0
    refl in
    let some : Some c.in-Some.place ≡ None = sym first ∙ ap (position (same_row c.remove-permit.result)) h.permits
    ∙ none in cc)

pub returns-clause-answers : goal.returns-clause-answers
returns-clause-answers g c = rw c.spent_reply.ensures
    (answers_spent c.args.self.now _ c.args.delivery c.args.now c.in-Some.place c.args.post c.remove-permit.result
    c.in-Ok.spent (record {
      at = ap (position (λ row. row.delivery == c.args.delivery)) (sym c.deref.ensures.value) ∙ sym c.place_of.ensures
          ∙ c.in-Some.is;
      own = c.remove-permit.ensures.value;
      left = c.remove-permit.ensures.items;
    }) c.in-Ok.ensures.moves c.in-Ok.ensures.mark c.in-Ok.ensures.live c.in-Ok.ensures.out refl refl)
