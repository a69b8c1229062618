use Rattle.std.proofs.Common.{◌≡◌, Ok, Err, None, Some, refl, ap, subst}
use Rattle.std.specs.Prelude.{IfNone, IfSome}
use Rattle.group_commit.specs.Waits.{batch_out}
use Rattle.desk.specs.Moves.{seal}
use Rattle.desk.specs.Desks.{IsMove}
use Rattle.drill.proofs.BatchLaws.{answers_sealed, answers_unsealed}
use Rattle.drill.proofs.calls.Core.seal.Goals as goal

pub returns-in-Ok-Some-clause-answers : goal.returns-in-Ok-Some-clause-answers
returns-in-Ok-Some-clause-answers g c = rw (c.sealed_reply-reply.ensures, c.hold.ensures)
    (answers_sealed c.args.self.now _ c.in-Ok-Some.batch
    (subst (λ o. IsMove c.args.self.now.desk (seal c.args.self.now.desk.waiting.mark) (Ok o) c.seal.new.self)
    c.in-Ok-Some.field-0-is c.in-Ok-Some.ensures.moves)
    c.in-Ok-Some.ensures.mark c.in-Ok-Some.ensures.live
    (subst (λ o. IfSome o (λ batch. batch_out c.seal.new.self.waiting ≡ Some batch)) c.in-Ok-Some.field-0-is
    c.in-Ok-Some.ensures.out) refl refl refl)

pub returns-in-Ok-None-clause-answers : goal.returns-in-Ok-None-clause-answers
returns-in-Ok-None-clause-answers g c =
    answers_unsealed c.args.self.now _ (Ok None) refl
    (subst (λ o. IsMove c.args.self.now.desk (seal c.args.self.now.desk.waiting.mark) (Ok o) c.seal.new.self)
    c.in-Ok-None.field-0-is c.in-Ok-None.ensures.moves)
    c.in-Ok-None.ensures.mark (
      c.in-Ok-None.ensures.live,
      ap (λ d. batch_out d.waiting)
          (subst (λ o. IfNone o (c.seal.new.self ≡ c.args.self.now.desk)) c.in-Ok-None.field-0-is
          c.in-Ok-None.ensures.same),
    ) refl refl refl

pub returns-in-Err-clause-answers : goal.returns-in-Err-clause-answers
returns-in-Err-clause-answers g c = rw c.refusal_reply.ensures
    (answers_unsealed c.args.self.now _ (Err c.in-Err.refusal) refl c.in-Err.ensures.moves c.in-Err.ensures.mark
    (c.in-Err.ensures.live, ap (λ d. batch_out d.waiting) c.in-Err.ensures.err) refl refl refl)
