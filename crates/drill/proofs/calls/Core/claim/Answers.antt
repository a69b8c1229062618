use Rattle.std.proofs.Common.{◌≡◌, ◌∙◌, ◌++◌, [], ◌∷◌, Ok, Err, None, refl, ap, subst}
use Rattle.desk.specs.Claims.{claim}
use Rattle.desk.specs.Desks.{IsMove, with_job}
use Rattle.drill.proofs.CoreLaws.{answers_claimed, answers_unclaimed}
use Rattle.drill.proofs.calls.Core.claim.Goals as goal

pub returns-in-Ok-Some-clause-answers : goal.returns-in-Ok-Some-clause-answers
returns-in-Ok-Some-clause-answers g c = rw c.permit_reply-reply.ensures
    (answers_claimed c.args.self.now _ c.args.now c.in-Ok-Some.job
    (subst (λ o. IsMove c.args.self.now.desk (λ w. claim w c.args.now) (Ok o) c.claim.new.self)
    c.in-Ok-Some.field-0-is c.in-Ok-Some.ensures.moves)
    c.in-Ok-Some.ensures.mark
    (subst (λ o. c.claim.new.self.live ≡ with_job c.args.self.now.desk.live o) c.in-Ok-Some.field-0-is
    c.in-Ok-Some.ensures.live) c.in-Ok-Some.ensures.out refl (c.push_reserved.ensures.items
    ∙ ap (λ row. c.args.self.now.permits.items ++ row ∷ []) c.into_permit.ensures) refl)

pub returns-in-Ok-None-clause-answers : goal.returns-in-Ok-None-clause-answers
returns-in-Ok-None-clause-answers g c =
    answers_unclaimed c.args.self.now _ c.args.now (Ok None) refl
    (subst (λ o. IsMove c.args.self.now.desk (λ w. claim w c.args.now) (Ok o) c.claim.new.self)
    c.in-Ok-None.field-0-is c.in-Ok-None.ensures.moves)
    c.in-Ok-None.ensures.mark (
      subst (λ o. c.claim.new.self.live ≡ with_job c.args.self.now.desk.live o) c.in-Ok-None.field-0-is
          c.in-Ok-None.ensures.live,
      c.in-Ok-None.ensures.out,
    ) refl refl refl

pub returns-in-Err-clause-answers : goal.returns-in-Err-clause-answers
returns-in-Err-clause-answers g c = rw c.refusal_reply.ensures
    (answers_unclaimed c.args.self.now _ c.args.now (Err c.in-Err.refusal) refl c.in-Err.ensures.moves
    c.in-Err.ensures.mark (ap (λ d. d.live) c.in-Err.ensures.err, c.in-Err.ensures.out) refl refl refl)
