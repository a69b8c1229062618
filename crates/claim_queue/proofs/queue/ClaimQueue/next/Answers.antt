use Rattle.std.proofs.Common.{◌≡◌, ◌∙◌, ap, false, refl, sym, subst, true}
use Rattle.std.specs.Prelude.{option_copied, slice_get}
use Rattle.claim_queue.specs.Queues.{IsNext, NothingIsReady}
use Rattle.claim_queue.proofs.QueueLaws.{first_ready, next_is, none_due, none_first}
use Rattle.claim_queue.proofs.queue.ClaimQueue.next.Goals.{in_default-via-in-Some+else-pair-now}
use Rattle.claim_queue.proofs.queue.ClaimQueue.next.Goals.{in_default-via-in_default}
use Rattle.claim_queue.proofs.queue.ClaimQueue.next.Goals as goal

pub returns-in-Some-clause-first : goal.returns-in-Some-clause-first
returns-in-Some-clause-first c =
    let lanes = c.self.inside.lanes.items in
    let firsts = c.self.inside.firsts.items in
    let at = sym (c.in-Some.ensures.value ∙ ap (λ pairs. slice_get pairs 0) c.deref.ensures.value) in
    subst (λ q. IsNext q c.args.now c.in-Some.pair.now.endpoint c.in-Some.pair.now.seq) c.self.view_is
    (next_is lanes firsts _ _ c.args.now c.in-Some.pair.now c.self.invariant at c.if-pair-now.true)

pub returns-in-Some-clause-none : goal.returns-in-Some-clause-none
returns-in-Some-clause-none c =
    let lanes = c.self.inside.lanes.items in
    let firsts = c.self.inside.firsts.items in
    let at = sym (c.in-Some.ensures.value ∙ ap (λ pairs. slice_get pairs 0) c.deref.ensures.value) in
    subst (λ q. (true ≡ false → NothingIsReady q c.args.now) × (NothingIsReady q c.args.now → true ≡ false))
    c.self.view_is (
      λ h. absurd (let clash = h in cc),
      λ none. sym
          (first_ready lanes firsts _ _ c.args.now c.in-Some.pair.now c.self.invariant at c.if-pair-now.true)
          ∙ none c.in-Some.pair.now,
    )

pub returns-in_default-clause-none : goal.returns-in_default-clause-none
returns-in_default-clause-none c =
    let lanes = c.self.inside.lanes.items in
    let firsts = c.self.inside.firsts.items in
    subst (λ q. (false ≡ false → NothingIsReady q c.args.now) × (NothingIsReady q c.args.now → false ≡ false))
    c.self.view_is (
      λ h. elim c.in_default.branch [
        | in_default-via-in-Some+else-pair-now w ↦ none_due lanes firsts _ _ c.args.now w.in-Some.pair.now
            c.self.invariant (sym (w.in-Some.ensures.value ∙ ap (λ pairs. slice_get pairs 0) c.deref.ensures.value))
            w.if-pair-now.false
        | in_default-via-in_default w ↦ none_first lanes firsts _ _ c.args.now c.self.invariant
            (sym (sym (ap option_copied w.in_default.is) ∙ c.first.ensures.value
            ∙ ap (λ pairs. slice_get pairs 0) c.deref.ensures.value))
      ],
      λ none. refl,
    )
