use Rattle.std.proofs.Common.{◌∙◌, ◌++◌, ◌∷◌, [], ap, arith, map, sym, slice_set, subst}
use Rattle.std.specs.Prelude.{position, vec_capacity, vec_len}
use Rattle.std.proofs.lemmas.Result.{on_err_weaker, on_ok_weaker}
use Rattle.claim_queue.specs.declared.lanes.Lane.{Lane}
use Rattle.claim_queue.specs.declared.lane_state.LaneState.{LaneState}
use Rattle.claim_queue.specs.Queues.{HasSamePairs, Sets, SetsState, free_places, is_reserved, reserved_state}
use Rattle.claim_queue.specs.Lanes.{IsQueue, is_of, lane_in, queue_of}
use Rattle.claim_queue.proofs.LaneLaws.{lane_at, none_at}
use Rattle.claim_queue.proofs.QueueLaws.{free_at, kept, more, none_reserved, reserved_at, reserved_new, same_pairs}
use Rattle.claim_queue.proofs.QueueLaws.{seen_the_same}
use Rattle.claim_queue.proofs.queue.ClaimQueue.reserve.Goals as goal

pub reserve-requires : goal.reserve-requires
reserve-requires c =
    let lanes = c.self.inside.lanes.items in
    let held = c.index_mut.result.now in
    let at = c.in-Some.ensures ∙ ap (position (is_of c.args.endpoint)) c.deref.ensures.value in
    let is = c.index_mut.ensures.value in
    c.self.invariant.sound c.args.endpoint held (lane_at lanes c.args.endpoint c.in-Some.place held at is).0

pub invariant_of-self : goal.invariant_of-self
invariant_of-self c =
    let lanes = c.self.inside.lanes.items in
    let held = c.index_mut.result.now in
    let at = c.in-Some.ensures ∙ ap (position (is_of c.args.endpoint)) c.deref.ensures.value in
    let is = c.index_mut.ensures.value in
    kept lanes c.self.inside.firsts.items _ _ c.args.endpoint c.in-Some.place held c.reserve.new.self c.self.invariant
    at is c.reserve.ensures.sound c.reserve.ensures.endpoint c.reserve.ensures.room c.reserve.ensures.keys

pub returns-in-Some-clause-pairs : goal.returns-in-Some-clause-pairs
returns-in-Some-clause-pairs c =
    let lanes = c.self.inside.lanes.items in
    let held = c.index_mut.result.now in
    let at = c.in-Some.ensures ∙ ap (position (is_of c.args.endpoint)) c.deref.ensures.value in
    let is = c.index_mut.ensures.value in
    on_ok_weaker c.reserve.result
    (λ _. subst (λ q. HasSamePairs q (queue_of (slice_set lanes c.in-Some.place c.reserve.new.self))) c.self.view_is
    (λ pair. same_pairs lanes c.in-Some.place held c.reserve.new.self pair is
    (lane_at lanes c.args.endpoint c.in-Some.place held at is).1 c.reserve.ensures.endpoint
    c.reserve.ensures.keys)) c.reserve.ensures.state

pub returns-in-Some-clause-state : goal.returns-in-Some-clause-state
returns-in-Some-clause-state c =
    let lanes = c.self.inside.lanes.items in
    let held = c.index_mut.result.now in
    let at = c.in-Some.ensures ∙ ap (position (is_of c.args.endpoint)) c.deref.ensures.value in
    let is = c.index_mut.ensures.value in
    on_ok_weaker c.reserve.result
    (λ set. subst (λ q. SetsState q (queue_of (slice_set lanes c.in-Some.place c.reserve.new.self))
    (reserved_state q c.args.endpoint c.args.more)) c.self.view_is
    (reserved_at lanes c.args.endpoint c.in-Some.place c.args.more held c.reserve.new.self
    at is c.reserve.ensures.endpoint set)) c.reserve.ensures.state

pub returns-in-Some-clause-enough : goal.returns-in-Some-clause-enough
returns-in-Some-clause-enough c =
    let lanes = c.self.inside.lanes.items in
    let held = c.index_mut.result.now in
    let at = c.in-Some.ensures ∙ ap (position (is_of c.args.endpoint)) c.deref.ensures.value in
    let is = c.index_mut.ensures.value in
    λ h. c.reserve.ensures.enough (omega (
      arith,
      h.free,
      ap (λ q. free_places q c.args.endpoint) c.self.view_is,
      free_at lanes c.args.endpoint held (lane_at lanes c.args.endpoint c.in-Some.place held at is).0,
    ))

pub returns-in-Some-clause-err : goal.returns-in-Some-clause-err
returns-in-Some-clause-err c =
    let lanes = c.self.inside.lanes.items in
    let held = c.index_mut.result.now in
    let at = c.in-Some.ensures ∙ ap (position (is_of c.args.endpoint)) c.deref.ensures.value in
    let is = c.index_mut.ensures.value in
    on_err_weaker c.reserve.result (λ same. seen_the_same lanes c.in-Some.place held c.reserve.new.self is
    (lane_at lanes c.args.endpoint c.in-Some.place held at is).1 same c.reserve.ensures.keys
    ∙ c.self.view_is) c.reserve.ensures.err

pub returns-in_err-reserve-clause-enough : goal.returns-in_err-reserve-clause-enough
returns-in_err-reserve-clause-enough c =
    let lanes = c.self.inside.lanes.items in
    let none = none_at lanes c.args.endpoint (sym c.in_default.is ∙ c.place_of.ensures
    ∙ ap (position (is_of c.args.endpoint)) c.deref.ensures.value) in
    λ h. absurd (none_reserved lanes c.args.endpoint none (ap (λ q. is_reserved q c.args.endpoint) c.self.view_is
    ∙ h.reserved))

pub returns-in_err-reserve-2-clause-enough : goal.returns-in_err-reserve-2-clause-enough
returns-in_err-reserve-2-clause-enough c =
    let lanes = c.self.inside.lanes.items in
    let none = none_at lanes c.args.endpoint (sym c.in_default.is ∙ c.place_of.ensures
    ∙ ap (position (is_of c.args.endpoint)) c.deref.ensures.value) in
    λ h. absurd (none_reserved lanes c.args.endpoint none (ap (λ q. is_reserved q c.args.endpoint) c.self.view_is
    ∙ h.reserved))

pub returns-in_err-push-clause-enough : goal.returns-in_err-push-clause-enough
returns-in_err-push-clause-enough c =
    let lanes = c.self.inside.lanes.items in
    let none = none_at lanes c.args.endpoint (sym c.in_default.is ∙ c.place_of.ensures
    ∙ ap (position (is_of c.args.endpoint)) c.deref.ensures.value) in
    λ h. absurd (none_reserved lanes c.args.endpoint none (ap (λ q. is_reserved q c.args.endpoint) c.self.view_is
    ∙ h.reserved))

pub invariant_of-self-2 : goal.invariant_of-self-2
invariant_of-self-2 c =
    let fresh = c.reserve-3 in
    let firsts = c.reserve-2 in
    let lanes = c.self.inside.lanes.items in
    let none = none_at lanes c.args.endpoint (sym c.in_default.is ∙ c.place_of.ensures
    ∙ ap (position (is_of c.args.endpoint)) c.deref.ensures.value) in
    let new = fresh.new.self in
    let name = fresh.ensures.endpoint ∙ ap (λ (m : LaneState). m.endpoint) c.new-lane.ensures.state in
    subst (λ all. IsQueue all firsts.new.self.items (vec_len firsts.new.self)
    (vec_capacity firsts.new.self)) (sym c.in_ok-push.ensures.items)
    (subst (λ pairs. IsQueue (lanes ++ new ∷ []) pairs (vec_len firsts.new.self)
    (vec_capacity firsts.new.self)) (sym firsts.ensures.items)
    (subst (λ n. IsQueue (lanes ++ new ∷ []) c.self.inside.firsts.items n (vec_capacity firsts.new.self))
    (sym firsts.ensures.len)
    (more lanes c.self.inside.firsts.items _ _ new (vec_capacity firsts.new.self) c.self.invariant
    (ap (lane_in lanes) name ∙ none) fresh.ensures.sound
    (fresh.ensures.room ∙ ap (λ (m : LaneState). m.room) c.new-lane.ensures.state)
    (omega (arith, c.in_ok-reserve.ensures.ok, firsts.ensures.len, c.len.ensures, c.self.inside.lanes.ok.0)))))

pub returns-clause-state : goal.returns-clause-state
returns-clause-state c =
    let lanes = c.self.inside.lanes.items in
    let none = none_at lanes c.args.endpoint (sym c.in_default.is ∙ c.place_of.ensures
    ∙ ap (position (is_of c.args.endpoint)) c.deref.ensures.value) in
    let new = c.reserve-3.new.self in
    subst (λ all. Sets c.args.self.now.states (map (λ (lane : Lane). lane.state) all)
    (reserved_state c.args.self.now c.args.endpoint c.args.more)) (sym c.in_ok-push.ensures.items)
    (subst (λ q. Sets q.states (map (λ (lane : Lane). lane.state) (lanes ++ new ∷ []))
    (reserved_state q c.args.endpoint c.args.more)) c.self.view_is
    (reserved_new lanes c.args.endpoint c.args.more c.new-lane.result new none c.new-lane.ensures.state
    c.in_ok-reserve-2.ensures.state))
