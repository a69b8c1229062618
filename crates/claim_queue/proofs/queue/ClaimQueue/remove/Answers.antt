use Rattle.std.proofs.Common.{◌≡◌, ◌+◌, ◌∙◌, ◌&&◌, Bool, ap, false, not, refl, sym, slice_set, subst, true}
use Rattle.std.specs.Prelude.{position}
use Rattle.claim_queue.specs.declared.lane_state.LaneState.{LaneState}
use Rattle.claim_queue.specs.Queues.{ChangesState, Loses, free_places, is_held, pair_of, place_given}
use Rattle.claim_queue.specs.Lanes.{is_of, queue_of}
use Rattle.claim_queue.proofs.LaneLaws.{lane_at, none_at}
use Rattle.claim_queue.proofs.QueueLaws.{first_held, free_at, free_set, held_in, held_in_none, state_changed, now_held}
use Rattle.claim_queue.proofs.QueueLaws.{own_held, renewed}
use Rattle.claim_queue.proofs.queue.ClaimQueue.remove.Goals as goal

and_all : (a : Bool) → (a && not false) ≡ a
and_all true = refl
and_all false = refl

pub remove-requires-clause-sound : goal.remove-requires-clause-sound
remove-requires-clause-sound c =
    let lanes = c.self.inside.lanes.items in
    let held = c.index_mut-lane.result.now in
    let at = c.in-Some.ensures ∙ ap (position (is_of c.args.endpoint)) c.deref.ensures.value in
    let is = c.index_mut-lane.ensures.value in
    c.self.invariant.sound c.args.endpoint held (lane_at lanes c.args.endpoint c.in-Some.place held at is).0

pub remove-requires-clause-held : goal.remove-requires-clause-held
remove-requires-clause-held c =
    let lanes = c.self.inside.lanes.items in
    let held = c.index_mut-lane.result.now in
    let at = c.in-Some.ensures ∙ ap (position (is_of c.args.endpoint)) c.deref.ensures.value in
    let is = c.index_mut-lane.ensures.value in
    sym (held_in lanes held (pair_of c.args.endpoint c.args.due c.args.seq) c.self.invariant.apart
    (lane_at lanes c.args.endpoint c.in-Some.place held at is).0)
    ∙ ap (λ q. is_held q (pair_of c.args.endpoint c.args.due c.args.seq)) c.self.view_is ∙ c.requires.held

pub renew-requires-clause-held : goal.renew-requires-clause-held
renew-requires-clause-held c =
    let lanes = c.self.inside.lanes.items in
    let held = c.index_mut-lane.result.now in
    let at = c.in-Some.ensures ∙ ap (position (is_of c.args.endpoint)) c.deref.ensures.value in
    let is = c.index_mut-lane.ensures.value in
    first_held lanes c.self.inside.firsts.items _ _ c.args.endpoint held c.self.invariant
    (lane_at lanes c.args.endpoint c.in-Some.place held at is).0 c.first-before.result c.first-before.ensures

pub renew-requires-clause-unheld : goal.renew-requires-clause-unheld
renew-requires-clause-unheld c =
    let lanes = c.self.inside.lanes.items in
    let held = c.index_mut-lane.result.now in
    let at = c.in-Some.ensures ∙ ap (position (is_of c.args.endpoint)) c.deref.ensures.value in
    let is = c.index_mut-lane.ensures.value in
    own_held lanes c.self.inside.firsts.items _ _ c.args.endpoint held c.remove.new.self c.self.invariant
    (lane_at lanes c.args.endpoint c.in-Some.place held at is).0
    (ap (λ (m : LaneState). m.endpoint) c.remove.ensures.state) c.first-before.result c.first-after.result
    c.first-before.ensures c.first-after.ensures

pub invariant_of-self : goal.invariant_of-self
invariant_of-self c =
    let lanes = c.self.inside.lanes.items in
    let held = c.index_mut-lane.result.now in
    let at = c.in-Some.ensures ∙ ap (position (is_of c.args.endpoint)) c.deref.ensures.value in
    let is = c.index_mut-lane.ensures.value in
    renewed lanes c.self.inside.firsts.items _ _ c.args.endpoint c.in-Some.place held c.remove.new.self
    c.renew.new.firsts.items _ _ c.first-before.result c.first-after.result
    c.self.invariant at is (ap (λ (m : LaneState). m.endpoint) c.remove.ensures.state) c.remove.ensures.sound
    c.first-before.ensures c.first-after.ensures c.renew.ensures.order c.renew.ensures.pairs c.renew.ensures.len
    c.renew.ensures.capacity

pub returns-in-Some-clause-pairs : goal.returns-in-Some-clause-pairs
returns-in-Some-clause-pairs c =
    let lanes = c.self.inside.lanes.items in
    let held = c.index_mut-lane.result.now in
    let at = c.in-Some.ensures ∙ ap (position (is_of c.args.endpoint)) c.deref.ensures.value in
    let is = c.index_mut-lane.ensures.value in
    subst (λ q. Loses q (queue_of (slice_set lanes c.in-Some.place c.remove.new.self))
    (pair_of c.args.endpoint c.args.due c.args.seq)) c.self.view_is
    (now_held lanes c.args.endpoint c.in-Some.place held c.remove.new.self
    (record { due = c.args.due; seq = c.args.seq }) (λ a b. a && not b) c.self.invariant.apart at is
    (ap (λ (m : LaneState). m.endpoint) c.remove.ensures.state) and_all c.remove.ensures.keys)

pub returns-in-Some-clause-state : goal.returns-in-Some-clause-state
returns-in-Some-clause-state c =
    let lanes = c.self.inside.lanes.items in
    let held = c.index_mut-lane.result.now in
    let at = c.in-Some.ensures ∙ ap (position (is_of c.args.endpoint)) c.deref.ensures.value in
    let is = c.index_mut-lane.ensures.value in
    subst (λ q. ChangesState q (queue_of (slice_set lanes c.in-Some.place c.remove.new.self)) c.args.endpoint
    place_given) c.self.view_is
    (state_changed lanes c.args.endpoint c.in-Some.place held c.remove.new.self place_given
    at is (ap (λ (m : LaneState). m.endpoint) c.remove.ensures.state) c.remove.ensures.state)

pub returns-in-Some-clause-place : goal.returns-in-Some-clause-place
returns-in-Some-clause-place c =
    let lanes = c.self.inside.lanes.items in
    let held = c.index_mut-lane.result.now in
    let at = c.in-Some.ensures ∙ ap (position (is_of c.args.endpoint)) c.deref.ensures.value in
    let is = c.index_mut-lane.ensures.value in
    free_set lanes c.args.endpoint c.in-Some.place held c.remove.new.self
    at is (ap (λ (m : LaneState). m.endpoint) c.remove.ensures.state)
    ∙ ap (λ (m : LaneState). m.free) c.remove.ensures.state
    ∙ ap (λ n. n + 1) (sym
    (free_at lanes c.args.endpoint held (lane_at lanes c.args.endpoint c.in-Some.place held at is).0))
    ∙ ap (λ q. free_places q c.args.endpoint + 1) c.self.view_is

pub returns-in_default : goal.returns-in_default
returns-in_default c =
    let lanes = c.self.inside.lanes.items in
    let none = none_at lanes c.args.endpoint (sym c.in_default.is ∙ c.place_of.ensures
    ∙ ap (position (is_of c.args.endpoint)) c.deref.ensures.value) in
    absurd (let clash =
    sym (held_in_none lanes (pair_of c.args.endpoint c.args.due c.args.seq) c.self.invariant.apart none)
    ∙ ap (λ q. is_held q (pair_of c.args.endpoint c.args.due c.args.seq)) c.self.view_is ∙ c.requires.held in cc)
