use Rattle.std.proofs.Common.{◌≡◌, ◌<◌, ◌∙◌, ◌||◌, Bool, ap, arith, false, refl, sym, slice_set, subst, true}
use Rattle.std.specs.Prelude.{position}
use Rattle.claim_queue.specs.declared.lane_state.LaneState.{LaneState}
use Rattle.claim_queue.specs.Queues.{ChangesState, Gains, IsNew, free_places, pair_of, place_taken}
use Rattle.claim_queue.specs.Lanes.{is_of, queue_of}
use Rattle.claim_queue.proofs.LaneLaws.{lane_at, none_at, none_has, none_in}
use Rattle.claim_queue.proofs.QueueLaws.{first_held, free_at, state_changed, none_free, now_held, own_held, renewed}
use Rattle.claim_queue.proofs.queue.ClaimQueue.insert.Goals as goal

or_none : (a : Bool) → (a || false) ≡ a
or_none true = refl
or_none false = refl

pub insert-requires-clause-sound : goal.insert-requires-clause-sound
insert-requires-clause-sound c =
    let lanes = c.self.inside.lanes.items in
    let held = c.index_mut-lane.result.now in
    let at = c.in-Some.ensures ∙ ap (position (is_of c.args.endpoint)) c.deref.ensures.value in
    let is = c.index_mut-lane.ensures.value in
    c.self.invariant.sound c.args.endpoint held (lane_at lanes c.args.endpoint c.in-Some.place held at is).0

pub insert-requires-clause-place : goal.insert-requires-clause-place
insert-requires-clause-place c =
    let lanes = c.self.inside.lanes.items in
    let held = c.index_mut-lane.result.now in
    let at = c.in-Some.ensures ∙ ap (position (is_of c.args.endpoint)) c.deref.ensures.value in
    let is = c.index_mut-lane.ensures.value in
    subst (λ n. 0 < n) (free_at lanes c.args.endpoint held (lane_at lanes c.args.endpoint c.in-Some.place held at is).0)
    (subst (λ q. 0 < free_places q c.args.endpoint) (sym c.self.view_is) c.requires.place)

pub insert-requires-clause-unheld : goal.insert-requires-clause-unheld
insert-requires-clause-unheld c =
    let lanes = c.self.inside.lanes.items in
    let held = c.index_mut-lane.result.now in
    let at = c.in-Some.ensures ∙ ap (position (is_of c.args.endpoint)) c.deref.ensures.value in
    let is = c.index_mut-lane.ensures.value in
    none_in lanes c.in-Some.place held c.args.seq
    (none_has lanes c.args.seq (subst (λ q. IsNew q c.args.seq) (sym c.self.view_is) c.requires.unheld)) is
    (lane_at lanes c.args.endpoint c.in-Some.place held at is).1

pub renew-requires-clause-held : goal.renew-requires-clause-held
renew-requires-clause-held c =
    let lanes = c.self.inside.lanes.items in
    let held = c.index_mut-lane.result.now in
    let at = c.in-Some.ensures ∙ ap (position (is_of c.args.endpoint)) c.deref.ensures.value in
    let is = c.index_mut-lane.ensures.value in
    first_held lanes c.self.inside.firsts.items _ _ c.args.endpoint held c.self.invariant
    (lane_at lanes c.args.endpoint c.in-Some.place held at is).0 c.first-before.result c.first-before.ensures

pub renew-requires-clause-unheld : goal.renew-requires-clause-unheld
renew-requires-clause-unheld c =
    let lanes = c.self.inside.lanes.items in
    let held = c.index_mut-lane.result.now in
    let at = c.in-Some.ensures ∙ ap (position (is_of c.args.endpoint)) c.deref.ensures.value in
    let is = c.index_mut-lane.ensures.value in
    own_held lanes c.self.inside.firsts.items _ _ c.args.endpoint held c.insert.new.self c.self.invariant
    (lane_at lanes c.args.endpoint c.in-Some.place held at is).0
    (ap (λ (m : LaneState). m.endpoint) c.insert.ensures.state) c.first-before.result c.first-after.result
    c.first-before.ensures c.first-after.ensures

pub invariant_of-self : goal.invariant_of-self
invariant_of-self c =
    let lanes = c.self.inside.lanes.items in
    let held = c.index_mut-lane.result.now in
    let at = c.in-Some.ensures ∙ ap (position (is_of c.args.endpoint)) c.deref.ensures.value in
    let is = c.index_mut-lane.ensures.value in
    renewed lanes c.self.inside.firsts.items _ _ c.args.endpoint c.in-Some.place held c.insert.new.self
    c.renew.new.firsts.items _ _ c.first-before.result c.first-after.result
    c.self.invariant at is (ap (λ (m : LaneState). m.endpoint) c.insert.ensures.state) c.insert.ensures.sound
    c.first-before.ensures c.first-after.ensures c.renew.ensures.order c.renew.ensures.pairs c.renew.ensures.len
    c.renew.ensures.capacity

pub returns-in-Some-clause-pairs : goal.returns-in-Some-clause-pairs
returns-in-Some-clause-pairs c =
    let lanes = c.self.inside.lanes.items in
    let held = c.index_mut-lane.result.now in
    let at = c.in-Some.ensures ∙ ap (position (is_of c.args.endpoint)) c.deref.ensures.value in
    let is = c.index_mut-lane.ensures.value in
    subst (λ q. Gains q (queue_of (slice_set lanes c.in-Some.place c.insert.new.self))
    (pair_of c.args.endpoint c.args.due c.args.seq)) c.self.view_is
    (now_held lanes c.args.endpoint c.in-Some.place held c.insert.new.self
    (record { due = c.args.due; seq = c.args.seq }) (λ a b. a || b) c.self.invariant.apart at is
    (ap (λ (m : LaneState). m.endpoint) c.insert.ensures.state) or_none c.insert.ensures.keys)

pub returns-in-Some-clause-state : goal.returns-in-Some-clause-state
returns-in-Some-clause-state c =
    let lanes = c.self.inside.lanes.items in
    let held = c.index_mut-lane.result.now in
    let at = c.in-Some.ensures ∙ ap (position (is_of c.args.endpoint)) c.deref.ensures.value in
    let is = c.index_mut-lane.ensures.value in
    subst (λ q. ChangesState q (queue_of (slice_set lanes c.in-Some.place c.insert.new.self)) c.args.endpoint
    place_taken) c.self.view_is
    (state_changed lanes c.args.endpoint c.in-Some.place held c.insert.new.self place_taken
    at is (ap (λ (m : LaneState). m.endpoint) c.insert.ensures.state) c.insert.ensures.state)

pub returns-in_default : goal.returns-in_default
returns-in_default c =
    let lanes = c.self.inside.lanes.items in
    let none = none_at lanes c.args.endpoint (sym c.in_default.is ∙ c.place_of.ensures
    ∙ ap (position (is_of c.args.endpoint)) c.deref.ensures.value) in
    absurd (omega (
      arith,
      subst (λ q. 0 < free_places q c.args.endpoint) (sym c.self.view_is) c.requires.place,
      none_free lanes c.args.endpoint none,
    ))
