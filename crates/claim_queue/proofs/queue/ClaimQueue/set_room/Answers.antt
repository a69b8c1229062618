use Rattle.std.proofs.Common.{◌∙◌, ap, refl, sym, slice_set, subst}
use Rattle.std.specs.Prelude.{position}
use Rattle.claim_queue.specs.declared.lanes.Lane.{Lane}
use Rattle.claim_queue.specs.Queues.{ChangesState, HasSamePairs, is_reserved, with_room}
use Rattle.claim_queue.specs.Lanes.{is_of, queue_of}
use Rattle.claim_queue.proofs.LaneLaws.{lane_at, none_at}
use Rattle.claim_queue.proofs.QueueLaws.{first_held, state_changed, none_reserved, own_held, renewed, same_pairs}
use Rattle.claim_queue.proofs.queue.ClaimQueue.set_room.Goals as goal

pub renew-requires-clause-held : goal.renew-requires-clause-held
renew-requires-clause-held c =
    let lanes = c.self.inside.lanes.items in
    let held = c.index_mut-lane.result.now in
    let at = c.in-Some.ensures ∙ ap (position (is_of c.args.endpoint)) c.deref.ensures.value in
    let is = c.index_mut-lane.ensures.value in
    first_held lanes c.self.inside.firsts.items _ _ c.args.endpoint held c.self.invariant
    (lane_at lanes c.args.endpoint c.in-Some.place held at is).0 c.first-before.result c.first-before.ensures

pub renew-requires-clause-unheld : goal.renew-requires-clause-unheld
renew-requires-clause-unheld c =
    let lanes = c.self.inside.lanes.items in
    let held = c.index_mut-lane.result.now in
    let at = c.in-Some.ensures ∙ ap (position (is_of c.args.endpoint)) c.deref.ensures.value in
    let is = c.index_mut-lane.ensures.value in
    own_held lanes c.self.inside.firsts.items _ _ c.args.endpoint held
    (record held { state = with_room c.args.room held.state }) c.self.invariant
    (lane_at lanes c.args.endpoint c.in-Some.place held at is).0 refl c.first-before.result c.first-after.result
    c.first-before.ensures c.first-after.ensures

pub invariant_of-self : goal.invariant_of-self
invariant_of-self c =
    let lanes = c.self.inside.lanes.items in
    let held = c.index_mut-lane.result.now in
    let at = c.in-Some.ensures ∙ ap (position (is_of c.args.endpoint)) c.deref.ensures.value in
    let is = c.index_mut-lane.ensures.value in
    let new : Lane = record held { state = with_room c.args.room held.state } in
    let sound = c.self.invariant.sound c.args.endpoint held (lane_at lanes c.args.endpoint c.in-Some.place held at is).0
    in
    renewed lanes c.self.inside.firsts.items _ _ c.args.endpoint c.in-Some.place held new c.renew.new.firsts.items _ _
    c.first-before.result c.first-after.result
    c.self.invariant at is refl (record { order = sound.order; within = sound.within }) c.first-before.ensures
    c.first-after.ensures c.renew.ensures.order c.renew.ensures.pairs c.renew.ensures.len c.renew.ensures.capacity

pub returns-in-Some-clause-pairs : goal.returns-in-Some-clause-pairs
returns-in-Some-clause-pairs c =
    let lanes = c.self.inside.lanes.items in
    let held = c.index_mut-lane.result.now in
    let at = c.in-Some.ensures ∙ ap (position (is_of c.args.endpoint)) c.deref.ensures.value in
    let is = c.index_mut-lane.ensures.value in
    let new : Lane = record held { state = with_room c.args.room held.state } in
    subst (λ q. HasSamePairs q (queue_of (slice_set lanes c.in-Some.place new))) c.self.view_is
    (λ pair. same_pairs lanes c.in-Some.place held new pair
    is (lane_at lanes c.args.endpoint c.in-Some.place held at is).1 refl refl)

pub returns-in-Some-clause-state : goal.returns-in-Some-clause-state
returns-in-Some-clause-state c =
    let lanes = c.self.inside.lanes.items in
    let held = c.index_mut-lane.result.now in
    let at = c.in-Some.ensures ∙ ap (position (is_of c.args.endpoint)) c.deref.ensures.value in
    let is = c.index_mut-lane.ensures.value in
    let new : Lane = record held { state = with_room c.args.room held.state } in
    subst (λ q. ChangesState q (queue_of (slice_set lanes c.in-Some.place new)) c.args.endpoint (with_room c.args.room))
    c.self.view_is
    (state_changed lanes c.args.endpoint c.in-Some.place held new (with_room c.args.room) at is refl refl)

pub returns-in_default-clause-state : goal.returns-in_default-clause-state
returns-in_default-clause-state c =
    let lanes = c.self.inside.lanes.items in
    let none = none_at lanes c.args.endpoint (sym c.in_default.is ∙ c.place_of.ensures
    ∙ ap (position (is_of c.args.endpoint)) c.deref.ensures.value) in
    absurd (none_reserved lanes c.args.endpoint none (ap (λ q. is_reserved q c.args.endpoint) c.self.view_is
    ∙ c.requires.reserved))
