use Rattle.std.proofs.Common.{◌≡◌, ◌∙◌, ap, sym, subst}
use Rattle.std.specs.Option.{option_map_or}
use Rattle.claim_queue.specs.Queues.{free_places}
use Rattle.claim_queue.specs.Lanes.{lane_in}
use Rattle.claim_queue.proofs.QueueLaws.{state_at, no_state}
use Rattle.claim_queue.proofs.queue.ClaimQueue.free_places.Goals as goal

pub returns-in-Some : goal.returns-in-Some
returns-in-Some c =
    let at = sym (c.in-Some.ensures ∙ ap (λ lanes. lane_in lanes c.args.endpoint) c.deref.ensures.value) in
    subst (λ q. c.in-Some.lane.now.state.free ≡ free_places q c.args.endpoint) c.self.view_is
    (sym (ap (λ o. option_map_or (λ m. m.free) o 0)
    (state_at c.self.inside.lanes.items c.args.endpoint c.in-Some.lane.now at)))

pub returns-in-None : goal.returns-in-None
returns-in-None c =
    let none = sym (c.in-None.ensures ∙ ap (λ lanes. lane_in lanes c.args.endpoint) c.deref.ensures.value) in
    subst (λ q. 0 ≡ free_places q c.args.endpoint) c.self.view_is
    (sym (ap (λ o. option_map_or (λ m. m.free) o 0) (no_state c.self.inside.lanes.items c.args.endpoint none)))
