use Rattle.std.proofs.Common.{◌≡◌, ◌∙◌, ap, sym, subst}
use Rattle.std.specs.Prelude.{is_some}
use Rattle.claim_queue.specs.Queues.{is_reserved}
use Rattle.claim_queue.specs.Lanes.{lane_in}
use Rattle.claim_queue.proofs.LaneLaws.{state_is}
use Rattle.claim_queue.proofs.QueueLaws.{some_map}
use Rattle.claim_queue.proofs.queue.ClaimQueue.is_reserved.Goals as goal

pub returns : goal.returns
returns c =
    let lanes = c.self.inside.lanes.items in
    subst (λ q. c.is_some.result ≡ is_reserved q c.args.endpoint) c.self.view_is
    (c.is_some.ensures ∙ sym (some_map (λ lent. lent.now) c.lane_of.result)
    ∙ ap is_some (c.lane_of.ensures ∙ ap (λ all. lane_in all c.args.endpoint) c.deref.ensures.value)
    ∙ sym (ap is_some (state_is lanes c.args.endpoint) ∙ some_map (λ lane. lane.state) (lane_in lanes c.args.endpoint)))
