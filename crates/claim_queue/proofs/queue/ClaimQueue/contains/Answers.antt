use Rattle.std.proofs.Common.{◌≡◌, ◌∙◌, ap, sym, subst, false}
use Rattle.claim_queue.specs.Queues.{is_held, pair_of}
use Rattle.claim_queue.specs.Lanes.{lane_in}
use Rattle.claim_queue.proofs.QueueLaws.{held_in, held_in_none}
use Rattle.claim_queue.proofs.queue.ClaimQueue.contains.Goals as goal

pub returns-in-Some : goal.returns-in-Some
returns-in-Some c =
    let at = sym (c.in-Some.ensures ∙ ap (λ lanes. lane_in lanes c.args.endpoint) c.deref.ensures.value) in
    let pair = pair_of c.args.endpoint c.args.due c.args.seq in
    subst (λ q. c.has_key.result ≡ is_held q pair) c.self.view_is
    (c.has_key.ensures ∙ sym (held_in c.self.inside.lanes.items c.in-Some.lane.now pair c.self.invariant.apart at))

pub returns-in-None : goal.returns-in-None
returns-in-None c =
    let none = sym (c.in-None.ensures ∙ ap (λ lanes. lane_in lanes c.args.endpoint) c.deref.ensures.value) in
    let pair = pair_of c.args.endpoint c.args.due c.args.seq in
    subst (λ q. false ≡ is_held q pair) c.self.view_is
    (sym (held_in_none c.self.inside.lanes.items pair c.self.invariant.apart none))
