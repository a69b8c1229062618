use Rattle.desk.proofs.Words.{◌+◌, ap, arith, length, record_count, subst, DeskValue, Stages, Subscribed}
use Rattle.desk.proofs.RequestTies.{desk_subscribed}
use Rattle.desk.proofs.desk.Desk.stage_subscribed.Goals as goal

pub invariant_of-self-2 : goal.invariant_of-self-2
invariant_of-self-2 g c =
    desk_subscribed c.records-seq.result c.args.topic c.args.name c.args.flag c.records-seq.ensures.count
    c.in_ok-stage_subscribed.ensures.subscribed c.push_request.ensures.staged
    (omega (arith, c.requires.room, ap (λ (v : DeskValue). record_count v.waiting + length v.live) c.self.view_is))
    c.self.invariant

pub returns-clause-stands : goal.returns-clause-stands
returns-clause-stands g c =
    let entry = Subscribed c.args.topic c.args.name c.args.flag in
    let book = c.stage_subscribed.new.self in
    subst (λ (v : DeskValue). Stages v.endpoints book (record_count v.waiting) entry) c.self.view_is
    (subst (λ seq. Stages c.self.inside.endpoints book seq entry) c.records-seq.ensures.count
    c.in_ok-stage_subscribed.ensures.stands)
