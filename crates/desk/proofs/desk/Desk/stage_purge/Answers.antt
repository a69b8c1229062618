use Rattle.desk.proofs.Words.{◌+◌, ap, arith, length, record_count, subst, DeskValue, Purge, Takes}
use Rattle.desk.proofs.PurgeTies.{desk_purged}
use Rattle.desk.proofs.desk.Desk.stage_purge.Goals as goal

pub invariant_of-self : goal.invariant_of-self
invariant_of-self g c =
    desk_purged c.records-seq.result c.args.before c.records-seq.ensures.count c.stage_purge.ensures.value
    c.push_request.ensures.staged
    (omega (arith, c.requires.room, ap (λ (v : DeskValue). record_count v.waiting + length v.live) c.self.view_is))
    c.self.invariant

pub returns-clause-stands : goal.returns-clause-stands
returns-clause-stands g c =
    let entry = Purge c.args.before in
    let book = c.stage_purge.new.self in
    subst (λ (v : DeskValue). Takes v.deliveries (record_count v.waiting) entry book) c.self.view_is
    (subst (λ seq. Takes c.self.inside.deliveries seq entry book) c.records-seq.ensures.count
    c.stage_purge.ensures.stands)
