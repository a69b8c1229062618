use Rattle.desk.proofs.Words.{◌+◌, ap, arith, length, subst, sym, record_count, DeskValue, IsDesk}
use Rattle.desk.proofs.SettleLaws.{desk_accept}
use Rattle.desk.proofs.RequestTies.{desk_reserved}
use Rattle.desk.proofs.desk.Desk.stage_accept.Goals as goal

pub invariant_of-self-2 : goal.invariant_of-self-2
invariant_of-self-2 g c =
    desk_accept c.records-seq.result c.args.name c.args.id _ c.args.body c.args.at c.pending-pending.result
    c.records-seq.ensures.count c.in_ok-kept.ensures c.in_ok-stage_accept.ensures.accepted
    c.push_request.ensures.staged
    c.pending-pending.ensures.value
    (omega (arith, c.requires.room, ap (λ (v : DeskValue). record_count v.waiting + length v.live) c.self.view_is))
    c.in_ok-reserve.ensures.pairs c.in_ok-reserve.ensures.state c.self.invariant

pub invariant_of-self-in_err-stage_accept : goal.invariant_of-self-in_err-stage_accept
invariant_of-self-in_err-stage_accept g c =
    subst (λ book. IsDesk c.self.inside.endpoints book c.self.inside.waiting c.self.inside.pool
    c.self.inside.limiters.items c.reserve.new.self) (sym c.in_err-stage_accept.ensures.unchanged)
    (desk_reserved c.args.name (c.pending-pending.result + 1) c.in_ok-reserve.ensures.pairs
    c.in_ok-reserve.ensures.state
    c.self.invariant)
