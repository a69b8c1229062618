use Rattle.desk.proofs.Words.{refl, arith}
use Rattle.desk.proofs.RowLaws.{all_out, last_back, last_out, none_left}
use Rattle.desk.proofs.batches.emptied.Goals as goal

pub loop-permit-init : goal.loop-permit-init
loop-permit-init g c = all_out c.args.permits.items c.args.pool c.requires

pub loop-permit-preserved : goal.loop-permit-preserved
loop-permit-preserved g c =
    last_back c.pop.new.self.items c.in-Some.permit c.loop-permit.pool c.give_back.new.self
    (rw c.in-Some.ensures.items at c.loop-permit.invariant) c.give_back.ensures.ok

pub unreachable-requires : goal.unreachable-requires
unreachable-requires g c =
    last_out c.pop.new.self.items c.in-Some.permit c.loop-permit.pool
    (rw c.in-Some.ensures.items at c.loop-permit.invariant) (c.in-Err.ensures.foreign.0 refl)

pub returns : goal.returns
returns g c = none_left c.loop-permit.permits.items c.loop-permit.pool
    (omega (arith, (rw c.in_default.is at c.pop.ensures.cases).0)) c.loop-permit.invariant
