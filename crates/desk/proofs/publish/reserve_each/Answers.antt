use Rattle.desk.proofs.Words.{arith, subst, take_all}
use Rattle.std.specs.Prelude.{All}
use Rattle.desk.specs.Desks.{HasPlaceFor}
use Rattle.desk.proofs.PublishTies.{each_then, more_first, more_then}
use Rattle.desk.proofs.publish.reserve_each.Goals as goal

pub loop-name-init : goal.loop-name-init
loop-name-init c = record { more = more_first c.args.queue.now; each = λ k d within. absurd (omega (arith, within)) }

pub loop-name-preserved : goal.loop-name-preserved
loop-name-preserved c =
    let was = c.loop-name.invariant in
    let made = c.in_ok-reserve.ensures in
    let queue = c.loop-name.queue in
    let new = c.reserve.new.self in
    record {
      more = more_then c.args.queue.now queue new _ _ made.pairs made.state was.more;
      each = each_then queue new c.args.deliveries.now c.args.names.now c.loop-name.name-index c.pending-pending.result
          _
          c.pending-pending.ensures.value c.name-item.is c.loop-name-test.true made.state was.each;
    }

pub returns-clause-each : goal.returns-clause-each
returns-clause-each c =
    subst (All (HasPlaceFor c.loop-name.queue c.args.deliveries.now))
    (take_all c.loop-name.name-index c.args.names.now (omega (arith, c.loop-name-test.false)))
    c.loop-name.invariant.each
