use Rattle.std.proofs.Common.{arith, rules}
use Rattle.intake_shed.proofs.MemberLaws.{naturals-more}
use Rattle.intake_shed.proofs.done.numbers.Goals as goal

pub loop-ticket-preserved : goal.loop-ticket-preserved
loop-ticket-preserved c =
    naturals-more c.args.tickets.now c.loop-ticket.ticket-index c.ticket-item.result c.loop-ticket.values.items
    c.push.new.self.items
    c.from.result (omega arith) c.ticket-item.is c.loop-ticket.invariant (search rules) (search rules)
