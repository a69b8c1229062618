use Rattle.std.proofs.Common.{Err, ap}
use Rattle.recovery.proofs.AuditLaws.{refused_load}
use Rattle.recovery.proofs.audits.audit.Goals as goal

pub returns-in-Err-clause-tells : goal.returns-in-Err-clause-tells
returns-in-Err-clause-tells g c = rw c.refusal_of.ensures
    (refused_load g.S.Store c.args.vault.now c.load.new.self c.args.desk.now c.in-Err.fault
    (λ closed. c.in-Err.ensures.closed.0 (ap Err closed)) c.in-Err.ensures.sound)
