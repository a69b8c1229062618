use Rattle.std.proofs.Common.{length}
use Rattle.permits.proofs.permit.+audit_units.Given as goal

abbrev pub decreases-audit_units : goal.decreases-audit_units
decreases-audit_units g l = length l.permits.now
