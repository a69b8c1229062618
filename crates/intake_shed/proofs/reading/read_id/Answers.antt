use Rattle.intake_shed.proofs.MemberLaws.{many_ids}
use Rattle.std.proofs.Common.{refl}
use Rattle.intake_shed.proofs.reading.read_id.Goals as goal

pub returns-in_default-clause-refused : goal.returns-in_default-clause-refused
returns-in_default-clause-refused c = (refl, many_ids c.args.ids.now c.in_default.len_at_least)
