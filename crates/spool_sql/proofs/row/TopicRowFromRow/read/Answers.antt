use Rattle.std.proofs.Common.{refl, arith}
use Rattle.spool_sql.specs.Readable.{IsMemoryFault, ShowsTopic}
use Rattle.spool_sql.proofs.ReadableLemmas.{handed_on, at_row}
use Rattle.spool_sql.proofs.row.TopicRowFromRow.read.Goals as goal

pub returns-in_err-read_seq-clause-refused : goal.returns-in_err-read_seq-clause-refused
returns-in_err-read_seq-clause-refused c =
    handed_on c.from_residual-in_err-read_seq.result c.in_err-read_seq.field-0.0
    (λ fault. ShowsTopic c.args.row.now → IsMemoryFault fault) c.from_residual-in_err-read_seq.ensures.1
    (λ it. c.in_err-read_seq.ensures.refused it.0.endpoint (at_row _ _ 1 _ it.1 (omega arith, refl)) it.2.endpoint)

pub returns-in_err-read_seq-2-clause-refused : goal.returns-in_err-read_seq-2-clause-refused
returns-in_err-read_seq-2-clause-refused c =
    handed_on c.from_residual-in_err-read_seq-2.result c.in_err-read_seq-2.field-0.0
    (λ fault. ShowsTopic c.args.row.now → IsMemoryFault fault) c.from_residual-in_err-read_seq-2.ensures.1
    (λ it. c.in_err-read_seq-2.ensures.refused it.0.set_by (at_row _ _ 3 _ it.1 (omega arith, refl)) it.2.set_by)
