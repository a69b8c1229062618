use Rattle.std.proofs.Common.{refl, arith}
use Rattle.spool_sql.specs.Readable.{IsMemoryFault, ShowsSecret}
use Rattle.spool_sql.proofs.ReadableLemmas.{handed_on, at_row}
use Rattle.spool_sql.proofs.row.SecretFromRow.read.Goals as goal

pub returns-in_err-read_bytes-clause-refused : goal.returns-in_err-read_bytes-clause-refused
returns-in_err-read_bytes-clause-refused c =
    handed_on c.from_residual.result c.in_err-read_bytes.field-0.0 (λ fault. ShowsSecret c.args.row.now
    → IsMemoryFault fault) c.from_residual.ensures.1
    (λ it. c.in_err-read_bytes.ensures.of_blob it.0 (at_row _ _ 0 _ it.1 (omega arith, refl)))
