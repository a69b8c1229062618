use Rattle.std.proofs.Common.{refl, arith}
use Rattle.spool_sql.specs.Readable.{IsMemoryFault, ShowsEndpoint}
use Rattle.spool_sql.proofs.ReadableLemmas.{handed_on, at_row}
use Rattle.spool_sql.proofs.row.EndpointRowFromRow.read.Goals as goal

pub returns-in_err-read_seq-clause-refused : goal.returns-in_err-read_seq-clause-refused
returns-in_err-read_seq-clause-refused c =
    handed_on c.from_residual.result c.in_err-read_seq.field-0.0 (λ fault. ShowsEndpoint c.args.row.now
    → IsMemoryFault fault) c.from_residual.ensures.1
    (λ it. c.in_err-read_seq.ensures.refused it.0.put (at_row _ _ 0 _ it.1 (omega arith, refl)) it.2.put)

pub returns-in_err-read_seq-2-clause-refused : goal.returns-in_err-read_seq-2-clause-refused
returns-in_err-read_seq-2-clause-refused c =
    handed_on c.from_residual-in_err-read_seq-2.result c.in_err-read_seq-2.field-0.0
    (λ fault. ShowsEndpoint c.args.row.now → IsMemoryFault fault) c.from_residual-in_err-read_seq-2.ensures.1
    (λ it. c.in_err-read_seq-2.ensures.refused it.0.enabled_by (at_row _ _ 5 _ it.1 (omega arith, refl))
    it.2.enabled_by)

pub returns-in_err-read_seq-3-clause-refused : goal.returns-in_err-read_seq-3-clause-refused
returns-in_err-read_seq-3-clause-refused c =
    handed_on c.from_residual-in_err-read_seq-3.result c.in_err-read_seq-3.field-0.0
    (λ fault. ShowsEndpoint c.args.row.now → IsMemoryFault fault) c.from_residual-in_err-read_seq-3.ensures.1
    (λ it. c.in_err-read_seq-3.ensures.refused it.0.secrets_by (at_row _ _ 6 _ it.1 (omega arith, refl))
    it.2.secrets_by)
