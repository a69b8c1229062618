use Rattle.std.proofs.Common.{ℕ, List, IsTrue}
use Rattle.sqlite.specs.declared.types.Value.TheVariants.{Text}
use Rattle.relay_types.specs.Values.{is_msg_id}
use Rattle.spool_sql.specs.Readable.{IsAt, IsMemoryFault}
use Rattle.spool_sql.proofs.ReadableLemmas.{handed_on}
use Rattle.spool_sql.proofs.row.read_id.Goals as goal

pub returns-in_err-read_bytes-clause-refused : goal.returns-in_err-read_bytes-clause-refused
returns-in_err-read_bytes-clause-refused c =
    handed_on c.from_residual.result c.in_err-read_bytes.field-0.0 (λ fault. (text : List ℕ)
    → IsAt c.args.row.now c.args.at (Text text) → IsTrue (is_msg_id text) → IsMemoryFault fault)
    c.from_residual.ensures.1 (λ text at is. c.in_err-read_bytes.ensures.of_text text at)
