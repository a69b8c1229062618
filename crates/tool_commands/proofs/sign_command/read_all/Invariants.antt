use Rattle.std.proofs.Common.{◌≤◌, vec_len}
use Rattle.std.specs.Io.KnownBytes.{Consumes}
use Rattle.relay_types.specs.declared.limits.TheConstants.{MAX_BODY_BYTES}
use Rattle.tool_commands.proofs.sign_command.read_all.Given as goal

abbrev pub invariant-loop : goal.invariant-loop
invariant-loop g l = record {
  taken : Consumes (g.R.Read.remaining l.fn.input) (g.R.Read.remaining l.input) l.bytes.items;
  most : vec_len l.bytes ≤ MAX_BODY_BYTES;
}
