use Rattle.text_lines.specs.Streams.{AppendsBefore}
use Rattle.text_lines.proofs.output.write_bytes.Given as goal

abbrev pub invariant-loop : goal.invariant-loop
invariant-loop g l = AppendsBefore l.rest (g.O.Write.contents l.initial.output) (g.O.Write.contents l.output) l.fn.bytes
