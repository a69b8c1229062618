use Rattle.std.proofs.Common.{map, take}
use Rattle.text_lines.specs.Words.{ReadSecrets}
use Rattle.text_lines.proofs.words.read_each.Given as goal

abbrev pub invariant-loop-text : goal.invariant-loop-text
invariant-loop-text g l = ReadSecrets (map g.T.AsSlice.items (take l.text-index l.texts)) l.secrets.items
