use Rattle.std.proofs.Common.{ℕ, List, map, take}
use Rattle.text_lines.specs.Words.{ReadSecrets}
use Rattle.text_lines.proofs.words.are_read.Given as goal

abbrev pub invariant-loop-text : goal.invariant-loop-text
invariant-loop-text g l = (secrets : List (List ℕ)) × ReadSecrets (map g.T.AsSlice.items (take l.text-index l.texts))
    secrets
