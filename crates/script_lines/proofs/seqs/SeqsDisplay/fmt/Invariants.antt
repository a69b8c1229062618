use Rattle.std.proofs.Common.{◌∷◌, get_or, take}
use Rattle.std.specs.Fmt.{HasWritten, IsPlainFormatter}
use Rattle.script_lines.specs.Replies.{numbers_text}
use Rattle.script_lines.proofs.seqs.SeqsDisplay.fmt.Given as goal

abbrev pub invariant-loop-seq : goal.invariant-loop-seq
invariant-loop-seq g l =
    IsPlainFormatter l.fn.f
    → HasWritten g.W.Write.write_str_gives l.fn.f (numbers_text (get_or l.fn.self 0 0 ∷ take l.seq-index l.others))
    l.f
