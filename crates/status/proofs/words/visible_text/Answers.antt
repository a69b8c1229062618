use Rattle.std.proofs.lemmas.Str.{IsUtf8-from_ascii}
use Rattle.status.proofs.AsciiTexts.{ascii_visible}
use Rattle.status.proofs.words.visible_text.Goals as goal

pub unreachable-requires : goal.unreachable-requires
unreachable-requires c = c.in-Err.ensures.cases.0
    (IsUtf8-from_ascii c.args.text.now (ascii_visible c.args.text.now c.requires))
