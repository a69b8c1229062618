use Rattle.std.proofs.Common.{◌≡◌, ◌∙◌, ap, false}
use Rattle.std.specs.Prelude.{IfOk, Result, Ok, Err, String, string_bytes}
use Rattle.std.specs.declared.alloc.Global.{Global}
use Rattle.serde_json.specs.Data.{Data}
use Rattle.serde_json.specs.Written.{compact_text, has_float}
use Rattle.intake_shed.specs.Done.{published_body, seqs_of}
use Rattle.intake_shed.proofs.MemberLaws.{floatless}
use Rattle.intake_shed.proofs.done.published_text.Goals as goal

written : {E : Type 0} (result : Result (String Global) E) (value page : Data) → has_float page ≡ false → value ≡ page
    → IfOk result (λ text. has_float value ≡ false → string_bytes text ≡ compact_text value)
    → IfOk result (λ text. string_bytes text ≡ compact_text page)
written (Ok text) value page none is h = h (ap has_float is ∙ none) ∙ ap compact_text is
written (Err e) value page none is h = tt

pub returns : goal.returns
returns c =
    let seqs = seqs_of c.args.tickets.now in
    written c.to_string.result _ (published_body c.args.id.now seqs) (floatless c.args.id.now seqs)
    c.in_ok-published_body.ensures
    c.to_string.ensures.text
