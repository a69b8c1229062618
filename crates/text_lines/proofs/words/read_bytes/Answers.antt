use Rattle.std.proofs.Common.{sym, ◌∙◌, inl, inr}
use Rattle.text_lines.proofs.HexLaws.{IsBodyWord-decoded, no_body}
use Rattle.text_lines.proofs.NumberLaws.{bytes_not_equal}
use Rattle.text_lines.proofs.words.read_bytes.Goals as goal

pub returns-in-Ok-clause-value : goal.returns-in-Ok-clause-value
returns-in-Ok-clause-value c = IsBodyWord-decoded c.args.word.now c.in-Ok.bytes.items (sym c.if-is_empty.ensures)
    c.in-Ok.ensures.ok

pub returns-in-Err-clause-bad : goal.returns-in-Err-clause-bad
returns-in-Err-clause-bad c = λ e bytes h.
    elim c.in-Err.ensures.err [
      | inl lacked ↦ let other = c.hex_fault.ensures.lacked lacked in cc
      | inr refused ↦ no_body c.args.word.now bytes c.in-Err.error
          (λ dash. bytes_not_equal _ _ c.eq.result c.eq.ensures c.if-eq.false (dash ∙ sym c.as_slice.ensures)) refused h
    ]
