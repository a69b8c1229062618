use Rattle.std.proofs.Common.{sym, ap, ◌∙◌, ◌≡◌, Some, true, decimal}
use Rattle.text_lines.proofs.NumberLaws.{none_some, some_equal, bytes_equal, no_text, number_parsed, text_read}
use Rattle.text_lines.proofs.words.read_number.Goals as goal

pub returns-in_err-text-clause-each : goal.returns-in_err-text-clause-each
returns-in_err-text-clause-each c = λ n small e. absurd
    (no_text c.from_utf8.result _ _ c.args.word.now n c.from_utf8.ensures.cases small e
    (sym c.ok.ensures.value ∙ c.in_err-text.was))

pub returns-in_err-number-clause-each : goal.returns-in_err-number-clause-each
returns-in_err-number-clause-each c = λ n small e.
    let same = text_read c.from_utf8.result c.ok.result c.in_ok-text.text _ _ c.args.word.now c.from_utf8.ensures.cases
    c.ok.ensures.value c.in_ok-text.was in
    let parsed : c.ok-2.result ≡ Some n = number_parsed c.parse.result c.ok-2.result c.in_ok-text.text.now n
    c.parse.ensures.value.0 small (same ∙ e) c.ok-2.ensures.value in
    absurd (none_some (sym c.in_err-number.was ∙ parsed))

pub returns-clause-each : goal.returns-clause-each
returns-clause-each c = λ n small e.
    let same = text_read c.from_utf8.result c.ok.result c.in_ok-text.text _ _ c.args.word.now c.from_utf8.ensures.cases
    c.ok.ensures.value c.in_ok-text.was in
    let parsed : c.ok-2.result ≡ Some n = number_parsed c.parse.result c.ok-2.result c.in_ok-text.text.now n
    c.parse.ensures.value.0 small (same ∙ e) c.ok-2.ensures.value in
    let number : c.in_ok-number.number ≡ n = some_equal (sym c.in_ok-number.was ∙ parsed) in
    let equal : c.eq.result ≡ true = c.eq.ensures ∙ bytes_equal _ _ (c.as_bytes.ensures.value ∙ c.format.ensures.text
    ∙ ap decimal number ∙ sym e) in
    c.then_some.ensures ∙ rw equal (ap Some number)
