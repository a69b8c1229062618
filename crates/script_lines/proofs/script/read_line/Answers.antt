use Rattle.std.proofs.Common.{◌≡◌, Result, Err, ap, sym, ◌∙◌}
use Rattle.std.proofs.lemmas.Result.{err_from_is_err_and}
use Rattle.script_lines.proofs.OneCall.{no_line}
use Rattle.script_lines.proofs.script.read_line.Goals as goal

one_fault : {T E : Type 0} (a b : E) → ◌≡◌ {A = Result T E} (Err a) (Err b) → a ≡ b
one_fault a b e = cc

pub returns-in_err-read_call-clause-bad : goal.returns-in_err-read_call-clause-bad
returns-in_err-read_call-clause-bad c = λ e.
    let p = err_from_is_err_and c.from_residual.result c.from_residual.ensures.1 in
    no_line c.args.line.now (c.in_err-read_call.ensures.bad (ap Err (sym p.2 ∙ one_fault p.0 _ (sym p.1 ∙ e))))
    (λ is. absurd (let yes = c.is_word.ensures.1 is in let no = c.if-is_word.false in cc))
