use Rattle.std.proofs.Common.{Err, sym, ap, subst, ◌∙◌}
use Rattle.std.proofs.lemmas.Result.{err_from_is_err_and}
use Rattle.text_lines.specs.Parts.{texts}
use Rattle.tool_commands.specs.Signs.{WritesSignature}
use Rattle.tool_commands.proofs.SignLaws.{failed}
use Rattle.tool_commands.proofs.sign_command.sign_body.Goals as goal

pub returns-in_err-sign_asked : goal.returns-in_err-sign_asked
returns-in_err-sign_asked g c =
    let p = err_from_is_err_and c.from_residual-in_err-sign_asked.result c.from_residual-in_err-sign_asked.ensures.1 in
    let why = c.in_err-sign_asked.ensures in
    subst (WritesSignature c.args.id.now c.args.at.now (texts c.args.secrets.now) (g.R.Read.remaining c.args.input.now)
    (g.O.Write.contents c.args.output.now) (g.O.Write.contents c.sign_asked.new.output)) (sym (p.1 ∙ ap Err p.2))
    (failed c.args.id.now c.args.at.now (texts c.args.secrets.now) c.in_ok-asked.asked _ _ _ _
    c.in_ok-asked.ensures.asked (λ e. why.too_long (ap Err e)) (λ e. why.cut (ap Err e)) why.unwritten why.faults)
