use Rattle.std.proofs.Common.{inr}
use Rattle.std.proofs.lemmas.Result.{err_from_is_err_and}
use Rattle.text_lines.specs.Answers.{AnswersFrom}
use Rattle.text_lines.proofs.AnswerLaws.{Ends-more}
use Rattle.text_lines.proofs.EndLaws.{ends_at_once, exits}
use Rattle.tool_commands.specs.declared.vegas_command.Follower.{Follower}
use Rattle.tool_commands.specs.Traces.{AnswersSample, IsNoSample, Traced}
use Rattle.tool_commands.proofs.TraceLaws.{Traced-none, Traced-from_answers}
use Rattle.tool_commands.proofs.vegas_command.trace.Goals as goal

pub returns-in_err-new : goal.returns-in_err-new
returns-in_err-new g c text had input output =
    let p = err_from_is_err_and c.from_residual.result c.from_residual.ensures.1 in
    exits (Traced c.args.explains c.args.max) IsNoSample c.from_residual.result text had _ p.0 p.1
    (ends_at_once (Traced c.args.explains c.args.max) IsNoSample text had _ p.0
    (Traced-none c.args.explains c.args.max) output (inr p.2))

pub returns : goal.returns
returns g c =
    let first : Follower = record { estimator = c.in_ok-new.field-0; explains = c.args.explains } in
    Ends-more (AnswersFrom AnswersSample first) (Traced c.args.explains c.args.max) IsNoSample
    (λ lines written. Traced-from_answers c.args.max first c.in_ok-new.ensures.maximum c.in_ok-new.ensures.empty
    c.in_ok-new.ensures.explains lines written)
    _ _ _ c.answer_lines.result (c.answer_lines.ensures.ends tt)
