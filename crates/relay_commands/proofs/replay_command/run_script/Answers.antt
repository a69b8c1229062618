use Rattle.std.proofs.Common.{Err, inr, refl, sym, ap, subst, ◌∙◌}
use Rattle.std.proofs.lemmas.Result.{err_from_is_err_and}
use Rattle.sqlite.specs.View.{doubt}
use Rattle.text_lines.specs.declared.fault.StreamFault.TheVariants.{OutOfMemory}
use Rattle.text_lines.proofs.EndLaws.{ends_at_once}
use Rattle.drill.specs.Replays.{Replays}
use Rattle.drill.specs.Restarts.{IsNoLine, Replies}
use Rattle.drill.proofs.ReplayLaws.{Replies-none}
use Rattle.relay_commands.specs.Replays.{WritesReplies}
use Rattle.relay_commands.proofs.replay_command.run_script.Goals as goal

pub returns-in_err-conn : goal.returns-in_err-conn
returns-in_err-conn g c =
    let p = err_from_is_err_and c.from_residual.result c.from_residual.ensures.1 in
    subst (WritesReplies (g.R.Read.remaining c.args.input.now) (g.O.Write.contents c.args.output.now)
    (g.O.Write.contents c.args.output.now)) (sym (p.1 ∙ ap Err p.2))
    (λ text had input output. ends_at_once Replies IsNoLine text had _ OutOfMemory Replies-none output (inr refl))

pub returns-in_err-end : goal.returns-in_err-end
unfolding doubt
returns-in_err-end g c =
    let p = err_from_is_err_and c.from_residual-in_err-end.result c.from_residual-in_err-end.ensures.1 in
    subst (WritesReplies (g.R.Read.remaining c.args.input.now) (g.O.Write.contents c.args.output.now)
    (g.O.Write.contents c.replay-end.new.output)) (sym (p.1 ∙ ap Err p.2))
    (subst (Replays (g.R.Read.remaining c.args.input.now) (g.O.Write.contents c.args.output.now)
    (g.O.Write.contents c.replay-end.new.output)) c.in_err-end.was
    (c.replay-end.ensures.replays refl (record { schema_is = c.in_ok-conn.ensures.empty.2; empty = tt })))

pub returns : goal.returns
unfolding doubt
returns g c =
    subst (Replays (g.R.Read.remaining c.args.input.now) (g.O.Write.contents c.args.output.now)
    (g.O.Write.contents c.replay-end.new.output)) c.in_ok-end.was
    (c.replay-end.ensures.replays refl (record { schema_is = c.in_ok-conn.ensures.empty.2; empty = tt }))
