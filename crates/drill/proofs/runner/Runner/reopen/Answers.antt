use Rattle.std.proofs.Common.{◌∙◌, subst, sym}
use Rattle.script_lines.specs.declared.reply.Reply.TheVariants as says
use Rattle.drill.specs.Restarts.{OpensAgain}
use Rattle.drill.proofs.StopLaws.{stop_taken}
use Rattle.drill.proofs.runner.Runner.reopen.Goals as goal

pub returns-in-Ok-clause-opens : goal.returns-in-Ok-clause-opens
returns-in-Ok-clause-opens g c = λ clean s on.
    let (next, opens, stands) =
    stop_taken g.S.Store s c.args.self.core c.args.self.vault c.close-pool.result.1 c.of-core.result c.in-Ok.desk
    c.in-Ok.vault on c.close-pool.ensures.same (c.in-Ok.ensures.left clean)
    (c.in-Ok.ensures.reopens clean) (c.of-core.ensures.mark ∙ c.in-Ok.ensures.mark.0
    ∙ sym c.in-Ok.ensures.mark.1) c.of-core.ensures.stands in
    (next, subst (λ n. OpensAgain s s.world.left (says.Reopened n) next) (sym c.next-records.ensures) opens, stands)
