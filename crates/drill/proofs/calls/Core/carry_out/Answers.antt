use Rattle.std.proofs.Common.{◌∙◌}
use Rattle.drill.proofs.FollowLaws.{is_of_desk}
use Rattle.drill.proofs.VaultLaws.{vault_follows}
use Rattle.drill.proofs.calls.Core.carry_out.Goals as goal

pub returns-in_default-clause-answers : goal.returns-in_default-clause-answers
returns-in_default-clause-answers g c = λ clean s on.
    let (next, told, after) = c.call.ensures.answers.moves s on.stands in
    let below = on.stands.desk.waiting.settled_first in
    let within = on.stands.desk.waiting.sealed_within in (
      next,
      told,
      record {
        stands = after;
        holds = vault_follows g.S.Store c.args.vault.now s next c.args.event c.call.result
            (is_of_desk c.args.event c.in_default.not-Commit) below within on.holds told;
        mark = c.call.ensures.answers.mark ∙ on.mark;
      },
    )

pub returns-in_default-clause-core : goal.returns-in_default-clause-core
returns-in_default-clause-core g c = c.call.ensures.answers.keeps c.requires.core
