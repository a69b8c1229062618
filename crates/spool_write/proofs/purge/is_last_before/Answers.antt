use Rattle.std.proofs.Common.{ap, false, nat_lt, ◌∙◌}
use Rattle.std.specs.Option.{option_map_or}
use Rattle.spool_sql.specs.declared.row.Tried.{Tried}
use Rattle.spool_write.proofs.PurgeLemmas.{last-is}
use Rattle.spool_write.proofs.purge.is_last_before.Goals as goal

pub returns-in-Some : goal.returns-in-Some
returns-in-Some c =
    ap (λ n. nat_lt n c.args.before) c.seconds.ensures.number
    ∙ ap (λ o. option_map_or (λ (last : Tried). nat_lt last.at c.args.before) o false)
    (c.in-Some.ensures.value ∙ last-is c.args.tries.now)
