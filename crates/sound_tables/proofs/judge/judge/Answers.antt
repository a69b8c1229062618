use Rattle.std.specs.Prelude.{MatchBool}
use Rattle.std.proofs.Common.{subst}
use Rattle.relay_types.specs.Rows.{Rows}
use Rattle.sound_tables.specs.Checks.{AreSoundAt, HasSound}
use Rattle.sound_tables.proofs.judge.judge.Goals as goal

pub returns-in-Ok-true-clause-judged : goal.returns-in-Ok-true-clause-judged
returns-in-Ok-true-clause-judged c v db is read =
    subst (λ sound. MatchBool sound (HasSound (AreSoundAt v) db c.args.records) ((all : Rows) → ¬ AreSoundAt v db all))
    c.in-Ok-true.field-0-test
    (c.in-Ok-true.ensures v db is read)

pub returns-in-Ok-false-clause-judged : goal.returns-in-Ok-false-clause-judged
returns-in-Ok-false-clause-judged c v db is read =
    subst (λ sound. MatchBool sound (HasSound (AreSoundAt v) db c.args.records) ((all : Rows) → ¬ AreSoundAt v db all))
    c.in-Ok-false.field-0-test
    (c.in-Ok-false.ensures v db is read)
