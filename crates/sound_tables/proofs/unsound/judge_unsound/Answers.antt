use Rattle.std.proofs.Common.{subst}
use Rattle.sound_tables.specs.Unsound.{ReadsRelay}
use Rattle.sound_tables.proofs.unsound.judge_unsound.Goals as goal

pub returns-in-Ok-None-clause-rows : goal.returns-in-Ok-None-clause-rows
returns-in-Ok-None-clause-rows g c clean =
    subst (ReadsRelay (g.S.Store.view c.args.store.now)) c.in-Ok-None.field-0-is (c.in-Ok-None.ensures.relay clean)
