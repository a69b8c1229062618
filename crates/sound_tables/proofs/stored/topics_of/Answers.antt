use Rattle.sqlite.specs.Held.{state}
use Rattle.sqlite.proofs.StateLemmas.{unchanged}
use Rattle.sound_tables.proofs.stored.topics_of.Goals as goal

pub returns-in-First-clause-same : goal.returns-in-First-clause-same
returns-in-First-clause-same g c clean is_open = unchanged (state g.S.Store c.args.conn.now) is_open
