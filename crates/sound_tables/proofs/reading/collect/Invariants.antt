use Rattle.std.proofs.Common.{◌≡◌, List, ℕ}
use Rattle.sqlite.specs.Held.{state}
use Rattle.sqlite.specs.State.{HasCleanDisk}
use Rattle.sound_tables.specs.Reading.{HasTaken}
use Rattle.sound_tables.proofs.ReadingLemmas.{IsStill}
use Rattle.sound_tables.proofs.reading.collect.Given as goal

abbrev pub invariant-each : goal.invariant-each
invariant-each g l = record {
  same_reference : l.rows.conn.ghost_name ≡ l.fn.rows.conn.ghost_name;
  still : IsStill g.S.Store l.fn.rows.conn.now l.rows.conn.now;
  taken : HasCleanDisk (state g.S.Store l.rows.conn.now) → (sql : List ℕ)
      → HasTaken g.S.Store g.T.Reading.is_shown sql l.fn.rows.conn.now l.fn.found.items
      → HasTaken g.S.Store g.T.Reading.is_shown sql l.rows.conn.now l.found.items;
}
