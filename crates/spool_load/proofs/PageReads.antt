-- Reads of a legal history are refused only for memory or by the store.
use Rattle.std.proofs.Common.{◌≡◌, true, false, List, IsTrue}
use Rattle.std.specs.Prelude.{nat_lt}
use Rattle.std.specs.Option.{option_map_or}
use Rattle.sqlite.specs.State.{State, HasCleanDisk, IsUnchanged, Survives}
use Rattle.relay_types.specs.Rows.{Rows}
use Rattle.relay_types.specs.Values.{Seq}
use Rattle.spool_sql.specs.declared.row.RowFault.{RowFault}
use Rattle.spool_sql.specs.declared.row.RowFault.TheVariants.{Failed, Unreadable}
use Rattle.spool_sql.specs.Readable.{IsRowRefusal}
use Rattle.spool_sql.specs.Steps.{Spares}
use Rattle.spool_sql.specs.Stored.{IsPage, IsTables}
use Rattle.spool_sql.proofs.BothRefused.{refusal_since}
use Rattle.spool_sql.specs.Reading.{ComeNext}
use Rattle.spool_sql.proofs.PageLaws.{last_number}
use Rattle.spool_load.proofs.QuietReads.{IsQuiet, IsReadTo, clean_before, comes_next, page_rises, quiet_look}
use Rattle.spool_load.proofs.QuietReads.{quiet_then, tables_along}

-- What refused one of two calls refused both

module _ (a b c : State) (early : Survives a b (λ _. ⊥)) (late : Survives b c (λ _. ⊥)) (clean : HasCleanDisk c) where
  row_refusal_since : (fault : RowFault) → IsRowRefusal b c fault → IsRowRefusal a c fault
  row_refusal_since Unreadable none = none
  row_refusal_since (Failed error) refusal = refusal_since a b c early late clean error refusal

-- a read of tables that were read before it
pub refused_behind : (a b c : State) → IsQuiet a b → Spares b c → HasCleanDisk c → IsTrue a.is_open
    → (rows : Rows) (fault : RowFault) → IsTables a.now rows
    → (HasCleanDisk b → IsTrue b.is_open → IsTables b.now rows → IsRowRefusal b c fault) → IsRowRefusal a c fault
refused_behind a b c quiet spares clean is_open rows fault tables refused =
    let at_b = clean_before b c spares clean in
    let open_b = (quiet.unchanged at_b is_open).0.is_open in
    row_refusal_since a b c quiet.spares.survives spares.survives clean fault
    (refused at_b open_b (tables_along a b rows quiet at_b open_b tables))

-- A page that was looked up after the reads before

module _ {X : Type 0} (number : X → Seq) (table : List X) (a b m : State) (rows : Rows) (P : List X → Type 0)
    (from : Seq) (page : List X)
    (quiet : IsQuiet a b) (look : Spares b m) (same : HasCleanDisk m → IsUnchanged b m)
    (so_far : HasCleanDisk b → IsTables a.now rows → IsReadTo number table P from)
    (found : HasCleanDisk m → IsTables b.now rows → IsPage number from table page) where
  is_page : HasCleanDisk m → IsTrue a.is_open → IsTables a.now rows → IsReadTo number table P from
      × IsPage number from table page
  is_page clean is_open tables =
      let early = clean_before b m look clean in
      (so_far early tables, found clean (tables_along a b rows quiet early (same clean).0.was_open tables))

  -- why it isn't taken in
  pub page_refused : (z : State) (fault : RowFault) → Spares m z → HasCleanDisk z → IsTrue a.is_open
      → IsTables a.now rows → (IsTrue m.is_open → IsTables m.now rows → ComeNext table P page → IsRowRefusal m z fault)
      → IsRowRefusal a z fault
  page_refused z fault step clean is_open tables refused =
      refused_behind a m z (quiet_then a b m quiet (quiet_look b m look same)) step clean is_open rows fault tables
      (λ at_m open_m here.
      let both = is_page at_m is_open tables in
      refused open_m here (comes_next number table P from page both.0 both.1))

  -- its last row isn't below the number where it begins
  pub page_ends : HasCleanDisk m → IsTrue a.is_open → IsTables a.now rows
      → option_map_or (λ last. nat_lt last from) (last_number number page) false ≡ true → ⊥
  page_ends clean is_open tables =
      let both = is_page clean is_open tables in
      page_rises number table P from page both.0 both.1
