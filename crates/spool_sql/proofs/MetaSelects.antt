-- The SELECT statement of meta.
use Rattle.std.proofs.Common.{◌≡◌, ℕ, pos, List, [], ◌∷◌, map, filter, codes, Some, slice_get, option_map, refl, sym}
use Rattle.std.proofs.Common.{ap, subst, ◌∙◌}
use Rattle.std.specs.List.Sorted.{IsPermutation}
use Rattle.sqlite.specs.declared.types.Value.TheVariants.{Int}
use Rattle.sqlite.specs.Order.{Row}
use Rattle.sqlite.specs.Term.{Term, col}
use Rattle.sqlite.specs.Listing.{understood}
use Rattle.sqlite.specs.State.{State, Shown}
use Rattle.sqlite.proofs.Callers.{one_permutation}
use Rattle.sqlite_tied.specs.Compute.{everything}
use Rattle.relay_types.specs.Rows.{Rows}
use Rattle.spool_sql.specs.Tables.{relay_schema}
use Rattle.spool_sql.specs.Stored.{IsTables, number_of}
use Rattle.spool_sql.specs.Queries.{IsBare}
use Rattle.spool_sql.proofs.SelectLemmas.{Asks, found_in}
use Rattle.spool_sql.proofs.UpdateLemmas.{scan, shows, passes}

abbrev pub records_select : List ℕ
records_select = codes "SELECT records FROM meta"

abbrev counted : List Term
counted = col 1 4 ∷ []

pub records_select_asks : Asks relay_schema records_select (scan 0 [] counted) (codes "records" ∷ [])
unfolding understood everything
records_select_asks = record { means = record { is = refl; plain = (refl, refl) }; unlisted = refl }

pub records_select_bare : IsBare records_select
unfolding understood everything
records_select_bare schema base = refl

same_some : {m n : ℕ} → Some m ≡ Some n → m ≡ n
same_some e = cc

-- the answer is the number of records
pub record_shown : (old new : State) (found : List Row) (rows : Rows) → IsTables old.now rows
    → Shown records_select [] old new found → found ≡ (Int (pos rows.records) ∷ []) ∷ []
record_shown old new found rows t h =
    one_permutation _ found (subst (λ tree. IsPermutation (map (shows [] counted) (filter (passes [] []) tree)) found)
    t.tables.five.meta
    (found_in relay_schema records_select 0 [] counted _ records_select_asks [] old new found t.schema_is h))

pub tells_records : (old new : State) (found : List Row) (rows : Rows) → IsTables old.now rows
    → Shown records_select [] old new found
    → (count : ℕ) → option_map number_of (slice_get found 0) ≡ Some count → count ≡ rows.records
tells_records old new found rows t h count is =
    same_some (sym is ∙ ap (λ l. option_map number_of (slice_get l 0)) (record_shown old new found rows t h))
