-- The statements of a purge.
use Rattle.std.proofs.Common.{◌≡◌, ◌==◌, ◌&&◌, ℕ, pos, negsuc, List, [], ◌∷◌, map, take, filter, codes, not, nat_le}
use Rattle.std.proofs.Common.{Some}
use Rattle.std.proofs.Common.{Ok, refl, sym, ap, subst, ◌∙◌}
use Rattle.std.specs.List.{AllByRecursion}
use Rattle.std.specs.List.Sorted.{IsPermutation, IsNonDecreasingBy}
use Rattle.std.proofs.lemmas.List.{take-map}
use Rattle.std.proofs.lemmas.List.Sorted.{IsPermutation-map}
use Rattle.sqlite_trees.proofs.ListLemmas.{all_weaker, all-filter, all-map, all-permutation, filter-map}
use Rattle.sqlite.specs.Collation.TheVariants.{Binary}
use Rattle.sqlite_sql.specs.declared.ops.BinaryOp.TheVariants.{Compare}
use Rattle.sqlite_sql.specs.declared.ops.CompareOp.TheVariants.{Eq, Ge, Le}
use Rattle.sqlite.specs.declared.types.Value.TheVariants.{Int}
use Rattle.sqlite.specs.Order.{Row}
use Rattle.sqlite.specs.Term.{Term, col, op2}
use Rattle.sqlite_schema.specs.declared.program.Program.{Program}
use Rattle.sqlite.specs.Command.TheVariants.{Delete}
use Rattle.sqlite.specs.Listing.{understood}
use Rattle.sqlite.specs.State.{State, Shown, Executes}
use Rattle.sqlite.proofs.Callers.{reads_as}
use Rattle.sqlite_tied.specs.Compute.{everything}
use Rattle.relay_types.specs.declared.limits.TheConstants.{MAX_RECORDS}
use Rattle.relay_types.specs.Rows.{Rows, DeliveryRow, AttemptRow}
use Rattle.spool_sql.specs.Tables.{relay_schema, deliveries, attempts}
use Rattle.spool_sql.specs.Stored.{IsTables, IsPage, AreTriesBetween, HaveOwnNumbers, page_rows, number_of, tried_in}
use Rattle.spool_sql.specs.Stored.{is_between}
use Rattle.spool_sql.specs.Stored.{delivery_stored, attempt_stored, without_attempts, without_delivery}
use Rattle.spool_sql.specs.Steps.{Makes}
use Rattle.spool_sql.specs.Readable.{AreReadable, IsReadableDelivery, IsReadableAttempt, ShowsBelow, ShowsTried}
use Rattle.spool_sql.specs.Readable.{tried_shown}
use Rattle.spool_sql.specs.Queries.{IsBare}
use Rattle.spool_sql.proofs.InsertLemmas.{Means}
use Rattle.spool_sql.proofs.SelectLemmas.{Asks, map_map, equal_numbers, and_true}
use Rattle.spool_sql.proofs.UpdateLemmas.{scan, scanned}
use Rattle.spool_sql.proofs.ChangeLemmas.{deletes}
use Rattle.spool_sql.proofs.Changes.{own_number, same_number}
use Rattle.spool_sql.proofs.DeleteLemmas.{deleted_typed, attempts_alone}
use Rattle.spool_sql.proofs.RelayLemmas.{idle, others_of, other_deliveries, other_attempts}
use Rattle.spool_sql.proofs.HiddenLemmas.{rises_typed}
use Rattle.spool_sql.proofs.PageLemmas.{ShowsInOrder, at_least, at_most}
use Rattle.spool_sql.proofs.PairOrder.{sorted_by_both, rows_by_both}
use Rattle.spool_sql.proofs.Pages.{page_of, page_found, page_shows}

-- ---- the numbers of events, page by page

abbrev pub events_select : List ℕ
events_select = codes "SELECT seq FROM deliveries WHERE seq >= ?1 ORDER BY seq LIMIT 256"

pub events_select_asks : Asks relay_schema events_select (page_of 5 0 (col 1 0 ∷ [])) (codes "seq" ∷ [])
unfolding understood everything
events_select_asks = record { means = record { is = refl; plain = (refl, refl) }; unlisted = refl }

pub events_select_bare : IsBare events_select
unfolding understood everything
events_select_bare schema base = refl

abbrev number : DeliveryRow → ℕ
number d = d.seq

abbrev event_shown : DeliveryRow → Row
event_shown d = Int (pos d.seq) ∷ []

module _ (old new : State) (found : List Row) (rows : Rows) (t : IsTables old.now rows) (from : ℕ)
    (h : Shown events_select (Int (pos from) ∷ []) old new found) where
  events_found : ShowsInOrder number (λ d. nat_le from d.seq) event_shown (Some page_rows) rows.deliveries found
  events_found =
      page_found delivery_stored number 5 (col 1 0 ∷ []) from (λ d. refl) events_select _ events_select_asks old new
      rows.deliveries found t.schema_is t.tables.five.deliveries h

  pub tells_events : IsPage (λ (n : ℕ). n) from (map number rows.deliveries) (map number_of found)
  tells_events =
      let it = events_found in (
        map number it.0,
        subst (λ l. IsPermutation l (map number it.0)) (sym (filter-map (nat_le from) number rows.deliveries))
            (IsPermutation-map number _ _ it.1),
        rises_typed number (λ n. n) it.0 it.2,
        ap (map number_of) it.3 ∙ map_map event_shown number_of (take page_rows it.0)
            ∙ sym (take-map number page_rows it.0),
      )

  pub shows_events : AreReadable rows → AllByRecursion (ShowsBelow MAX_RECORDS) found
  shows_events readable =
      page_shows number event_shown from rows.deliveries found events_found IsReadableDelivery (ShowsBelow MAX_RECORDS)
      (λ d good. (d.seq, refl, good.seq)) readable.deliveries

-- ---- what came of the attempts at an event

abbrev pub tries_select : List ℕ
tries_select =
    codes "SELECT delivery, status, at FROM attempts WHERE delivery >= ?1 AND delivery <= ?2 ORDER BY delivery, number"

abbrev of_deliveries : List Term
of_deliveries = op2 (Compare Ge Binary) (col 1 2) (col 0 0) ∷ op2 (Compare Le Binary) (col 1 2) (col 0 1) ∷ []

abbrev tried_columns : List Term
tried_columns = col 1 2 ∷ col 1 4 ∷ col 1 5 ∷ []

pub tries_select_asks : Asks relay_schema tries_select
    (sorted_by_both 7 2 3 of_deliveries tried_columns (Int (negsuc 0)))
    (codes "delivery" ∷ codes "status" ∷ codes "at" ∷ [])
unfolding understood everything
tries_select_asks = record { means = record { is = refl; plain = (refl, refl) }; unlisted = refl }

pub tries_select_bare : IsBare tries_select
unfolding understood everything
tries_select_bare schema base = refl

abbrev pub tries_values : ℕ → ℕ → Row
tries_values first last = Int (pos first) ∷ Int (pos last) ∷ []

module _ (old new : State) (found : List Row) (rows : Rows) (t : IsTables old.now rows) (first last : ℕ)
    (h : Shown tries_select (tries_values first last) old new found) where
  tries_found : (all : List AttemptRow) × IsPermutation (filter (is_between first last) rows.attempts) all
      × IsNonDecreasingBy (λ (a : AttemptRow). a.delivery) all
      × ((n : ℕ) → IsNonDecreasingBy (λ (a : AttemptRow). a.number) (filter (λ (a : AttemptRow). a.delivery == n) all))
      × (found ≡ map tried_shown all)
  tries_found =
      let params = tries_values first last in
      let read = reads_as tries_select params old new relay_schema t.schema_is _ tries_select_asks.means.is
      tries_select_asks.means.plain tries_select_asks.unlisted found h in
      rows_by_both attempt_stored (λ (a : AttemptRow). a.delivery) (λ (a : AttemptRow). a.number) 7 2 3 of_deliveries
      tried_columns params (Int (negsuc 0)) (is_between first last)
      (λ a. rw (at_least a.delivery first, at_most a.delivery last)
      (ap (λ b. nat_le first a.delivery && b) (and_true (nat_le a.delivery last))))
      (λ a. refl) (λ a. refl) old.now.schema old.now.trees rows.attempts found t.tables.five.attempts read

  pub tells_tries : AreTriesBetween first last rows (map tried_in found)
  tells_tries =
      let it = tries_found in
      (it.0, it.1, it.2, it.3, ap (map tried_in) it.4 ∙ map_map tried_shown tried_in it.0)

  pub shows_tries : AreReadable rows → AllByRecursion ShowsTried found
  shows_tries readable =
      let it = tries_found in
      let these = all-permutation IsReadableAttempt _ _ it.1
      (all-filter IsReadableAttempt (is_between first last) rows.attempts readable.attempts) in
      subst (AllByRecursion ShowsTried) (sym it.4)
      (all-map ShowsTried tried_shown it.0
      (all_weaker IsReadableAttempt (λ a. ShowsTried (tried_shown a)) (λ a good. (a, refl, good)) it.0 these))

-- ---- what is taken out

abbrev pub attempts_delete : List ℕ
attempts_delete = codes "DELETE FROM attempts WHERE delivery = ?1"

abbrev pub delivery_delete : List ℕ
delivery_delete = codes "DELETE FROM deliveries WHERE seq = ?1"

abbrev of_delivery : List Term
of_delivery = op2 (Compare Eq Binary) (col 1 2) (col 0 0) ∷ []

abbrev by_seq : List Term
by_seq = op2 (Compare Eq Binary) (col 1 0) (col 0 0) ∷ []

abbrev deleted_attempts : Program
deleted_attempts = record { lets = []; body = scan 7 of_delivery (col 1 0 ∷ []) }

abbrev deleted_delivery : Program
deleted_delivery = record { lets = []; body = scan 5 by_seq (col 1 0 ∷ []) }

attempts_delete_means : Means relay_schema attempts_delete (Delete 4 deleted_attempts)
unfolding understood everything
attempts_delete_means = record { is = refl; plain = (refl, refl) }

delivery_delete_means : Means relay_schema delivery_delete (Delete 3 deleted_delivery)
unfolding understood everything
delivery_delete_means = record { is = refl; plain = (refl, refl) }

module _ (old new : State) where
  pub makes_without_attempts : (delivery count : ℕ)
      → Executes attempts_delete (Int (pos delivery) ∷ []) old new (Ok count)
      → (rows : Rows) → HaveOwnNumbers rows.attempts → IsTables old.now rows
      → IsTables new.now (without_attempts delivery rows)
  makes_without_attempts delivery count h rows once t =
      let params : Row = Int (pos delivery) ∷ [] in
      let test = λ (a : AttemptRow). a.delivery == delivery in
      let u = deletes relay_schema attempts_delete params 4 deleted_attempts (record attempts { tree = 7 })
      attempts_delete_means refl idle old new count t.schema_is h in
      let found = scanned 7 of_delivery (col 1 0 ∷ []) relay_schema old.now.trees params u.0 u.1 in
      let w = u.2 in
      let all = filter (λ (a : AttemptRow). not (test a)) rows.attempts in
      let left = deleted_typed attempt_stored params of_delivery test
      (λ a. and_true _ ∙ equal_numbers a.delivery delivery) (λ a. own_number a.seq) rows.attempts (old.now.trees 7) u.0
      (attempts_alone test rows.attempts once) t.tables.five.attempts found in
      record {
        schema_is = w.schema_is;
        tables = other_attempts 2 old.now.trees new.now.trees rows t.tables w.sound (others_of old new 7 _ w) all
            (subst (λ x. IsPermutation x (map attempt_stored all)) (sym w.rows_are) left);
      }

  pub makes_without_delivery : (seq count : ℕ) → Executes delivery_delete (Int (pos seq) ∷ []) old new (Ok count)
      → Makes old new (without_delivery seq)
  makes_without_delivery seq count h rows t =
      let params : Row = Int (pos seq) ∷ [] in
      let test = λ (d : DeliveryRow). d.seq == seq in
      let u = deletes relay_schema delivery_delete params 3 deleted_delivery (record deliveries { tree = 5 })
      delivery_delete_means refl idle old new count t.schema_is h in
      let found = scanned 5 by_seq (col 1 0 ∷ []) relay_schema old.now.trees params u.0 u.1 in
      let w = u.2 in
      let all = filter (λ (d : DeliveryRow). not (test d)) rows.deliveries in
      let left = deleted_typed delivery_stored params by_seq test
      (λ d. and_true _ ∙ equal_numbers d.seq seq) (λ d. own_number d.seq) rows.deliveries (old.now.trees 5) u.0
      (λ ys same x y there other. same_number seq x.seq y.seq) t.tables.five.deliveries found in
      record {
        schema_is = w.schema_is;
        tables = other_deliveries 2 old.now.trees new.now.trees rows t.tables w.sound (others_of old new 5 _ w) all
            (subst (λ x. IsPermutation x (map delivery_stored all)) (sym w.rows_are) left);
      }
