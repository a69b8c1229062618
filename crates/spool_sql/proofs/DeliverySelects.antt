-- The SELECT statements of one event.
use Rattle.std.proofs.Common.{◌≡◌, ◌==◌, ◌^◌, ℕ, pos, List, [], ◌∷◌, map, filter, codes, Option, slice_get, option_map}
use Rattle.std.proofs.Common.{refl, sym, subst, ◌∙◌}
use Rattle.std.specs.List.{AllByRecursion}
use Rattle.std.specs.List.Sorted.{IsPermutation}
use Rattle.std.proofs.lemmas.List.Sorted.{IsPermutation-map}
use Rattle.sqlite.specs.Collation.TheVariants.{Binary}
use Rattle.sqlite_sql.specs.declared.ops.BinaryOp.TheVariants.{Compare}
use Rattle.sqlite_sql.specs.declared.ops.CompareOp.TheVariants.{Eq}
use Rattle.sqlite.specs.declared.types.Value.TheVariants.{Int}
use Rattle.sqlite.specs.Order.{Row}
use Rattle.sqlite.specs.Term.{Term, col, op2}
use Rattle.sqlite.specs.Listing.{understood}
use Rattle.sqlite.specs.State.{State, Shown}
use Rattle.sqlite_tied.specs.Compute.{everything}
use Rattle.relay_types.specs.Rows.{Rows, DeliveryRow, AttemptRow}
use Rattle.spool_sql.specs.Tables.{relay_schema}
use Rattle.spool_sql.specs.Stored.{IsTables, IsEndpointOf, AreStatusesOf, number_of, delivery_stored, attempt_stored}
use Rattle.relay_types.specs.declared.limits.TheConstants.{MAX_RECORDS}
use Rattle.spool_sql.specs.Readable.{IsReadableDelivery, IsReadableAttempt, ShowsBelow}
use Rattle.spool_sql.specs.Queries.{IsBare}
use Rattle.spool_sql.proofs.SelectLemmas.{Asks, finds, finds_all, found_in, map_map, equal_numbers, and_true}
use Rattle.spool_sql.proofs.SelectLemmas.{first_number}
use Rattle.spool_sql.proofs.UpdateLemmas.{scan, shows}

abbrev pub endpoint_select : List ℕ
endpoint_select = codes "SELECT endpoint FROM deliveries WHERE seq = ?1"

abbrev by_seq : List Term
by_seq = op2 (Compare Eq Binary) (col 1 0) (col 0 0) ∷ []

pub endpoint_select_asks : Asks relay_schema endpoint_select (scan 5 by_seq (col 1 2 ∷ [])) (codes "endpoint" ∷ [])
unfolding understood everything
endpoint_select_asks = record { means = record { is = refl; plain = (refl, refl) }; unlisted = refl }

pub endpoint_select_bare : IsBare endpoint_select
unfolding understood everything
endpoint_select_bare schema base = refl

abbrev pub statuses_select : List ℕ
statuses_select = codes "SELECT status FROM attempts WHERE delivery = ?1"

abbrev by_delivery : List Term
by_delivery = op2 (Compare Eq Binary) (col 1 2) (col 0 0) ∷ []

pub statuses_select_asks : Asks relay_schema statuses_select (scan 7 by_delivery (col 1 4 ∷ [])) (codes "status" ∷ [])
unfolding understood everything
statuses_select_asks = record { means = record { is = refl; plain = (refl, refl) }; unlisted = refl }

pub statuses_select_bare : IsBare statuses_select
unfolding understood everything
statuses_select_bare schema base = refl

-- what a row that shows one number says
numbers_of : {X : Type 0} (n : X → ℕ) (xs : List X) (found : List Row)
    → IsPermutation (map (λ x. Int (pos (n x)) ∷ []) xs) found → IsPermutation (map n xs) (map number_of found)
numbers_of n xs found same = subst (λ l. IsPermutation l (map number_of found))
    (map_map (λ x. Int (pos (n x)) ∷ []) number_of xs) (IsPermutation-map number_of _ _ same)

module _ (old new : State) (found : List Row) (rows : Rows) (t : IsTables old.now rows) (delivery : ℕ) where
  abbrev params : Row
  params = Int (pos delivery) ∷ []

  endpoint_found : Asks relay_schema endpoint_select (scan 5 by_seq (col 1 2 ∷ [])) (codes "endpoint" ∷ [])
      → Shown endpoint_select params old new found
      → IsPermutation (map (λ (d : DeliveryRow). shows params (col 1 2 ∷ []) (delivery_stored d))
      (filter (λ (d : DeliveryRow). d.seq == delivery) rows.deliveries)) found
  endpoint_found asks h =
      finds delivery_stored params by_seq (col 1 2 ∷ []) (λ (d : DeliveryRow). d.seq == delivery)
      (λ d. and_true _ ∙ equal_numbers d.seq delivery) (old.now.trees 5) rows.deliveries found
      t.tables.five.deliveries
      (found_in relay_schema endpoint_select 5 by_seq (col 1 2 ∷ []) _ asks params old new found t.schema_is h)

  statuses_found : Asks relay_schema statuses_select (scan 7 by_delivery (col 1 4 ∷ [])) (codes "status" ∷ [])
      → Shown statuses_select params old new found
      → IsPermutation (map (λ (a : AttemptRow). shows params (col 1 4 ∷ []) (attempt_stored a))
      (filter (λ (a : AttemptRow). a.delivery == delivery) rows.attempts)) found
  statuses_found asks h =
      finds attempt_stored params by_delivery (col 1 4 ∷ []) (λ (a : AttemptRow). a.delivery == delivery)
      (λ a. and_true _ ∙ equal_numbers a.delivery delivery) (old.now.trees 7) rows.attempts found
      t.tables.five.attempts
      (found_in relay_schema statuses_select 7 by_delivery (col 1 4 ∷ []) _ asks params old new found t.schema_is h)

  pub tells_endpoint : Asks relay_schema endpoint_select (scan 5 by_seq (col 1 2 ∷ [])) (codes "endpoint" ∷ [])
      → Shown endpoint_select params old new found
      → (put : Option ℕ) → put ≡ option_map number_of (slice_get found 0) → IsEndpointOf delivery rows put
  tells_endpoint asks h put is = (
    map number_of found,
    numbers_of (λ (d : DeliveryRow). d.endpoint) _ found (endpoint_found asks h),
    is
        ∙ sym (first_number found),
  )

  pub shows_endpoint : Asks relay_schema endpoint_select (scan 5 by_seq (col 1 2 ∷ [])) (codes "endpoint" ∷ [])
      → Shown endpoint_select params old new found → AllByRecursion IsReadableDelivery rows.deliveries
      → AllByRecursion (ShowsBelow MAX_RECORDS) found
  shows_endpoint asks h good =
      finds_all delivery_stored params (col 1 2 ∷ []) (λ (d : DeliveryRow). d.seq == delivery) IsReadableDelivery
      (ShowsBelow MAX_RECORDS) (λ d is. (d.endpoint, refl, is.endpoint)) rows.deliveries found
      (endpoint_found asks h) good

  pub tells_statuses : Asks relay_schema statuses_select (scan 7 by_delivery (col 1 4 ∷ [])) (codes "status" ∷ [])
      → Shown statuses_select params old new found
      → AreStatusesOf delivery rows (map number_of found)
  tells_statuses asks h = numbers_of (λ (a : AttemptRow). a.status) _ found (statuses_found asks h)

  pub shows_statuses : Asks relay_schema statuses_select (scan 7 by_delivery (col 1 4 ∷ [])) (codes "status" ∷ [])
      → Shown statuses_select params old new found → AllByRecursion IsReadableAttempt rows.attempts
      → AllByRecursion (ShowsBelow (2 ^ 16)) found
  shows_statuses asks h good =
      finds_all attempt_stored params (col 1 4 ∷ []) (λ (a : AttemptRow). a.delivery == delivery) IsReadableAttempt
      (ShowsBelow (2 ^ 16)) (λ a is. (a.status, refl, is.status)) rows.attempts found (statuses_found asks h) good
