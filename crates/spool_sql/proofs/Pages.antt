-- The SELECT statements that read a table page by page.
use Rattle.std.proofs.Common.{◌≡◌, ℕ, zero, suc, pos, ◌==◌, List, [], ◌∷◌, map, take, codes, Bool, true, false, not}
use Rattle.std.proofs.Common.{Some, nat_le, refl, sym, ap, subst, ◌∙◌}
use Rattle.sqlite.specs.declared.types.Value.TheVariants.{Int}
use Rattle.sqlite_value.specs.Order.{column}
use Rattle.sqlite.specs.Order.{Row}
use Rattle.sqlite.specs.Term.{Term, col}
use Rattle.sqlite.specs.Query.{Query}
use Rattle.sqlite.specs.Listing.{understood}
use Rattle.sqlite.specs.State.{State, Shown}
use Rattle.sqlite.proofs.Callers.{reads_as}
use Rattle.sqlite_tied.specs.Compute.{everything}
use Rattle.std.specs.List.{AllByRecursion}
use Rattle.std.specs.List.Sorted.{IsPermutation}
use Rattle.sqlite_trees.proofs.ListLemmas.{all_weaker, all-filter, all-map, all-permutation}
use Rattle.relay_types.specs.Rows.{Rows, EndpointRow, DeliveryRow, AttemptRow}
use Rattle.spool_sql.specs.Tables.{relay_schema}
use Rattle.spool_sql.specs.Stored.{IsTables, IsPage, page_rows, flag_number, endpoint_stored, delivery_stored}
use Rattle.spool_sql.specs.Stored.{attempt_stored, endpoint_in, delivery_in, attempt_in}
use Rattle.spool_sql.specs.Readable.{AreReadable, IsReadableEndpoint, IsReadableDelivery, IsReadableAttempt}
use Rattle.spool_sql.specs.Readable.{ShowsEndpoint, ShowsDelivery, ShowsAttempt, endpoint_shown, delivery_shown}
use Rattle.spool_sql.specs.Readable.{attempt_shown}
use Rattle.spool_sql.specs.Queries.{IsBare}
use Rattle.spool_sql.proofs.SelectLemmas.{Asks, map_map}
use Rattle.spool_sql.proofs.UpdateLemmas.{shows}
use Rattle.spool_sql.proofs.PageLemmas.{ShowsInOrder, sorted_by, from_number, ordered_rows, passes_from, map_same}

abbrev pub page_of : ℕ → ℕ → List Term → Query
page_of t at shown = sorted_by t at (from_number at) shown (Int (pos page_rows))

all_taken : {A : Type 0} (P : A → Type 0) (n : ℕ) (xs : List A) → AllByRecursion P xs → AllByRecursion P (take n xs)
all_taken P zero xs all = tt
all_taken P (suc n) [] all = tt
all_taken P (suc n) (x ∷ xs) all = (all.0, all_taken P n xs all.1)

-- ---- the rows that a page found

module _ {X : Type 0} (number : X → ℕ) (show : X → Row) (from : ℕ) (xs : List X) (found : List Row)
    (it : ShowsInOrder number (λ x. nat_le from (number x)) show (Some page_rows) xs found) where
  -- they are the page where a row reads back from what it shows
  pub page_read : (in_row : Row → X) → ((x : X) → in_row (show x) ≡ x) → IsPage number from xs (map in_row found)
  page_read in_row back = (
    it.0,
    it.1,
    it.2,
    ap (map in_row) it.3 ∙ map_map show in_row (take page_rows it.0)
        ∙ map_same (λ x. in_row (show x)) back (take page_rows it.0),
  )

  -- each shows a row of the table, and what is so of all rows of the table
  pub page_shows : (Good : X → Type 0) (Shows : Row → Type 0) → ((x : X) → Good x → Shows (show x))
      → AllByRecursion Good xs → AllByRecursion Shows found
  page_shows Good Shows shows_good good =
      let these = all-permutation Good _ _ it.1 (all-filter Good (λ x. nat_le from (number x)) xs good) in
      subst (AllByRecursion Shows) (sym it.3) (all-map Shows show (take page_rows it.0)
      (all_weaker Good (λ x. Shows (show x)) shows_good (take page_rows it.0) (all_taken Good page_rows it.0 these)))

-- a page of a table in the order of its key
module _ {X : Type 0} (row : X → Row) (number : X → ℕ) (t : ℕ) (shown : List Term) (from : ℕ)
    (numbered : (x : X) → column (row x) 0 ≡ Int (pos (number x))) where
  pub page_found : (sql : List ℕ) (names : List (List ℕ)) → Asks relay_schema sql (page_of t 0 shown) names
      → (old new : State) (xs : List X) (found : List Row) → old.now.schema ≡ relay_schema
      → IsPermutation (old.now.trees t) (map row xs) → Shown sql (Int (pos from) ∷ []) old new found
      → ShowsInOrder number (λ x. nat_le from (number x)) (λ x. shows (Int (pos from) ∷ []) shown (row x))
      (Some page_rows) xs found
  page_found sql names asks old new xs found has are h =
      let params : Row = Int (pos from) ∷ [] in
      let read = reads_as sql params old new relay_schema has _ asks.means.is asks.means.plain asks.unlisted found h in
      ordered_rows row number t 0 (from_number 0) shown params (Int (pos page_rows)) (λ x. nat_le from (number x))
      (λ x. passes_from 0 from (row x) (number x) (numbered x)) numbered old.now.schema old.now.trees xs found are read

-- ---- endpoints

abbrev pub endpoints_page : List ℕ
endpoints_page = codes
    "SELECT put, name, url, max, enabled, enabled_by, secrets_by FROM endpoints WHERE put >= ?1 ORDER BY put LIMIT 256"

abbrev endpoint_columns : List Term
endpoint_columns = col 1 0 ∷ col 1 2 ∷ col 1 3 ∷ col 1 4 ∷ col 1 5 ∷ col 1 6 ∷ col 1 7 ∷ []

pub endpoints_page_asks : Asks relay_schema endpoints_page (page_of 1 0 endpoint_columns)
    (codes "put" ∷ codes "name" ∷ codes "url" ∷ codes "max" ∷ codes "enabled" ∷ codes "enabled_by" ∷ codes
    "secrets_by" ∷ [])
unfolding understood everything
endpoints_page_asks = record { means = record { is = refl; plain = (refl, refl) }; unlisted = refl }

pub endpoints_page_bare : IsBare endpoints_page
unfolding understood everything
endpoints_page_bare schema base = refl

pub flag_back : (flag : Bool) → not (flag_number flag == 0) ≡ flag
flag_back true = refl
flag_back false = refl

module _ (old new : State) (found : List Row) (rows : Rows) (t : IsTables old.now rows) (from : ℕ)
    (h : Shown endpoints_page (Int (pos from) ∷ []) old new found) where
  endpoints_found : ShowsInOrder (λ (e : EndpointRow). e.put) (λ e. nat_le from e.put) endpoint_shown (Some page_rows)
      rows.endpoints found
  endpoints_found =
      page_found endpoint_stored (λ (e : EndpointRow). e.put) 1 endpoint_columns from (λ e. refl) endpoints_page _
      endpoints_page_asks old new rows.endpoints found t.schema_is t.tables.five.endpoints h

  pub tells_endpoints : IsPage (λ (e : EndpointRow). e.put) from rows.endpoints (map endpoint_in found)
  tells_endpoints =
      page_read (λ (e : EndpointRow). e.put) endpoint_shown from rows.endpoints found endpoints_found endpoint_in
      (λ e. ap (λ b. record e { enabled = b }) (flag_back e.enabled))

  pub shows_endpoints : AreReadable rows → AllByRecursion ShowsEndpoint found
  shows_endpoints readable =
      page_shows (λ (e : EndpointRow). e.put) endpoint_shown from rows.endpoints found endpoints_found
      IsReadableEndpoint ShowsEndpoint
      (λ e good. (e, refl, good)) readable.endpoints

-- ---- events

abbrev pub deliveries_select : List ℕ
deliveries_select = codes "SELECT seq, endpoint, id, at, body FROM deliveries WHERE seq >= ?1 ORDER BY seq LIMIT 256"

abbrev delivery_columns : List Term
delivery_columns = col 1 0 ∷ col 1 2 ∷ col 1 3 ∷ col 1 4 ∷ col 1 5 ∷ []

pub deliveries_select_asks : Asks relay_schema deliveries_select (page_of 5 0 delivery_columns)
    (codes "seq" ∷ codes "endpoint" ∷ codes "id" ∷ codes "at" ∷ codes "body" ∷ [])
unfolding understood everything
deliveries_select_asks = record { means = record { is = refl; plain = (refl, refl) }; unlisted = refl }

pub deliveries_select_bare : IsBare deliveries_select
unfolding understood everything
deliveries_select_bare schema base = refl

module _ (old new : State) (found : List Row) (rows : Rows) (t : IsTables old.now rows) (from : ℕ)
    (h : Shown deliveries_select (Int (pos from) ∷ []) old new found) where
  deliveries_found : ShowsInOrder (λ (d : DeliveryRow). d.seq) (λ d. nat_le from d.seq) delivery_shown (Some page_rows)
      rows.deliveries found
  deliveries_found =
      page_found delivery_stored (λ (d : DeliveryRow). d.seq) 5 delivery_columns from (λ d. refl) deliveries_select _
      deliveries_select_asks old new rows.deliveries found t.schema_is t.tables.five.deliveries h

  pub tells_deliveries : IsPage (λ (d : DeliveryRow). d.seq) from rows.deliveries (map delivery_in found)
  tells_deliveries =
      page_read (λ (d : DeliveryRow). d.seq) delivery_shown from rows.deliveries found deliveries_found delivery_in
      (λ d. refl)

  pub shows_deliveries : AreReadable rows → AllByRecursion ShowsDelivery found
  shows_deliveries readable =
      page_shows (λ (d : DeliveryRow). d.seq) delivery_shown from rows.deliveries found deliveries_found
      IsReadableDelivery ShowsDelivery
      (λ d good. (d, refl, good)) readable.deliveries

-- ---- attempts

abbrev pub attempts_select : List ℕ
attempts_select = codes "SELECT seq, delivery, number, status, at FROM attempts WHERE seq >= ?1 ORDER BY seq LIMIT 256"

abbrev attempt_columns : List Term
attempt_columns = col 1 0 ∷ col 1 2 ∷ col 1 3 ∷ col 1 4 ∷ col 1 5 ∷ []

pub attempts_select_asks : Asks relay_schema attempts_select (page_of 7 0 attempt_columns)
    (codes "seq" ∷ codes "delivery" ∷ codes "number" ∷ codes "status" ∷ codes "at" ∷ [])
unfolding understood everything
attempts_select_asks = record { means = record { is = refl; plain = (refl, refl) }; unlisted = refl }

pub attempts_select_bare : IsBare attempts_select
unfolding understood everything
attempts_select_bare schema base = refl

module _ (old new : State) (found : List Row) (rows : Rows) (t : IsTables old.now rows) (from : ℕ)
    (h : Shown attempts_select (Int (pos from) ∷ []) old new found) where
  attempts_found : ShowsInOrder (λ (a : AttemptRow). a.seq) (λ a. nat_le from a.seq) attempt_shown (Some page_rows)
      rows.attempts found
  attempts_found =
      page_found attempt_stored (λ (a : AttemptRow). a.seq) 7 attempt_columns from (λ a. refl) attempts_select _
      attempts_select_asks old new rows.attempts found t.schema_is t.tables.five.attempts h

  pub tells_attempts : IsPage (λ (a : AttemptRow). a.seq) from rows.attempts (map attempt_in found)
  tells_attempts =
      page_read (λ (a : AttemptRow). a.seq) attempt_shown from rows.attempts found attempts_found attempt_in
      (λ a. refl)

  pub shows_attempts : AreReadable rows → AllByRecursion ShowsAttempt found
  shows_attempts readable =
      page_shows (λ (a : AttemptRow). a.seq) attempt_shown from rows.attempts found attempts_found
      IsReadableAttempt ShowsAttempt
      (λ a good. (a, refl, good)) readable.attempts
