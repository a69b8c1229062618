-- The SELECT statement of an endpoint's secrets.
use Rattle.std.proofs.Common.{◌==◌, ℕ, pos, negsuc, List, [], ◌∷◌, map, codes, None, refl, sym, ap, subst, ◌∙◌}
use Rattle.std.specs.List.{AllByRecursion}
use Rattle.sqlite_trees.proofs.ListLemmas.{all_weaker, all-filter, all-map, all-permutation}
use Rattle.sqlite.specs.Collation.TheVariants.{Binary}
use Rattle.sqlite_sql.specs.declared.ops.BinaryOp.TheVariants.{Compare}
use Rattle.sqlite_sql.specs.declared.ops.CompareOp.TheVariants.{Eq}
use Rattle.sqlite_value.specs.Order.{column, bytes}
use Rattle.sqlite.specs.declared.types.Value.TheVariants.{Int, Blob as Bytes}
use Rattle.sqlite.specs.Order.{Row}
use Rattle.sqlite.specs.Term.{Term, col, op2}
use Rattle.sqlite.specs.Listing.{understood}
use Rattle.sqlite.specs.State.{State, Shown}
use Rattle.sqlite.proofs.Callers.{reads_as}
use Rattle.sqlite_tied.specs.Compute.{everything}
use Rattle.relay_types.specs.Rows.{Rows, SecretRow}
use Rattle.spool_sql.specs.Tables.{relay_schema}
use Rattle.spool_sql.specs.Stored.{IsTables, AreSecretsOf, secret_stored}
use Rattle.spool_sql.specs.Readable.{AreReadable, IsReadableSecret, ShowsSecret}
use Rattle.spool_sql.specs.Queries.{IsBare}
use Rattle.spool_sql.proofs.SelectLemmas.{Asks, map_map, equal_numbers, and_true}
use Rattle.spool_sql.proofs.PageLemmas.{ShowsInOrder, sorted_by}
use Rattle.spool_sql.proofs.HiddenLemmas.{ordered_hidden}
use Rattle.spool_sql.proofs.RelayLemmas.{hidden_secrets}

abbrev pub secrets_select : List ℕ
secrets_select = codes "SELECT secret FROM secrets WHERE endpoint = ?1 ORDER BY place"

abbrev of_endpoint : List Term
of_endpoint = op2 (Compare Eq Binary) (col 1 1) (col 0 0) ∷ []

pub secrets_select_asks : Asks relay_schema secrets_select (sorted_by 3 2 of_endpoint (col 1 3 ∷ []) (Int (negsuc 0)))
    (codes "secret" ∷ [])
unfolding understood everything
secrets_select_asks = record { means = record { is = refl; plain = (refl, refl) }; unlisted = refl }

pub secrets_select_bare : IsBare secrets_select
unfolding understood everything
secrets_select_bare schema base = refl

-- the secrets of an endpoint that the answer shows, in their order
secrets_found : (old new : State) (found : List Row) (rows : Rows) → IsTables old.now rows → (endpoint : ℕ)
    → Shown secrets_select (Int (pos endpoint) ∷ []) old new found
    → ShowsInOrder (λ (s : SecretRow). s.place) (λ s. s.endpoint == endpoint) (λ s. Bytes s.secret ∷ []) None
    rows.secrets found
secrets_found old new found rows t endpoint h =
    let params : Row = Int (pos endpoint) ∷ [] in
    let read = reads_as secrets_select params old new relay_schema t.schema_is _ secrets_select_asks.means.is
    secrets_select_asks.means.plain secrets_select_asks.unlisted found h in
    ordered_hidden secret_stored params of_endpoint (λ (s : SecretRow). s.endpoint == endpoint)
    (λ id s. and_true _ ∙ equal_numbers s.endpoint endpoint) (col 1 3 ∷ []) (λ s. Bytes s.secret ∷ [])
    (λ (s : SecretRow). s.place) 3 2 (Int (negsuc 0)) (λ id s. refl) (λ id s. refl) old.now.schema old.now.trees
    rows.secrets found (hidden_secrets old.now.trees rows t.tables.five) read

pub tells_secrets : (old new : State) (found : List Row) (rows : Rows) → IsTables old.now rows → (endpoint : ℕ)
    → Shown secrets_select (Int (pos endpoint) ∷ []) old new found
    → AreSecretsOf endpoint rows (map (λ (row : Row). bytes (column row 0)) found)
tells_secrets old new found rows t endpoint h =
    let it = secrets_found old new found rows t endpoint h in (
      it.0,
      it.1,
      it.2,
      ap (map (λ (row : Row). bytes (column row 0))) it.3
          ∙ map_map (λ (s : SecretRow). Bytes s.secret ∷ []) (λ (row : Row). bytes (column row 0)) it.0,
    )

pub shows_secrets : (old new : State) (found : List Row) (rows : Rows) → IsTables old.now rows → (endpoint : ℕ)
    → Shown secrets_select (Int (pos endpoint) ∷ []) old new found → AreReadable rows
    → AllByRecursion ShowsSecret found
shows_secrets old new found rows t endpoint h readable =
    let it = secrets_found old new found rows t endpoint h in
    let these = all-permutation IsReadableSecret _ _ it.1
    (all-filter IsReadableSecret (λ (s : SecretRow). s.endpoint == endpoint) rows.secrets readable.secrets) in
    subst (AllByRecursion ShowsSecret) (sym it.3)
    (all-map ShowsSecret (λ (s : SecretRow). Bytes s.secret ∷ []) it.0
    (all_weaker IsReadableSecret (λ (s : SecretRow). ShowsSecret (Bytes s.secret ∷ [])) (λ s is. (s.secret, refl, is))
    it.0 these))
