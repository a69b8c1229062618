-- Why each query of the relay's tables is refused.
use Rattle.std.proofs.Common.{◌⊎◌, ℕ, pos, List, [], ◌∷◌, refl}
use Rattle.sqlite.specs.declared.types.Value.TheVariants.{Int, Text}
use Rattle.sqlite.specs.declared.error.Error.{Error}
use Rattle.sqlite.specs.Listing.{understood}
use Rattle.sqlite.specs.Order.{Row}
use Rattle.sqlite.specs.State.{State, FailsToQuery, IsTooLate}
use Rattle.sqlite_tied.specs.Compute.{everything}
use Rattle.relay_types.specs.Rows.{Rows}
use Rattle.spool_sql.specs.Stored.{IsTables}
use Rattle.spool_sql.specs.Readable.{IsRefusal}
use Rattle.spool_sql.proofs.RefusalLemmas.{refused_for}
use Rattle.spool_sql.proofs.SelectLemmas.{named_select, named_select_asks, named_select_bare, endpoints_select}
use Rattle.spool_sql.proofs.SelectLemmas.{endpoints_select_asks, endpoints_select_bare}
use Rattle.spool_sql.proofs.DeliverySelects.{endpoint_select, endpoint_select_asks, endpoint_select_bare}
use Rattle.spool_sql.proofs.DeliverySelects.{statuses_select, statuses_select_asks, statuses_select_bare}
use Rattle.spool_sql.proofs.SecretSelects.{secrets_select, secrets_select_asks, secrets_select_bare}
use Rattle.spool_sql.proofs.TopicSelects.{pair_values, topic_select, topic_select_asks, topic_select_bare, topics_count}
use Rattle.spool_sql.proofs.TopicSelects.{topics_count_asks, topics_count_bare, topics_page, topics_page_asks}
use Rattle.spool_sql.proofs.TopicSelects.{topics_page_bare}
use Rattle.spool_sql.proofs.MetaSelects.{records_select, records_select_asks, records_select_bare}
use Rattle.spool_sql.proofs.Pages.{endpoints_page, endpoints_page_asks, endpoints_page_bare, deliveries_select}
use Rattle.spool_sql.proofs.Pages.{deliveries_select_asks, deliveries_select_bare, attempts_select}
use Rattle.spool_sql.proofs.Pages.{attempts_select_asks, attempts_select_bare}
use Rattle.spool_sql.proofs.Purges.{events_select, events_select_asks, events_select_bare, tries_select}
use Rattle.spool_sql.proofs.Purges.{tries_select_asks, tries_select_bare, tries_values}

-- of tables of the relay's schema, each error of this query is that of a refusal
abbrev pub RefusesQuery : List ℕ → Row → Type 1
RefusesQuery sql params = (a b : State) (e : Error) (rows : Rows) → IsTables a.now rows → FailsToQuery sql params a b e
    ⊎ IsTooLate sql params a b e → IsRefusal a b e

pub named_refused : (name : List ℕ) → RefusesQuery named_select (Text name ∷ [])
unfolding understood everything
named_refused name a b e rows t h = refused_for named_select named_select_bare _ _ named_select_asks (Text name
    ∷ []) refl refl 1 refl refl a b e t.schema_is h

pub count_refused : RefusesQuery endpoints_select []
unfolding understood everything
count_refused a b e rows t h = refused_for endpoints_select endpoints_select_bare _ _ endpoints_select_asks [] refl refl
    1 refl refl a b e t.schema_is h

pub endpoint_of_refused : (delivery : ℕ) → RefusesQuery endpoint_select (Int (pos delivery) ∷ [])
unfolding understood everything
endpoint_of_refused delivery a b e rows t h = refused_for endpoint_select endpoint_select_bare _ _ endpoint_select_asks
    (Int (pos delivery) ∷ []) refl refl 5 refl refl a b e t.schema_is h

pub statuses_refused : (delivery : ℕ) → RefusesQuery statuses_select (Int (pos delivery) ∷ [])
unfolding understood everything
statuses_refused delivery a b e rows t h = refused_for statuses_select statuses_select_bare _ _ statuses_select_asks
    (Int (pos delivery) ∷ []) refl refl 7 refl refl a b e t.schema_is h

pub secrets_refused : (endpoint : ℕ) → RefusesQuery secrets_select (Int (pos endpoint) ∷ [])
unfolding understood everything
secrets_refused endpoint a b e rows t h = refused_for secrets_select secrets_select_bare _ _ secrets_select_asks
    (Int (pos endpoint) ∷ []) refl refl 3 refl refl a b e t.schema_is h

pub records_refused : RefusesQuery records_select []
unfolding understood everything
records_refused a b e rows t h = refused_for records_select records_select_bare _ _ records_select_asks [] refl refl 0
    refl refl a b e t.schema_is h

pub endpoints_refused : (from : ℕ) → RefusesQuery endpoints_page (Int (pos from) ∷ [])
unfolding understood everything
endpoints_refused from a b e rows t h = refused_for endpoints_page endpoints_page_bare _ _ endpoints_page_asks
    (Int (pos from) ∷ []) refl refl 1 refl refl a b e t.schema_is h

pub deliveries_refused : (from : ℕ) → RefusesQuery deliveries_select (Int (pos from) ∷ [])
unfolding understood everything
deliveries_refused from a b e rows t h = refused_for deliveries_select deliveries_select_bare _ _ deliveries_select_asks
    (Int (pos from) ∷ []) refl refl 5 refl refl a b e t.schema_is h

pub attempts_refused : (from : ℕ) → RefusesQuery attempts_select (Int (pos from) ∷ [])
unfolding understood everything
attempts_refused from a b e rows t h = refused_for attempts_select attempts_select_bare _ _ attempts_select_asks
    (Int (pos from) ∷ []) refl refl 7 refl refl a b e t.schema_is h

pub topic_refused : (topic : List ℕ) (endpoint : ℕ) → RefusesQuery topic_select (pair_values topic endpoint)
unfolding understood everything
topic_refused topic endpoint a b e rows t h =
    refused_for topic_select topic_select_bare _ _ topic_select_asks (pair_values topic endpoint) refl refl 9 refl refl
    a b e t.schema_is h

pub topics_count_refused : RefusesQuery topics_count []
unfolding understood everything
topics_count_refused a b e rows t h =
    refused_for topics_count topics_count_bare _ _ topics_count_asks [] refl refl 9 refl refl a b e t.schema_is h

pub topics_refused : (from : ℕ) → RefusesQuery topics_page (Int (pos from) ∷ [])
unfolding understood everything
topics_refused from a b e rows t h =
    refused_for topics_page topics_page_bare _ _ topics_page_asks (Int (pos from) ∷ []) refl refl 9 refl refl a b e
    t.schema_is h

pub events_refused : (from : ℕ) → RefusesQuery events_select (Int (pos from) ∷ [])
unfolding understood everything
events_refused from a b e rows t h =
    refused_for events_select events_select_bare _ _ events_select_asks (Int (pos from) ∷ []) refl refl 5 refl refl a b
    e t.schema_is h

pub tries_refused : (first last : ℕ) → RefusesQuery tries_select (tries_values first last)
unfolding understood everything
tries_refused first last a b e rows t h =
    refused_for tries_select tries_select_bare _ _ tries_select_asks (tries_values first last) refl refl 7 refl refl a b
    e t.schema_is h
