-- The SELECT statements of topics.
use Rattle.std.proofs.Common.{◌≡◌, ◌==◌, ◌&&◌, ℕ, pos, List, [], ◌∷◌, length, map, codes, bytes_eq, true, not}
use Rattle.std.proofs.Common.{Some}
use Rattle.std.proofs.Common.{nat_le, refl, ap, ◌∙◌}
use Rattle.std.specs.List.{AllByRecursion}
use Rattle.sqlite.specs.Collation.TheVariants.{Binary}
use Rattle.sqlite_sql.specs.declared.ops.BinaryOp.TheVariants.{Compare}
use Rattle.sqlite_sql.specs.declared.ops.CompareOp.TheVariants.{Eq}
use Rattle.sqlite.specs.declared.types.Value.{Value}
use Rattle.sqlite.specs.declared.types.Value.TheVariants.{Int, Text}
use Rattle.sqlite.specs.Order.{Row}
use Rattle.sqlite.specs.Term.{Term, col, op2}
use Rattle.sqlite.specs.Query.{Query}
use Rattle.sqlite.specs.Listing.{understood}
use Rattle.sqlite.specs.State.{State, Shown}
use Rattle.sqlite.proofs.Callers.{reads_as}
use Rattle.sqlite_tied.specs.Compute.{everything}
use Rattle.relay_types.specs.Rows.{Rows, TopicRow, is_pair_row}
use Rattle.spool_sql.specs.Tables.{relay_schema}
use Rattle.spool_sql.specs.Stored.{IsTables, IsPage, page_rows, has_pair, topic_stored, topic_in}
use Rattle.spool_sql.specs.Readable.{AreReadable, IsReadableTopic, ShowsTopic, topic_shown}
use Rattle.spool_sql.specs.Queries.{IsBare}
use Rattle.spool_sql.proofs.SelectLemmas.{Asks, found_in, all_kept, any_kept, equal_numbers, equal_texts, and_true}
use Rattle.spool_sql.proofs.UpdateLemmas.{scan, passes}
use Rattle.spool_sql.proofs.PageLemmas.{ShowsInOrder, from_number, passes_from}
use Rattle.spool_sql.proofs.Pages.{page_of, page_read, page_shows, flag_back}
use Rattle.spool_sql.proofs.HiddenLemmas.{counts_hidden, ordered_hidden}
use Rattle.spool_sql.proofs.RelayLemmas.{hidden_topics}

-- ---- what the statements are

abbrev pub topic_select : List ℕ
topic_select = codes "SELECT endpoint FROM topics WHERE topic = ?1 AND endpoint = ?2"

-- of one topic and one endpoint
abbrev pub of_pair : List Term
of_pair = op2 (Compare Eq Binary) (col 1 1) (col 0 0) ∷ op2 (Compare Eq Binary) (col 1 2) (col 0 1) ∷ []

abbrev topic_query : Query
topic_query = scan 9 of_pair (col 1 2 ∷ [])

pub topic_select_asks : Asks relay_schema topic_select topic_query (codes "endpoint" ∷ [])
unfolding understood everything
topic_select_asks = record { means = record { is = refl; plain = (refl, refl) }; unlisted = refl }

pub topic_select_bare : IsBare topic_select
unfolding understood everything
topic_select_bare schema base = refl

abbrev pub topics_count : List ℕ
topics_count = codes "SELECT endpoint FROM topics"

pub topics_count_asks : Asks relay_schema topics_count (scan 9 [] (col 1 2 ∷ [])) (codes "endpoint" ∷ [])
unfolding understood everything
topics_count_asks = record { means = record { is = refl; plain = (refl, refl) }; unlisted = refl }

pub topics_count_bare : IsBare topics_count
unfolding understood everything
topics_count_bare schema base = refl

abbrev pub topics_page : List ℕ
topics_page =
    codes "SELECT topic, endpoint, subscribed, set_by FROM topics WHERE set_by >= ?1 ORDER BY set_by LIMIT 256"

abbrev topic_columns : List Term
topic_columns = col 1 1 ∷ col 1 2 ∷ col 1 3 ∷ col 1 4 ∷ []

pub topics_page_asks : Asks relay_schema topics_page (page_of 9 4 topic_columns)
    (codes "topic" ∷ codes "endpoint" ∷ codes "subscribed" ∷ codes "set_by" ∷ [])
unfolding understood everything
topics_page_asks = record { means = record { is = refl; plain = (refl, refl) }; unlisted = refl }

pub topics_page_bare : IsBare topics_page
unfolding understood everything
topics_page_bare schema base = refl

-- ---- what their answers say

abbrev pub pair_values : List ℕ → ℕ → Row
pair_values topic endpoint = Text topic ∷ Int (pos endpoint) ∷ []

pub passes_pair : (topic : List ℕ) (endpoint : ℕ) (id : Value) (x : TopicRow)
    → passes (pair_values topic endpoint) of_pair (id ∷ topic_stored x) ≡ is_pair_row topic endpoint x
passes_pair topic endpoint id x =
    rw (equal_texts x.topic topic, equal_numbers x.endpoint endpoint)
    (ap (λ b. bytes_eq x.topic topic && b) (and_true (x.endpoint == endpoint)))

module _ (old new : State) (found : List Row) (rows : Rows) (t : IsTables old.now rows) where
  pub tells_topic : (topic : List ℕ) (endpoint : ℕ) → Shown topic_select (pair_values topic endpoint) old new found
      → not (length found == 0) ≡ has_pair rows topic endpoint
  tells_topic topic endpoint h =
      let many = counts_hidden topic_stored (pair_values topic endpoint) of_pair (is_pair_row topic endpoint)
      (passes_pair topic endpoint) (col 1 2 ∷ []) rows.topics (old.now.trees 9) found
      (hidden_topics old.now.trees rows t.tables)
      (found_in relay_schema topic_select 9 of_pair (col 1 2 ∷ []) _ topic_select_asks (pair_values topic endpoint)
      old new found t.schema_is h) in
      ap (λ n. not (n == 0)) many ∙ any_kept (is_pair_row topic endpoint) rows.topics

  pub counts_topics : Shown topics_count [] old new found → length found ≡ length rows.topics
  counts_topics h =
      counts_hidden topic_stored [] [] (λ _. true) (λ id x. refl) (col 1 2 ∷ []) rows.topics (old.now.trees 9) found
      (hidden_topics old.now.trees rows t.tables)
      (found_in relay_schema topics_count 9 [] (col 1 2 ∷ []) _ topics_count_asks [] old new found t.schema_is h)
      ∙ ap length (all_kept rows.topics)

  module _ (from : ℕ) (h : Shown topics_page (Int (pos from) ∷ []) old new found) where
    topics_found : ShowsInOrder (λ (x : TopicRow). x.set_by) (λ x. nat_le from x.set_by) topic_shown (Some page_rows)
        rows.topics found
    topics_found =
        let params : Row = Int (pos from) ∷ [] in
        let read = reads_as topics_page params old new relay_schema t.schema_is _ topics_page_asks.means.is
        topics_page_asks.means.plain topics_page_asks.unlisted found h in
        ordered_hidden topic_stored params (from_number 4) (λ (x : TopicRow). nat_le from x.set_by)
        (λ id x. passes_from 4 from (id ∷ topic_stored x) x.set_by refl) topic_columns topic_shown
        (λ (x : TopicRow). x.set_by) 9 4 (Int (pos page_rows)) (λ id x. refl) (λ id x. refl) old.now.schema
        old.now.trees rows.topics found (hidden_topics old.now.trees rows t.tables) read

    pub tells_topics : IsPage (λ (x : TopicRow). x.set_by) from rows.topics (map topic_in found)
    tells_topics =
        page_read (λ (x : TopicRow). x.set_by) topic_shown from rows.topics found topics_found topic_in
        (λ x. ap (λ b. record x { subscribed = b }) (flag_back x.subscribed))

    pub shows_topics : AreReadable rows → AllByRecursion ShowsTopic found
    shows_topics readable =
        page_shows (λ (x : TopicRow). x.set_by) topic_shown from rows.topics found topics_found IsReadableTopic
        ShowsTopic (λ x good. (x, refl, good)) readable.topics
