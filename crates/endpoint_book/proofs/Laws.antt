-- The histories for which a book stands with a record that changes no endpoint but perhaps a topic, or with more
-- records settled, and what it tells of them.
use Rattle.std.proofs.Common.{◌≡◌, ℕ, ◌+◌, ◌<◌, ◌≤◌, Bool, List, [], ◌∷◌, ◌++◌, None, length, take, drop, map, refl}
use Rattle.std.proofs.Common.{sym, ◌∙◌, ap, arith, ⊎_elim, IsTrue, length-append}
use Rattle.std.specs.Prelude.{filter, count_by, is_some, unwrap_or, if◌then◌else◌}
use Rattle.std.proofs.lemmas.Bool.{cases_lt}
use Rattle.std.proofs.lemmas.Grind.{common_steps}
use Rattle.std.proofs.lemmas.List.{take-append-le, take_all, length-map}
use Rattle.relay_types.specs.declared.record.Record.{Record}
use Rattle.relay_types.specs.declared.record.Record.TheVariants as on
use Rattle.relay_types.specs.Endpoints.{endpoint_by, endpoints, enabled_by, is_enabled, secrets_by, secrets_of}
use Rattle.relay_types.specs.Legal.{IsLegal}
use Rattle.relay_types.proofs.GrowthLaws.{is_enabled-snoc, secrets_of-snoc}
use Rattle.relay_types.proofs.KnownLaws.{legal_known, known_below}
use Rattle.endpoint_book.specs.declared.entry.Change.{Change}
use Rattle.endpoint_book.specs.declared.entry.Entry.{Entry}
use Rattle.endpoint_book.specs.Entries.{BookValue, entry_of, is_flag, is_put, is_from, is_below, shown_at, settled_at}
use Rattle.endpoint_book.specs.Entries.{with_settled, with_topic}
use Rattle.endpoint_book.specs.Topics.{TellsTopics, TopicsValue, flag_of, with_pair}
use Rattle.endpoint_book.specs.Book.{StandsFor, Agrees, Shows, endpoint_by_entry, settled_in, count_from, sets_flag}
use Rattle.endpoint_book.specs.Book.{is_other, shown_of, view_of, settled_view}
use Rattle.endpoint_book.specs.Laws.{IsIdle}
use Rattle.endpoint_book.proofs.Shown.{shown_in_turn, shown_still, from_later, from_all}
use Rattle.endpoint_book.proofs.Histories.{known-entry, shown-now, shown-none, view-front}
use Rattle.endpoint_book.proofs.Staged.{same-endpoints}
use Rattle.endpoint_book.proofs.Pairs.{flag-same, other_unnamed, pairs-same, topics-more}
use Rattle.endpoint_book.proofs.InStep.{entry_settled, settled_moved}

-- Records that change no endpoint

-- the book with other topics and a later next record
abbrev beside : BookValue → TopicsValue → ℕ → BookValue
beside book ts next = record book { topics = ts; next_seq = next }

stands-beside : (book : BookValue) (records : List Record) (settled : ℕ) (r : Record) (ts : TopicsValue) (next : ℕ)
    → StandsFor book records settled → IsLegal (records ++ r ∷ [])
    → ((name : List ℕ) → is_enabled (records ++ r ∷ []) name ≡ is_enabled records name)
    → ((name : List ℕ) → secrets_of (records ++ r ∷ []) name ≡ secrets_of records name)
    → endpoints (records ++ r ∷ []) ≡ endpoints records → TellsTopics ts (records ++ r ∷ [])
    → next ≤ length (records ++ r ∷ [])
    → StandsFor (beside book ts next) (records ++ r ∷ []) settled
stands-beside book records settled r ts next h legal enabled secrets same told within = record {
  legal = legal;
  tells = tells;
  shows = λ place later. ⊎_elim (behind place later) (before place later) (cases_lt (length records) place);
  flags = λ place later. grind (arith, common_steps, h.flags place later);
  next_seq = within;
  settled_seq = h.settled_seq;
}
  where
    tells : Agrees (beside book ts next) (records ++ r ∷ [])
    tells = record {
      enabled = λ asked. h.tells.enabled asked ∙ sym (enabled asked);
      secrets = λ asked. h.tells.secrets asked ∙ sym (secrets asked);
      endpoints = h.tells.endpoints ∙ sym same;
      topics = told;
    }

    behind : (place : ℕ) → settled ≤ place → length records < place
        → Shows (beside book ts next) place (take place (records ++ r ∷ []))
    behind place later lt =
        let whole = take_all place (records ++ r ∷ []) (omega (arith, lt, length-append records (r ∷ []))) in
        let front = take_all place records (omega (arith, lt)) in
        record {
          shown = λ asked.
              (h.shows place later).shown asked ∙ ap (λ rs. shown_of rs asked) front
              ∙ shown-now book records asked h.tells
              ∙ sym (shown-now (beside book ts next) (records ++ r ∷ []) asked tells) ∙ ap (λ rs. shown_of rs asked)
              (sym whole);
          puts = (λ i. length ((ap endpoints whole ∙ same ∙ ap endpoints (sym front)) i) + count_from is_put place
              book.changes) ∙ (h.shows place later).puts;
        }

    before : (place : ℕ) → settled ≤ place → place ≤ length records
        → Shows (beside book ts next) place (take place (records ++ r ∷ []))
    before place later ge =
        let front = take-append-le place records (r ∷ []) ge in
        record {
          shown = λ asked. (h.shows place later).shown asked ∙ ap (λ rs. shown_of rs asked) (sym front);
          puts = ap (λ rs. length (endpoints rs) + count_from is_put place book.changes) front
              ∙ (h.shows place later).puts;
        }

pub stands-idle : (book : BookValue) (records : List Record) (settled : ℕ) (r : Record) → StandsFor book records settled
    → IsLegal (records ++ r ∷ []) → IsIdle records r → StandsFor book (records ++ r ∷ []) settled
stands-idle book records settled r h legal idle =
    stands-beside book records settled r book.topics book.next_seq h legal idle.enabled idle.secrets idle.same
    (record {
      flags = λ topic name. h.tells.topics.flags topic name ∙ sym (idle.subscribed topic name);
      count = h.tells.topics.count ∙ sym idle.pairs;
    })
    (omega (arith, h.next_seq, length-append records (r ∷ [])))

-- a record of a topic, which may make the pairs one more
pub stands-topic : (book : BookValue) (records : List Record) (settled place : ℕ) (topic name : List ℕ) (flag : Bool)
    → StandsFor book records settled → place ≡ length records → IsLegal (records ++ on.Subscribed topic name flag ∷ [])
    → length (with_pair book.topics topic name flag) ≡ length book.topics
    + (if is_some (flag_of book.topics topic name) then 0 else 1)
    → StandsFor (with_topic book place topic name flag) (records ++ on.Subscribed topic name flag ∷ []) settled
stands-topic book records settled place topic name flag h at_end legal counted =
    let r : Record = on.Subscribed topic name flag in
    stands-beside book records settled r (with_pair book.topics topic name flag) (place + 1) h legal
    (λ asked. is_enabled-snoc records r asked (known_below records records (legal_known records h.legal)))
    (λ asked. secrets_of-snoc records r asked)
    (sym (same-endpoints records r refl)) (topics-more book.topics records topic name flag h.tells.topics counted)
    (omega (arith, at_end, length-append records (r ∷ [])))

-- an Accept, a Purge, or an Outcome that doesn't say that the endpoint is gone, leaves the book standing
pub stands-other : (book : BookValue) (records : List Record) (settled : ℕ) (r : Record)
    → StandsFor book records settled → IsLegal (records ++ r ∷ []) → IsTrue (is_other r)
    → StandsFor book (records ++ r ∷ []) settled
stands-other book records settled r h legal other = stands-idle book records settled r h legal (record {
  enabled = λ asked. is_enabled-snoc records r asked (known_below records records (legal_known records h.legal))
      ∙ ap (λ o. unwrap_or o (is_enabled records asked)) (enables asked);
  secrets = λ asked. secrets_of-snoc records r asked ∙ ap (λ o. unwrap_or o (secrets_of records asked)) (gives asked);
  same = sym (same-endpoints records r puts);
  subscribed = λ topic name. flag-same records r topic name (other_unnamed r other);
  pairs = ap length (pairs-same records r (other_unnamed r other));
})
  where
    puts : endpoint_by (length records, r) ≡ None
    puts = grind arith

    gives : (asked : List ℕ) → secrets_by asked r ≡ None
    gives asked = grind arith

    enables : (asked : List ℕ) → enabled_by (records ++ r ∷ []) asked r ≡ None
    enables asked = grind arith

-- More records are settled

kept_endpoints : (place : ℕ) (changes : List Change) (es : List Entry)
    → map endpoint_by_entry (map (λ e. settled_at place changes e.name e) es) ≡ map endpoint_by_entry es
kept_endpoints place changes [] = refl
kept_endpoints place changes (e ∷ es) = grind (arith, kept_endpoints place changes es)

pub stands-settled : (book : BookValue) (records : List Record) (settled place : ℕ) → StandsFor book records settled
    → settled ≤ place → place ≤ length records
    → book.changes ≡ filter (is_below place) book.changes ++ filter (is_from place) book.changes
    → StandsFor (with_settled book place) records place
stands-settled book records settled place h later within parted = record {
  legal = h.legal;
  tells = record {
    enabled = λ asked. grind (arith, entry_settled book place asked, h.tells.enabled asked);
    secrets = λ asked. grind (arith, entry_settled book place asked, h.tells.secrets asked);
    endpoints = kept_endpoints place book.changes book.entries ∙ h.tells.endpoints;
    topics = h.tells.topics;
  };
  shows = λ p le. record {
    shown = λ asked.
        grind (
          arith,
          settled_moved book place asked (unknown asked),
          shown_in_turn place p book.changes asked (settled_in book asked) le parted,
          (h.shows p (omega (arith, later, le))).shown asked,
        );
    puts = omega (
      arith,
      (h.shows p (omega (arith, later, le))).puts,
      ap (count_by is_put)
          (from_later place p book.changes le),
      length-map book.entries (λ e. settled_at place book.changes e.name e),
    );
  };
  flags = λ p le. omega (
    arith,
    h.flags p (omega (arith, later, le)),
    ap (count_by is_flag)
        (from_later place p book.changes le),
  );
  next_seq = omega (arith, h.next_seq, within);
  settled_seq = refl;
}
  where
    unknown : (asked : List ℕ) → entry_of book asked ≡ None → shown_at place book.changes asked None ≡ None
    unknown asked none = grind (
      arith,
      (h.shows place later).shown asked,
      shown-none records place asked,
      known-entry
          book records asked h.tells,
    )

-- Answers about what isn't settled

pub settled-told : (book : BookValue) (records : List Record) (settled : ℕ) (name : List ℕ)
    → StandsFor book records settled → filter (is_below book.settled_seq) book.changes ≡ []
    → settled_view book name ≡ view_of (take settled records) name
settled-told book records settled name h waiting =
    let still = shown_still settled book.changes name (settled_in book name)
    (ap (λ s. filter (is_below s) book.changes) (sym h.settled_seq) ∙ waiting) in
    let told = view-front book records settled name (settled_in book name) h.tells
    (sym still ∙ (h.shows settled (omega arith)).shown name) in
    grind arith

-- what isn't settled counts from the settled place on
all_count : (test : Change → Bool) (book : BookValue) (records : List Record) (settled : ℕ)
    → StandsFor book records settled → filter (is_below book.settled_seq) book.changes ≡ []
    → book.changes ≡ filter (is_below book.settled_seq) book.changes ++ filter (is_from book.settled_seq) book.changes
    → count_from test settled book.changes ≡ count_by test book.changes
all_count test book records settled h waiting parted = ap (λ s. count_from test s book.changes) (sym h.settled_seq)
    ∙ ap (count_by test) (from_all book.settled_seq book.changes waiting parted)

pub settled-count : (book : BookValue) (records : List Record) (settled : ℕ) → StandsFor book records settled
    → filter (is_below book.settled_seq) book.changes ≡ []
    → book.changes ≡ filter (is_below book.settled_seq) book.changes ++ filter (is_from book.settled_seq) book.changes
    → length (endpoints (take settled records)) + count_by is_put book.changes ≡ length book.entries
settled-count book records settled h waiting parted = omega
    (arith, (h.shows settled (omega arith)).puts, all_count is_put book records settled h waiting parted)

pub settled-flags : (book : BookValue) (records : List Record) (settled : ℕ) → StandsFor book records settled
    → filter (is_below book.settled_seq) book.changes ≡ []
    → book.changes ≡ filter (is_below book.settled_seq) book.changes ++ filter (is_from book.settled_seq) book.changes
    → count_by is_flag book.changes ≤ count_by sets_flag (drop settled records)
settled-flags book records settled h waiting parted = omega
    (arith, h.flags settled (omega arith), all_count is_flag book records settled h waiting parted)
