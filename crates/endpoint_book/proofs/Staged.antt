-- The histories for which a book stands with one more record of an endpoint.
use Rattle.std.proofs.lemmas.Grind.{common_steps}
use Rattle.std.proofs.Common.{◌≡◌, ℕ, ◌+◌, ◌<◌, ◌≤◌, Bool, true, false, List, [], ◌∷◌, ◌++◌, Some, None, length, take}
use Rattle.std.proofs.Common.{drop, map, refl, sym, ◌∙◌, ap, cond, arith, ⊎_elim, IsTrue, length-append, append-nil}
use Rattle.std.specs.Prelude.{filter, find, is_some, bytes_eq, count_by, option_map, if◌then◌else◌}
use Rattle.std.specs.List.{cons_option}
use Rattle.std.specs.Option.{option_map_or}
use Rattle.std.specs.Cmp.Lexicographic.{bytes_decides}
use Rattle.std.proofs.lemmas.Bool.{cases_lt}
use Rattle.std.proofs.lemmas.List.{take-append-le, take_all, length-map, map-append}
use Rattle.std.proofs.lemmas.List.Folds.{find-append}
use Rattle.std.proofs.lemmas.List.Sums.{sum_by_push}
use Rattle.relay_types.specs.declared.record.Record.{Record}
use Rattle.relay_types.specs.declared.record.Record.TheVariants as on
use Rattle.relay_types.specs.Judging.{is_gone_status}
use Rattle.relay_types.specs.Endpoints.{endpoint_by, endpoints, is_delivery_of, enabled_by, is_enabled, secrets_by}
use Rattle.relay_types.specs.Endpoints.{secrets_of}
use Rattle.relay_types.specs.Legal.{IsLegal}
use Rattle.relay_types.proofs.GrowthLaws.{endpoints-snoc, is_enabled-snoc, secrets_of-snoc, accepted-before}
use Rattle.relay_types.proofs.KnownLaws.{legal_known, known_below, below_if_accepted}
use Rattle.endpoint_book.specs.declared.entry.Change.{Change}
use Rattle.endpoint_book.specs.declared.entry.Entry.{Entry}
use Rattle.endpoint_book.specs.declared.entry.Kind.{Kind}
use Rattle.endpoint_book.specs.declared.entry.Kind.TheVariants.{Put, Secrets, Flag}
use Rattle.endpoint_book.specs.Entries.{BookValue, entry_of, is_known, is_named, now_of, is_flag, is_put, is_flag_kind}
use Rattle.endpoint_book.specs.Entries.{is_put_kind, is_from, shown_with, change_at, with_put, with_change, with_flag}
use Rattle.endpoint_book.specs.Entries.{with_secrets}
use Rattle.endpoint_book.specs.Book.{StandsFor, Agrees, Shows, endpoint_by_entry, enabled_in, secrets_in, settled_in}
use Rattle.endpoint_book.specs.Book.{count_from, sets_flag}
use Rattle.endpoint_book.proofs.Names.{change_at-name}
use Rattle.endpoint_book.proofs.Pairs.{flag_unnamed, names_topic, topics-same}
use Rattle.endpoint_book.proofs.Queues.{below_more, from_more}
use Rattle.endpoint_book.proofs.Shown.{shown_at-above, shown_at-below}
use Rattle.endpoint_book.proofs.Histories.{shown-now}

-- the entry of a name in a list whose entries are changed, each by its name
pub found-map : (F : List ℕ → Entry → Entry) → ((name : List ℕ) (e : Entry) → (F name e).name ≡ e.name)
    → (es : List Entry) (name : List ℕ)
    → find (is_named name) (map (λ e. F e.name e) es) ≡ option_map (F name) (find (is_named name) es)
found-map F keeps [] name = refl
found-map F keeps (e ∷ es) name = grind (arith, bytes_decides, found-map F keeps es name)

-- One more record

-- the book with other entries and one more change
abbrev pub more : BookValue → List Entry → Change → BookValue
more book es c = record book { entries = es; changes = book.changes ++ c ∷ []; next_seq = c.seq + 1 }

shows-more : (book : BookValue) (records : List Record) (settled : ℕ) (r : Record) (c : Change) (es : List Entry)
    (place : ℕ) → StandsFor book records settled → c.seq ≡ length records → settled ≤ place
    → Agrees (more book es c) (records ++ r ∷ [])
    → ((name : List ℕ) → settled_in (more book es c) name ≡ settled_in book name)
    → ((name : List ℕ) → (if bytes_eq c.name name then Some c.shown else option_map now_of (entry_of book name))
    ≡ option_map now_of (entry_of (more book es c) name))
    → length es ≡ length book.entries + cond (is_put c) 1 0
    → Shows (more book es c) place (take place (records ++ r ∷ []))
shows-more book records settled r c es place h at_end later tells same made counted = ⊎_elim below above
    (cases_lt c.seq place)
  where
    old : Shows book place (take place records)
    old = h.shows place later

    -- the place is after the new record
    below : c.seq < place → Shows (more book es c) place (take place (records ++ r ∷ []))
    below lt =
        let whole = take_all place (records ++ r ∷ []) (omega (arith, lt, at_end, length-append records (r ∷ []))) in
        let front = take_all place records (omega (arith, lt, at_end)) in
        record {
          shown = λ name.
              grind (
                arith,
                same name,
                shown_at-below place book.changes c name (settled_in book name) lt,
                old.shown name,
                shown-now book records name h.tells,
                made name,
                shown-now (more book es c) (records ++ r ∷ []) name tells,
              );
          puts = grind (
            arith,
            below_more place book.changes c lt,
            old.puts,
            length-map es endpoint_by_entry,
            length-map
                book.entries endpoint_by_entry,
            tells.endpoints,
            h.tells.endpoints,
          );
        }

    -- the place is at the new record or before it
    above : place ≤ c.seq → Shows (more book es c) place (take place (records ++ r ∷ []))
    above ge =
        let front = take-append-le place records (r ∷ []) (omega (arith, ge, at_end)) in
        record {
          shown = λ name. grind (
            arith,
            same name,
            shown_at-above place book.changes c name (settled_in book name) ge,
            old.shown name,
          );
          puts = grind (
            arith,
            from_more place book.changes c ge,
            old.puts,
            sum_by_push (λ x. cond (is_put x) 1 0)
                (filter (is_from place) book.changes) c,
          );
        }

flags-more : (book : BookValue) (records : List Record) (settled : ℕ) (r : Record) (c : Change) (place : ℕ)
    → StandsFor book records settled → c.seq ≡ length records → settled ≤ place
    → cond (is_flag c) 1 0 ≤ cond (sets_flag r) 1 0 → count_from is_flag place (book.changes ++ c ∷ []) ≤ count_by
    sets_flag (drop place (records ++ r ∷ []))
flags-more book records settled r c place h at_end later flag = grind (arith, common_steps)

stands-more : (book : BookValue) (records : List Record) (settled : ℕ) (r : Record) (c : Change) (es : List Entry)
    → StandsFor book records settled → IsLegal (records ++ r ∷ []) → c.seq ≡ length records
    → Agrees (more book es c) (records ++ r ∷ [])
    → ((name : List ℕ) → settled_in (more book es c) name ≡ settled_in book name)
    → ((name : List ℕ) → (if bytes_eq c.name name then Some c.shown else option_map now_of (entry_of book name))
    ≡ option_map now_of (entry_of (more book es c) name))
    → length es ≡ length book.entries + cond (is_put c) 1 0 → cond (is_flag c) 1 0 ≤ cond (sets_flag r) 1 0
    → StandsFor (more book es c) (records ++ r ∷ []) settled
stands-more book records settled r c es h legal at_end tells same made counted flag = record {
  legal = legal;
  tells = tells;
  shows = λ place later. shows-more book records settled r c es place h at_end later tells same made counted;
  flags = λ place later. flags-more book records settled r c place h at_end later flag;
  next_seq = omega (arith, at_end, length-append records (r ∷ []));
  settled_seq = h.settled_seq;
}

-- A change of the endpoint of one name

pub known-same : (book : BookValue) (name asked : List ℕ) → is_known book name ≡ true → bytes_eq name asked ≡ true
    → is_some (entry_of book asked) ≡ true
known-same book name asked known same = grind (arith, bytes_decides)

pub keeps-endpoints : (name : List ℕ) (change : Entry → Entry)
    → ((e : Entry) → endpoint_by_entry (change e) ≡ endpoint_by_entry e) → (es : List Entry)
    → map endpoint_by_entry (map (λ e. change_at name change e.name e) es) ≡ map endpoint_by_entry es
keeps-endpoints name change keeps [] = refl
keeps-endpoints name change keeps (e ∷ es) = grind (arith, keeps e, keeps-endpoints name change keeps es)

pub same-endpoints : (records : List Record) (r : Record) → endpoint_by (length records, r) ≡ None
    → endpoints records ≡ endpoints (records ++ r ∷ [])
same-endpoints records r none = sym (endpoints-snoc records r ∙ ap (λ o. endpoints records ++ cons_option o []) none
    ∙ append-nil (endpoints records))

module _ (book : BookValue) (seq : ℕ) (name : List ℕ) (kind : Kind) (change : Entry → Entry) (keeps : (e : Entry)
    → endpoint_by_entry (change e) ≡ endpoint_by_entry e) where
  pub entry-changed : (asked : List ℕ) → entry_of (with_change book seq name kind change) asked ≡ option_map
      (change_at name change asked) (entry_of book asked)
  entry-changed asked = found-map (change_at name change) (change_at-name name change (λ e. ap (λ x. x.name) (keeps e)))
      book.entries asked

  -- what the change leaves alone, and what it sets
  pub field-kept : {X : Type 0} (f : Entry → X) (d : X) → ((e : Entry) → f (change e) ≡ f e) → (asked : List ℕ)
      → option_map_or f (entry_of (with_change book seq name kind change) asked) d ≡ option_map_or f
      (entry_of book asked) d
  field-kept f d kept asked = grind (arith, entry-changed asked, kept)

  pub field-set : {X : Type 0} (f : Entry → X) (d x : X) → ((e : Entry) → f (change e) ≡ x) → is_known book name ≡ true
      → (asked : List ℕ)
      → option_map_or f (entry_of (with_change book seq name kind change) asked) d
      ≡ (if bytes_eq name asked then x else option_map_or f (entry_of book asked) d)
  field-set f d x sets known asked = grind (arith, entry-changed asked, known-same book name asked known, sets)

  -- what it then shows
  pub made-changed : is_known book name ≡ true → (asked : List ℕ)
      → (if bytes_eq name asked then Some (shown_with change (entry_of book name)) else option_map now_of
      (entry_of book asked)) ≡ option_map now_of (entry_of (with_change book seq name kind change) asked)
  made-changed known asked = grind (arith, entry-changed asked, bytes_decides)

  stands-change : (records : List Record) (settled : ℕ) (r : Record) → StandsFor book records settled
      → IsLegal (records ++ r ∷ []) → seq ≡ length records → is_known book name ≡ true
      → ((e : Entry) → (change e).settled ≡ e.settled) → endpoint_by (length records, r) ≡ None
      → is_put_kind kind ≡ false → cond (is_flag_kind kind) 1 0 ≤ cond (sets_flag r) 1 0 → names_topic r ≡ false
      → ((asked : List ℕ) → enabled_in (with_change book seq name kind change) asked ≡ is_enabled (records ++ r ∷ [])
      asked)
      → ((asked : List ℕ) → secrets_in (with_change book seq name kind change) asked ≡ secrets_of (records ++ r ∷ [])
      asked)
      → StandsFor (with_change book seq name kind change) (records ++ r ∷ []) settled
  stands-change records settled r h legal at_end known settles puts no_put flag unnamed enabled secrets =
      stands-more book records settled r
      (record { seq = seq; name = name; kind = kind; shown = shown_with change (entry_of book name) })
      (map (λ e. change_at name change e.name e) book.entries) h legal at_end
      (record {
        enabled = enabled;
        secrets = secrets;
        endpoints = keeps-endpoints name change keeps book.entries ∙ h.tells.endpoints ∙ same-endpoints records r puts;
        topics = topics-same book.topics records r unnamed h.tells.topics;
      })
      (field-kept (λ e. e.settled) None settles) (made-changed known)
      (grind (arith, length-map book.entries (λ e. change_at name change e.name e))) flag

-- a record that enables or disables the endpoint
stands-flag : (book : BookValue) (records : List Record) (settled : ℕ) (r : Record) (place : ℕ) (name : List ℕ)
    (flag : Bool)
    → StandsFor book records settled → IsLegal (records ++ r ∷ []) → place ≡ length records → is_known book name ≡ true
    → endpoint_by (length records, r) ≡ None → ((asked : List ℕ) → secrets_by asked r ≡ None) → sets_flag r ≡ true
    → ((asked : List ℕ) → enabled_by (records ++ r ∷ []) asked r ≡ (if bytes_eq name asked then Some flag else None))
    → StandsFor (with_flag book place name flag) (records ++ r ∷ []) settled
stands-flag book records settled r place name flag h legal at_end known puts gives sets says =
    let below = known_below records records (legal_known records h.legal) in
    let change : Entry → Entry = λ e. record e { enabled = flag } in
    stands-change book place name Flag change (λ e. refl) records settled r h legal at_end known (λ e. refl) puts refl
    (grind arith) (flag_unnamed r sets)
    (λ asked. grind (
      arith,
      field-set book place name Flag change (λ e. refl) (λ e. e.enabled) true flag
          (λ e. refl) known asked,
      says asked,
      h.tells.enabled asked,
      is_enabled-snoc records r asked below,
    ))
    (λ asked. grind (
      arith,
      field-kept book place name Flag change (λ e. refl) (λ e. e.secrets) [] (λ e. refl) asked,
      gives asked,
      h.tells.secrets asked,
      secrets_of-snoc records r asked,
    ))

pub stands-enabled : (book : BookValue) (records : List Record) (settled place : ℕ) (name : List ℕ) (flag : Bool)
    → StandsFor book records settled → place ≡ length records → IsLegal (records ++ on.Enabled name flag ∷ [])
    → is_known book name ≡ true
    → StandsFor (with_flag book place name flag) (records ++ on.Enabled name flag ∷ []) settled
stands-enabled book records settled place name flag h at_end legal known =
    stands-flag book records settled (on.Enabled name flag) place name flag h legal at_end known refl
    (λ asked. refl) refl (λ asked. refl)

-- an Outcome of a delivery of the endpoint is one of no other
gone-says : (records : List Record) (name asked : List ℕ) (delivery attempt status at : ℕ)
    → is_gone_status status ≡ true → is_delivery_of records name delivery ≡ true
    → enabled_by (records ++ on.Outcome delivery attempt status at ∷ []) asked (on.Outcome delivery attempt status at)
    ≡ (if bytes_eq name asked then Some false else None)
gone-says records name asked delivery attempt status at gone its =
    grind (
      arith,
      accepted-before records (on.Outcome delivery attempt status at ∷ []) delivery,
      below_if_accepted
          records delivery,
      bytes_decides,
    )

pub stands-gone : (book : BookValue) (records : List Record) (settled place : ℕ) (name : List ℕ)
    (delivery attempt status at : ℕ)
    → StandsFor book records settled → place ≡ length records → IsTrue (is_gone_status status)
    → IsTrue (is_delivery_of records name delivery)
    → IsLegal (records ++ on.Outcome delivery attempt status at ∷ []) → is_known book name ≡ true
    → StandsFor (with_flag book place name false) (records ++ on.Outcome delivery attempt status at ∷ []) settled
stands-gone book records settled place name delivery attempt status at h at_end gone its legal known =
    stands-flag book records settled (on.Outcome delivery attempt status at) place name false h legal at_end known refl
    (λ asked. refl) gone
    (λ asked. gone-says records name asked delivery attempt status at gone its)

pub stands-secrets : (book : BookValue) (records : List Record) (settled place : ℕ) (name : List ℕ)
    (secrets : List (List ℕ))
    → StandsFor book records settled → place ≡ length records → IsLegal (records ++ on.Secrets name secrets ∷ [])
    → is_known book name ≡ true
    → StandsFor (with_secrets book place name secrets) (records ++ on.Secrets name secrets ∷ []) settled
stands-secrets book records settled place name secrets h at_end legal known =
    let r : Record = on.Secrets name secrets in
    let below = known_below records records (legal_known records h.legal) in
    let change : Entry → Entry = λ e. record e { secrets = secrets } in
    stands-change book place name Secrets change (λ e. refl) records settled r h legal at_end known
    (λ e. refl) refl refl (omega arith) refl
    (λ asked. grind (
      arith,
      field-kept book place name Secrets change (λ e. refl) (λ e. e.enabled) true
          (λ e. refl) asked,
      h.tells.enabled asked,
      is_enabled-snoc records r asked below,
    ))
    (λ asked. grind (
      arith,
      field-set book place name Secrets change (λ e. refl) (λ e. e.secrets) [] secrets
          (λ e. refl) known asked,
      h.tells.secrets asked,
      secrets_of-snoc records r asked,
    ))

-- A Put

module _ (book : BookValue) (e : Entry) (unknown : entry_of book e.name ≡ None) where
  pub entry_put : (asked : List ℕ) → find (is_named asked) (book.entries ++ e ∷ [])
      ≡ (if bytes_eq e.name asked then Some e else entry_of book asked)
  entry_put asked = grind (arith, find-append (is_named asked) book.entries (e ∷ []), bytes_decides e.name asked)

  -- an endpoint that is put shows nothing yet
  pub put_settled : e.settled ≡ None → (asked : List ℕ)
      → option_map_or (λ (x : Entry). x.settled) (find (is_named asked) (book.entries ++ e ∷ [])) None ≡ settled_in book
      asked
  put_settled none asked = grind (arith, entry_put asked, bytes_decides e.name asked)

  pub made_put : (asked : List ℕ)
      → (if bytes_eq e.name asked then Some (now_of e) else option_map now_of (entry_of book asked)) ≡ option_map now_of
      (find (is_named asked) (book.entries ++ e ∷ []))
  made_put asked = grind (arith, entry_put asked)

  pub secrets_put : (asked : List ℕ)
      → option_map_or (λ (x : Entry). x.secrets) (find (is_named asked) (book.entries ++ e ∷ [])) []
      ≡ (if bytes_eq e.name asked then e.secrets else secrets_in book asked)
  secrets_put asked = grind (arith, entry_put asked)

pub stands-put : (book : BookValue) (records : List Record) (settled place : ℕ) (name target : List ℕ) (limit : ℕ)
    (secrets : List (List ℕ))
    → StandsFor book records settled → place ≡ length records
    → IsLegal (records ++ on.Put name target limit secrets ∷ []) → entry_of book name ≡ None
    → StandsFor (with_put book
    (record {
      put = place;
      name = name;
      target = target;
      max = limit;
      enabled = true;
      secrets = secrets;
      settled =
          None;
    })) (records ++ on.Put name target limit secrets ∷ []) settled
stands-put book records settled place name target limit secrets h at_end legal unknown =
    let r : Record = on.Put name target limit secrets in
    let e : Entry = record {
      put = place;
      name = name;
      target = target;
      max = limit;
      enabled = true;
      secrets =
          secrets;
      settled = None;
    } in
    let below = known_below records records (legal_known records h.legal) in
    stands-more book records settled r (record { seq = place; name = name; kind = Put; shown = now_of e })
    (book.entries ++ e ∷ []) h legal at_end
    (record {
      enabled = λ asked. grind (
        arith,
        entry_put book e unknown asked,
        bytes_decides name asked,
        h.tells.enabled asked,
        is_enabled-snoc records r asked below,
      );
      secrets = λ asked. grind (
        arith,
        secrets_put book e unknown asked,
        h.tells.secrets asked,
        secrets_of-snoc records
            r asked,
      );
      endpoints = grind (
        arith,
        map-append endpoint_by_entry book.entries (e ∷ []),
        h.tells.endpoints,
        endpoints-snoc
            records r,
      );
      topics = topics-same book.topics records r refl h.tells.topics;
    })
    (put_settled book e unknown refl) (made_put book e unknown) (length-append book.entries (e ∷ [])) (omega arith)
