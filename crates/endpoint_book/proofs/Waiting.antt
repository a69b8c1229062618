-- What a book has of the records that wait, as one more waits and as they are settled.
use Rattle.std.proofs.Common.{◌≡◌, ℕ, zero, suc, ◌+◌, ◌<◌, ◌≤◌, Bool, true, false, ◌&&◌, not, List, [], ◌∷◌, ◌++◌}
use Rattle.std.proofs.Common.{append-nil, Option, Some, None, length, take, drop, map, refl, sym, ◌∙◌, ap, arith, subst}
use Rattle.std.proofs.Common.{IfSome, length-append, ⊎_elim}
use Rattle.std.specs.Prelude.{filter, filter_map, is_some, bytes_eq, nat_lt, option_map, unwrap_or, if◌then◌else◌}
use Rattle.std.specs.List.{cons_option, enumerate_from, list_all}
use Rattle.std.specs.Option.{option_or}
use Rattle.std.proofs.lemmas.Bool.{cases_lt, ltb-false}
use Rattle.std.proofs.lemmas.List.{take-append-le, take-append-drop, take_all, map-append}
use Rattle.std.proofs.lemmas.Simd.{map-map}
use Rattle.std.proofs.Math.Seq.{take-add}
use Rattle.std.proofs.lemmas.List.Elements.{filter-append, filter_map-append}
use Rattle.relay_types.specs.declared.record.Record.{Record}
use Rattle.relay_types.specs.declared.record.Record.TheVariants as on
use Rattle.relay_types.specs.Lists.{last_of}
use Rattle.relay_types.specs.Judging.{is_gone_status}
use Rattle.relay_types.specs.Endpoints.{Endpoint, endpoint_by, secrets_by}
use Rattle.relay_types.specs.Subscriptions.{subscribed_by}
use Rattle.relay_types.proofs.GrowthLaws.{enumerate_from-snoc}
use Rattle.endpoint_book.specs.declared.entry.Change.{Change}
use Rattle.endpoint_book.specs.declared.entry.Entry.{Entry}
use Rattle.endpoint_book.specs.declared.entry.Kind.TheVariants.{Put}
use Rattle.endpoint_book.specs.declared.entry.Shown.{Shown}
use Rattle.endpoint_book.specs.Entries.{BookValue, change_at, entry_of, is_below, is_from, is_known, new_entry, now_of}
use Rattle.endpoint_book.specs.Entries.{settled_at, shown_at, shown_with, with_change, with_flag, with_put}
use Rattle.endpoint_book.specs.Entries.{with_secrets, with_settled, with_topic}
use Rattle.endpoint_book.specs.Topics.{TopicsValue, flag_of, last_flag, with_pair}
use Rattle.endpoint_book.specs.Book.{endpoint_by_entry, is_other, secrets_in, settled_in}
use Rattle.endpoint_book.specs.Waiting.{HasChanges, IsInStep, Told, changed_by, changes_from, endpoints_from}
use Rattle.endpoint_book.specs.Waiting.{is_changed_by, is_put_from, kind_of, shown_after, shown_behind, told_by}
use Rattle.endpoint_book.specs.Waiting.{told_of}
use Rattle.endpoint_book.proofs.Shown.{from_all, shown_at-above, shown_at-below, shown_in_turn}
use Rattle.endpoint_book.proofs.InStep.{entry_settled, latest_same, put_kept, settled_moved}
use Rattle.endpoint_book.proofs.Staged.{entry-changed, field-kept, keeps-endpoints, known-same, made-changed, made_put}
use Rattle.endpoint_book.proofs.Staged.{more, put_settled, secrets_put}
use Rattle.endpoint_book.proofs.Filters.{filter_mapped, none_if}
use Rattle.endpoint_book.proofs.Pairs.{flag-put, last_flag-snoc, names_topic, none_said, other_unnamed}

-- Lists

filter_weaker : {X : Type 0} (p q : X → Bool) (xs : List X) → ((x : X) → p x ≡ true → q x ≡ true)
    → filter p (filter q xs) ≡ filter p xs
filter_weaker p q [] weaker = refl
filter_weaker p q (x ∷ xs) weaker = grind (arith, filter_weaker p q xs weaker)

last_of-append : {X : Type 0} (xs ys : List X) (y : X) → last_of ys ≡ Some y → last_of (xs ++ ys) ≡ Some y
last_of-append [] ys y e = e
last_of-append (x ∷ []) [] y e = absurd (let wrong = e in cc)
last_of-append (x ∷ []) (z ∷ ys) y e = e
last_of-append (x ∷ w ∷ xs) ys y e = last_of-append (w ∷ xs) ys y e

-- What numbered records give, where each gives something with its own number

module _ {X : Type 0} (give : (ℕ × Record) → Option X) (number : X → ℕ) (own : (n : ℕ) (entry : Record) (x : X)
    → give (n, entry) ≡ Some x → number x ≡ n) where
  all_from : (n place : ℕ) (records : List Record) → place ≤ n → filter (λ x. not (nat_lt (number x) place))
      (filter_map give (enumerate_from n records)) ≡ filter_map give (enumerate_from n records)
  all_from n place [] within = refl
  all_from n place (entry ∷ rest) within = grind
      (arith, own n entry, all_from (n + 1) place rest (omega (arith, within)))

  left_from : (n k place : ℕ) (records : List Record) → place ≡ n + k → filter (λ x. not (nat_lt (number x) place))
      (filter_map give (enumerate_from n records)) ≡ filter_map give (enumerate_from place (drop k records))
  left_from n zero place records is = grind (arith, all_from)
  left_from n (suc k) place [] is = refl
  left_from n (suc k) place (entry ∷ rest) is = grind
      (arith, own n entry, left_from (n + 1) k place rest (omega (arith, is)))

given-snoc : {X : Type 0} (give : (ℕ × Record) → Option X) (n : ℕ) (records : List Record) (entry : Record)
    → filter_map give (enumerate_from n (records ++ entry ∷ [])) ≡ filter_map give (enumerate_from n records)
    ++ cons_option (give (n + length records, entry)) []
given-snoc give n records entry = ap (filter_map give) (enumerate_from-snoc n records entry)
    ∙ filter_map-append give (enumerate_from n records) ((n + length records, entry) ∷ [])

told_own : (at : ℕ → Option (List ℕ)) (n : ℕ) (entry : Record) (t : Told) → told_by at (n, entry) ≡ Some t → t.seq ≡ n
told_own at n entry t = grind arith

endpoint_own : (n : ℕ) (entry : Record) (x : Endpoint) → endpoint_by (n, entry) ≡ Some x → x.put ≡ n
endpoint_own n entry x e = grind arith

-- The changes stand in the order of their numbers

abbrev Rises : ℕ → List Change → Type 0
Rises n [] = Unit {0}
Rises n (c ∷ cs) = (n ≤ c.seq) × Rises (c.seq + 1) cs

rises_sooner : (n m : ℕ) (cs : List Change) → n ≤ m → Rises m cs → Rises n cs
rises_sooner n m [] sooner h = tt
rises_sooner n m (c ∷ cs) sooner h = (omega (arith, sooner, h.0), h.1)

rises_told : (at : ℕ → Option (List ℕ)) (n : ℕ) (records : List Record) (cs : List Change)
    → map told_of cs ≡ changes_from at n records → Rises n cs
rises_told at n [] [] e = tt
rises_told at n [] (c ∷ cs) e = absurd (let wrong = e in cc)
rises_told at n (entry ∷ rest) cs e = by (told_by at (n, entry)) refl cs e (rises_told at (n + 1) rest)
  where
    by : (o : Option Told) → told_by at (n, entry) ≡ o → (ds : List Change)
        → map told_of ds ≡ cons_option o (changes_from at (n + 1) rest)
        → ((es : List Change) → map told_of es ≡ changes_from at (n + 1) rest → Rises (n + 1) es) → Rises n ds
    by None is ds same later = rises_sooner n (n + 1) ds (omega arith) (later ds same)
    by (Some t) is [] same later = tt
    by (Some t) is (d ∷ ds) same later =
        let number : d.seq ≡ n = grind (arith, told_own at n entry t is) in
        (omega (arith, number), rises_sooner (d.seq + 1) (n + 1) ds (omega (arith, number)) (later ds (grind arith)))

none_below : (n place : ℕ) (cs : List Change) → Rises n cs → place ≤ n → filter (is_below place) cs ≡ []
none_below n place [] h within = refl
none_below n place (c ∷ cs) h within = grind (arith, none_below (c.seq + 1) place cs h.1)

parted_rising : (n place : ℕ) (cs : List Change) → Rises n cs → cs ≡ filter (is_below place) cs ++ filter
    (is_from place) cs
parted_rising n place [] h = refl
parted_rising n place (c ∷ cs) h = grind
    (arith, none_below, ltb-false, from_all, parted_rising (c.seq + 1) place cs h.1)

-- What is shown

after-append : (at : ℕ → Option (List ℕ)) (name : List ℕ) (xs ys : List Record) (o : Option Shown)
    → shown_after at name (xs ++ ys) o ≡ shown_after at name ys (shown_after at name xs o)
after-append at name [] ys o = refl
after-append at name (x ∷ xs) ys o = after-append at name xs ys
    (if is_changed_by at name x then shown_behind x o else o)

-- what is there stays
behind_stays : (entry : Record) (o : Option Shown) → is_some o ≡ true → is_some (shown_behind entry o) ≡ true
behind_stays entry o there = grind arith

stays : (at : ℕ → Option (List ℕ)) (name : List ℕ) (records : List Record) (o : Option Shown) → is_some o ≡ true
    → is_some (shown_after at name records o) ≡ true
stays at name [] o there = there
stays at name (entry ∷ rest) o there = stays at name rest
    (if is_changed_by at name entry then shown_behind entry o else o) (grind (arith, behind_stays entry o there))

none_before : (at : ℕ → Option (List ℕ)) (name : List ℕ) (k : ℕ) (records : List Record) (o : Option Shown)
    → shown_after at name records o ≡ None → shown_after at name (take k records) o ≡ None
none_before at name k records o none =
    grind (
      arith,
      take-append-drop k records,
      after-append at name (take k records) (drop k records) o,
      stays at name
          (drop k records) (shown_after at name (take k records) o),
    )

-- a record that changes an endpoint names no topic
changed_unnamed : (at : ℕ → Option (List ℕ)) (entry : Record) (name : List ℕ) → changed_by at entry ≡ Some name
    → names_topic entry ≡ false
changed_unnamed at (on.Subscribed topic other flag) name h = absurd (let no = h in cc)
changed_unnamed at (on.Put other target most secrets) name h = refl
changed_unnamed at (on.Secrets other secrets) name h = refl
changed_unnamed at (on.Enabled other flag) name h = refl
changed_unnamed at (on.Accept other id body moment) name h = refl
changed_unnamed at (on.Outcome delivery attempt status moment) name h = refl
changed_unnamed at (on.Purge before) name h = refl

-- More records are settled

module _ (at : ℕ → Option (List ℕ)) (book : BookValue) (records : List Record) (k place : ℕ)
    (is : place ≡ book.settled_seq + k) (h : HasChanges at book records) where
  unknown_stays : (name : List ℕ) → entry_of book name ≡ None → shown_at place book.changes name None ≡ None
  unknown_stays name none = grind (arith, h.latest name, h.shown name k, none_before at name k records None)

  moved : (name : List ℕ) → settled_in (with_settled book place) name ≡ shown_at place book.changes name
      (settled_in book name)
  moved name = settled_moved book place name (unknown_stays name)

  first : (name : List ℕ) → settled_in (with_settled book place) name ≡ shown_after at name (take k records)
      (settled_in book name)
  first name = grind (arith, moved name, h.shown name k)

  puts_settled : map endpoint_by_entry (filter (is_put_from place) (with_settled book place).entries) ≡ endpoints_from
      place (drop k records)
  puts_settled =
      let moves : Entry → Entry = λ e. settled_at place book.changes e.name e in
      ap (map endpoint_by_entry) (filter_mapped (is_put_from place) moves book.entries)
      ∙ map-map endpoint_by_entry moves (filter (is_put_from place) book.entries)
      ∙ ap (map endpoint_by_entry)
      (sym (filter_weaker (is_put_from place) (is_put_from book.settled_seq) book.entries (λ e from. grind arith)))
      ∙ sym (filter_mapped (λ (e : Endpoint). not (nat_lt e.put place)) endpoint_by_entry
      (filter (is_put_from book.settled_seq) book.entries))
      ∙ ap (filter (λ (e : Endpoint). not (nat_lt e.put place))) h.puts
      ∙ left_from endpoint_by (λ (e : Endpoint). e.put) endpoint_own book.settled_seq k place records is

  secrets_settled : (name : List ℕ) → IfSome (last_of (filter_map (secrets_by name) (drop k records)))
      (λ given. secrets_in (with_settled book place) name ≡ given)
  secrets_settled name =
      grind (
        arith,
        entry_settled book place name,
        h.secrets name,
        take-append-drop k records,
        filter_map-append (secrets_by name) (take k records) (drop k records),
        last_of-append (filter_map (secrets_by name) (take k records)) (filter_map (secrets_by name) (drop k records)),
      )

  topics_settled : (topic name : List ℕ) → IfSome (last_flag (drop k records) topic name)
      (λ flag. flag_of book.topics topic name ≡ Some flag)
  topics_settled topic name = by (last_flag (drop k records) topic name) refl
    where
      by : (o : Option Bool) → last_flag (drop k records) topic name ≡ o
          → IfSome o (λ flag. flag_of book.topics topic name ≡ Some flag)
      by None e = tt
      by (Some flag) e =
          subst (λ o. IfSome o (λ f. flag_of book.topics topic name ≡ Some f))
          (ap (λ rs. last_flag rs topic name) (sym (take-append-drop k records))
          ∙ ap last_of (filter_map-append (subscribed_by topic name) (take k records) (drop k records))
          ∙ last_of-append (filter_map (subscribed_by topic name) (take k records))
          (filter_map (subscribed_by topic name) (drop k records)) flag e)
          (h.topics topic name)

pub changes_settled : (at : ℕ → Option (List ℕ)) (book : BookValue) (records : List Record) (k place : ℕ)
    → place ≡ book.settled_seq + k → HasChanges at book records
    → HasChanges at (with_settled book place) (drop k records)
changes_settled at book records k place is h = record {
  changes = sym (filter_mapped (λ (t : Told). not (nat_lt t.seq place)) told_of book.changes)
      ∙ ap (filter (λ (t : Told). not (nat_lt t.seq place))) h.changes
      ∙ left_from (told_by at) (λ (t : Told). t.seq) (told_own at) book.settled_seq k place records is;
  puts = puts_settled at book records k place is h;
  shown = λ name j.
      let parted = parted_rising book.settled_seq place book.changes
      (rises_told at book.settled_seq records book.changes h.changes) in
      grind (
        arith,
        moved at book records k place is h name,
        first at book records k place is h name,
        shown_in_turn place (place + j) book.changes name (settled_in book name) (omega arith) parted,
        h.shown name (k + j),
        take-add k j records,
        after-append at name (take k records) (take j (drop k records)) (settled_in book name),
      );
  latest = λ name.
      grind (
        arith,
        latest_same book place name,
        h.latest name,
        first at book records k place is h name,
        take-append-drop k records,
        after-append at name (take k records) (drop k records) (settled_in book name),
      );
  secrets = secrets_settled at book records k place is h;
  topics = topics_settled at book records k place is h;
}

-- One more record

module _ (at : ℕ → Option (List ℕ)) (book : BookValue) (records : List Record) (entry : Record) where
  -- the secrets that it gives
  secrets_more : (later : BookValue) (name : List ℕ) → secrets_in later name ≡ unwrap_or (secrets_by name entry)
      (secrets_in book name) → HasChanges at book records
      → IfSome (last_of (filter_map (secrets_by name) (records ++ entry ∷ []))) (λ given. secrets_in later name ≡ given)
  secrets_more later name is h =
      grind (
        arith,
        filter_map-append (secrets_by name) records (entry ∷ []),
        append-nil (filter_map (secrets_by name) records),
        h.secrets name,
        last_of-append (filter_map (secrets_by name) records) (cons_option (secrets_by name entry) []),
      )

  -- and the flag of a topic
  topics_more : (ts : TopicsValue) (topic name : List ℕ)
      → flag_of ts topic name ≡ option_or (subscribed_by topic name entry) (flag_of book.topics topic name)
      → HasChanges at book records
      → IfSome (last_flag (records ++ entry ∷ []) topic name) (λ flag. flag_of ts topic name ≡ Some flag)
  topics_more ts topic name is h =
      subst (λ o. IfSome o (λ flag. flag_of ts topic name ≡ Some flag)) (sym (last_flag-snoc records entry topic name))
      (by (subscribed_by topic name entry) is (h.topics topic name))
    where
      by : (o : Option Bool) → flag_of ts topic name ≡ option_or o (flag_of book.topics topic name)
          → IfSome (last_flag records topic name) (λ flag. flag_of book.topics topic name ≡ Some flag)
          → IfSome (option_or o (last_flag records topic name)) (λ flag. flag_of ts topic name ≡ Some flag)
      by (Some flag) given told = given
      by None given told = subst (λ o. IfSome (last_flag records topic name) (λ flag. o ≡ Some flag)) (sym given) told

  -- one that changes no endpoint
  after_idle : changed_by at entry ≡ None → (name : List ℕ) (k : ℕ) (o : Option Shown)
      → shown_after at name (take k (records ++ entry ∷ [])) o ≡ shown_after at name (take k records) o
  after_idle none name k o =
      grind (
        arith,
        cases_lt (length records) k,
        take_all k (records ++ entry ∷ []),
        take_all k records,
        take-append-le k records (entry ∷ []),
        length-append records (entry ∷ []),
        after-append at name records (entry ∷ []) o,
      )

  changes_idle : (ts : TopicsValue) (next : ℕ) → changed_by at entry ≡ None → ((n : ℕ) → endpoint_by (n, entry) ≡ None)
      → ((name : List ℕ) → secrets_by name entry ≡ None)
      → ((topic name : List ℕ) → flag_of ts topic name ≡ option_or (subscribed_by topic name entry)
      (flag_of book.topics topic name))
      → HasChanges at book records → HasChanges at (record book { topics = ts; next_seq = next })
      (records ++ entry ∷ [])
  changes_idle ts next none no_put gives flags h = record {
    changes = grind (
      arith,
      h.changes,
      given-snoc (told_by at) book.settled_seq records entry,
      append-nil
          (changes_from at book.settled_seq records),
    );
    puts = grind (
      arith,
      h.puts,
      given-snoc endpoint_by book.settled_seq records entry,
      no_put
          (book.settled_seq + length records),
      append-nil (endpoints_from book.settled_seq records),
    );
    shown = λ name k. h.shown name k ∙ sym (after_idle none name k (settled_in book name));
    latest = λ name. grind (arith, h.latest name, after-append at name records (entry ∷ []) (settled_in book name));
    secrets = λ name. secrets_more book name (grind (arith, gives name)) h;
    topics = λ topic name. topics_more ts topic name (flags topic name) h;
  }

  -- one that changes an endpoint, with its change and the entries that it leaves
  changes_more : (c : Change) (es : List Entry) → c.seq ≡ book.settled_seq + length records
      → changed_by at entry ≡ Some c.name → kind_of entry ≡ c.kind
      → map endpoint_by_entry (filter (is_put_from book.settled_seq) es) ≡ endpoints_from book.settled_seq records
      ++ cons_option (endpoint_by (book.settled_seq + length records, entry)) []
      → ((name : List ℕ) → settled_in (more book es c) name ≡ settled_in book name)
      → ((name : List ℕ) → (if bytes_eq c.name name then Some c.shown else option_map now_of (entry_of book name))
      ≡ option_map now_of (entry_of (more book es c) name))
      → ((name : List ℕ) → (if bytes_eq c.name name then shown_behind entry (option_map now_of (entry_of book name))
      else option_map now_of (entry_of book name)) ≡ option_map now_of (entry_of (more book es c) name))
      → ((name : List ℕ) → secrets_in (more book es c) name ≡ unwrap_or (secrets_by name entry) (secrets_in book name))
      → HasChanges at book records → HasChanges at (more book es c) (records ++ entry ∷ [])
  changes_more c es number named kind put same made behind gives h = record {
    changes = grind (
      arith,
      map-append told_of book.changes (c ∷ []),
      h.changes,
      given-snoc (told_by at) s records
          entry,
    );
    puts = put ∙ sym (given-snoc endpoint_by s records entry);
    shown = λ name k. ⊎_elim (later name k) (sooner name k) (cases_lt (length records) k);
    latest = latest;
    secrets = λ name. secrets_more (more book es c) name (gives name) h;
    topics = λ topic name. topics_more book.topics topic name
        (ap (λ o. option_or o (flag_of book.topics topic name))
        (sym (none_said entry topic name (changed_unnamed at entry c.name named)))) h;
  }
    where
      s : ℕ
      s = book.settled_seq

      latest : (name : List ℕ) → option_map now_of (entry_of (more book es c) name) ≡ shown_after at name
          (records ++ entry ∷ []) (settled_in (more book es c) name)
      latest name = grind (
        arith,
        behind name,
        h.latest name,
        after-append at name records (entry ∷ [])
            (settled_in book name),
        same name,
      )

      later : (name : List ℕ) (k : ℕ) → length records < k → shown_at (s + k) (book.changes ++ c ∷ []) name
          (settled_in (more book es c) name) ≡ shown_after at name (take k (records ++ entry ∷ []))
          (settled_in (more book es c) name)
      later name k lt =
          let front = take_all k records (omega (arith, lt)) in
          let whole = take_all k (records ++ entry ∷ []) (omega (arith, lt, length-append records (entry ∷ []))) in
          grind (
            arith,
            same name,
            shown_at-below (s + k) book.changes c name (settled_in book name)
                (omega (arith, lt, number)),
            h.shown name k,
            h.latest name,
            made name,
            latest name,
          )

      sooner : (name : List ℕ) (k : ℕ) → k ≤ length records → shown_at (s + k) (book.changes ++ c ∷ []) name
          (settled_in (more book es c) name) ≡ shown_after at name (take k (records ++ entry ∷ []))
          (settled_in (more book es c) name)
      sooner name k le =
          grind (
            arith,
            same name,
            shown_at-above (s + k) book.changes c name (settled_in book name)
                (omega (arith, le, number)),
            h.shown name k,
            take-append-le k records (entry ∷ []) le,
          )

-- an Accept, an Outcome that isn't gone, and a Purge
pub changes_other : (at : ℕ → Option (List ℕ)) (book : BookValue) (records : List Record) (entry : Record)
    → is_other entry ≡ true → HasChanges at book records → HasChanges at book (records ++ entry ∷ [])
changes_other at book records entry other h =
    changes_idle at book records entry book.topics book.next_seq (grind arith) (λ n. grind arith) (λ name. grind arith)
    (λ topic name. ap (λ o. option_or o (flag_of book.topics topic name))
    (sym (none_said entry topic name (other_unnamed entry other)))) h

-- a Subscribed
pub changes_topic : (at : ℕ → Option (List ℕ)) (book : BookValue) (records : List Record) (seq : ℕ)
    (topic name : List ℕ) (flag : Bool)
    → HasChanges at book records → HasChanges at (with_topic book seq topic name flag)
    (records ++ on.Subscribed topic name flag ∷ [])
changes_topic at book records seq topic name flag h =
    changes_idle at book records (on.Subscribed topic name flag) (with_pair book.topics topic name flag) (seq + 1) refl
    (λ n. refl) (λ asked. refl)
    (λ other asked. flag-put book.topics topic name flag other asked
    ∙ by other asked (bytes_eq topic other && bytes_eq name asked)) h
  where
    by : (other asked : List ℕ) (b : Bool) → (if b then Some flag else flag_of book.topics other asked) ≡ option_or
        (if b then Some flag else None) (flag_of book.topics other asked)
    by other asked true = refl
    by other asked false = refl

-- A change of the endpoint of one name

changes_changed : (at : ℕ → Option (List ℕ)) (book : BookValue) (records : List Record) (seq : ℕ) (name : List ℕ)
    (entry : Record) (change : Entry → Entry) (given : Option (List (List ℕ)))
    → seq ≡ book.settled_seq + length records → is_known book name ≡ true
    → changed_by at entry ≡ Some name → ((n : ℕ) → endpoint_by (n, entry) ≡ None)
    → ((e : Entry) → shown_behind entry (Some (now_of e)) ≡ Some (now_of (change e)))
    → ((asked : List ℕ) → secrets_by asked entry ≡ (if bytes_eq name asked then given else None))
    → ((e : Entry) → (change e).secrets ≡ unwrap_or given e.secrets)
    → ((e : Entry) → endpoint_by_entry (change e) ≡ endpoint_by_entry e)
    → ((e : Entry) → (change e).settled ≡ e.settled)
    → HasChanges at book records → HasChanges at (with_change book seq name (kind_of entry) change)
    (records ++ entry ∷ [])
changes_changed at book records seq name entry change given number known named no_put behind gives given_is keeps
    settles h =
    changes_more at book records entry
    (record { seq = seq; name = name; kind = kind_of entry; shown = shown_with change (entry_of book name) })
    (map moves book.entries) number named refl
    (ap (map endpoint_by_entry) (filter_mapped (is_put_from s) moves book.entries
    ∙ ap (λ (p : Entry → Bool). map moves (filter p book.entries))
    (λ i e. not (nat_lt (put_kept name change keeps e i) s)))
    ∙ grind (
      arith,
      keeps-endpoints name change keeps (filter (is_put_from s) book.entries),
      h.puts,
      no_put
          (s + length records),
      append-nil (endpoints_from s records),
    ))
    (field-kept book seq name (kind_of entry) change keeps (λ e. e.settled) None settles)
    (made-changed book seq name (kind_of entry) change keeps known)
    (λ asked. grind (arith, changed asked, known-same book name asked known, behind))
    (λ asked. grind (arith, changed asked, known-same book name asked known, gives asked, given_is))
    h
  where
    s : ℕ
    s = book.settled_seq

    moves : Entry → Entry
    moves e = change_at name change e.name e

    changed : (asked : List ℕ) → entry_of (with_change book seq name (kind_of entry) change) asked ≡ option_map
        (change_at name change asked) (entry_of book asked)
    changed asked = entry-changed book seq name (kind_of entry) change keeps asked

pub changes_secrets : (at : ℕ → Option (List ℕ)) (book : BookValue) (records : List Record) (seq : ℕ) (name : List ℕ)
    (secrets : List (List ℕ)) → seq ≡ book.settled_seq + length records → is_known book name ≡ true
    → HasChanges at book records → HasChanges at (with_secrets book seq name secrets)
    (records ++ on.Secrets name secrets ∷ [])
changes_secrets at book records seq name secrets number known h =
    changes_changed at book records seq name (on.Secrets name secrets) (λ e. record e { secrets = secrets })
    (Some secrets) number known refl (λ n. refl) (λ e. refl) (λ asked. refl) (λ e. refl) (λ e. refl) (λ e. refl) h

pub changes_enabled : (at : ℕ → Option (List ℕ)) (book : BookValue) (records : List Record) (seq : ℕ) (name : List ℕ)
    (flag : Bool) → seq ≡ book.settled_seq + length records → is_known book name ≡ true
    → HasChanges at book records → HasChanges at (with_flag book seq name flag) (records ++ on.Enabled name flag ∷ [])
changes_enabled at book records seq name flag number known h =
    changes_changed at book records seq name (on.Enabled name flag) (λ e. record e { enabled = flag }) None number known
    refl (λ n. refl) (λ e. refl) (λ asked. grind arith) (λ e. refl) (λ e. refl) (λ e. refl) h

-- an Outcome that is gone, of a delivery of the endpoint
pub changes_gone : (at : ℕ → Option (List ℕ)) (book : BookValue) (records : List Record) (seq : ℕ) (name : List ℕ)
    (delivery attempt status moment : ℕ) → seq ≡ book.settled_seq + length records → is_known book name ≡ true
    → is_gone_status status ≡ true → at delivery ≡ Some name
    → HasChanges at book records → HasChanges at (with_flag book seq name false)
    (records ++ on.Outcome delivery attempt status moment ∷ [])
changes_gone at book records seq name delivery attempt status moment number known gone its h =
    changes_changed at book records seq name (on.Outcome delivery attempt status moment)
    (λ e. record e { enabled = false }) None number known (grind arith) (λ n. refl) (λ e. refl)
    (λ asked. grind arith) (λ e. refl) (λ e. refl) (λ e. refl) h

-- A Put

pub changes_put : (at : ℕ → Option (List ℕ)) (book : BookValue) (records : List Record) (seq : ℕ) (name target : List ℕ)
    (most : ℕ) (secrets : List (List ℕ)) → seq ≡ book.settled_seq + length records → is_known book name ≡ false
    → HasChanges at book records → HasChanges at (with_put book (new_entry seq name target most secrets))
    (records ++ on.Put name target most secrets ∷ [])
changes_put at book records seq name target most secrets number unknown h =
    let s : ℕ = book.settled_seq in
    let e : Entry = new_entry seq name target most secrets in
    let none : entry_of book name ≡ None = none_if (entry_of book name) unknown in
    changes_more at book records (on.Put name target most secrets)
    (record { seq = seq; name = name; kind = Put; shown = now_of e }) (book.entries ++ e ∷ []) number refl refl
    (grind (
      arith,
      filter-append (is_put_from s) book.entries (e ∷ []),
      map-append endpoint_by_entry
          (filter (is_put_from s) book.entries) (e ∷ []),
      h.puts,
    ))
    (put_settled book e none refl) (made_put book e none) (made_put book e none)
    (λ asked. grind (arith, secrets_put book e none asked)) h

-- Deliveries that are told otherwise, but not those of the records

abbrev pub AreNamedAlike : (at to : ℕ → Option (List ℕ)) → List Record → Type 0
AreNamedAlike at to [] = Unit {0}
AreNamedAlike at to (entry ∷ rest) = (changed_by at entry ≡ changed_by to entry) × AreNamedAlike at to rest

told_alike : (at to : ℕ → Option (List ℕ)) (n : ℕ) (records : List Record) → AreNamedAlike at to records
    → changes_from at n records ≡ changes_from to n records
told_alike at to n [] same = refl
told_alike at to n (entry ∷ rest) same = λ i. cons_option
    (option_map (λ name. record { seq = n; name = name; kind = kind_of entry }) (same.0 i))
    (told_alike at to (n + 1) rest same.1 i)

shown_alike : (at to : ℕ → Option (List ℕ)) (name : List ℕ) (k : ℕ) (records : List Record) (o : Option Shown)
    → AreNamedAlike at to records → shown_after at name (take k records) o ≡ shown_after to name (take k records) o
shown_alike at to name zero records o same = refl
shown_alike at to name (suc k) [] o same = refl
shown_alike at to name (suc k) (entry ∷ rest) o same = grind (
  arith,
  shown_alike at to name k rest (if is_changed_by at name entry then shown_behind entry o else o) same.1,
  same.0,
)

pub changes_named : (at to : ℕ → Option (List ℕ)) (book : BookValue) (records : List Record)
    → AreNamedAlike at to records → HasChanges at book records → HasChanges to book records
changes_named at to book records same h = record {
  changes = h.changes ∙ told_alike at to book.settled_seq records same;
  puts = h.puts;
  shown = λ name k. h.shown name k ∙ shown_alike at to name k records (settled_in book name) same;
  latest = λ name.
      let all : take (length records) records ≡ records = take_all (length records) records (omega arith) in
      h.latest name ∙ ap (λ rs. shown_after at name rs (settled_in book name)) (sym all)
      ∙ shown_alike at to name (length records) records (settled_in book name) same
      ∙ ap (λ rs. shown_after to name rs (settled_in book name)) all;
  secrets = h.secrets;
  topics = h.topics;
}

-- Nothing waits

none_put : (s : ℕ) (entries : List Entry) → list_all (λ e. nat_lt e.put s) entries ≡ true
    → filter (is_put_from s) entries ≡ []
none_put s [] below = refl
none_put s (e ∷ es) below = grind (arith, none_put s es)

pub changes_none : (at : ℕ → Option (List ℕ)) (book : BookValue) → IsInStep book → book.changes ≡ []
    → book.next_seq ≡ book.settled_seq → HasChanges at book []
changes_none at book step none all = record {
  changes = ap (map told_of) none;
  puts = ap (map endpoint_by_entry)
      (none_put book.settled_seq book.entries (ap (λ n. list_all (λ (e : Entry). nat_lt e.put n) book.entries) (sym all)
      ∙ step.numbered));
  shown = λ name k. ap (λ cs. shown_at (book.settled_seq + k) cs name (settled_in book name)) none ∙ few name k;
  latest = λ name. sym (step.caught_up name) ∙ ap (λ cs. shown_at book.next_seq cs name (settled_in book name)) none;
  secrets = λ name. tt;
  topics = λ topic name. tt;
}
  where
    few : (name : List ℕ) (k : ℕ) → settled_in book name ≡ shown_after at name (take k []) (settled_in book name)
    few name k = ap (λ rs. shown_after at name rs (settled_in book name)) (sym (take_all k [] (omega arith)))
