-- The entries of a history, and what the words on its deliveries make of them.
use Rattle.std.proofs.Common.{◌≡◌, ℕ, zero, suc, ◌+◌, ◌<◌, ◌≤◌, Bool, true, false, List, [], ◌∷◌, Option, Some, None}
use Rattle.std.proofs.Common.{length, take, refl, sym, ◌∙◌, ap, arith, cond, eqb, leb, ◌&&◌, not, map}
use Rattle.std.specs.Prelude.{slice_get, filter, filter_map, find, count_by, option_map, option_and_then, is_some}
use Rattle.std.specs.Prelude.{bytes_eq, if◌then◌else◌}
use Rattle.std.specs.List.{enumerate_from, cons_option}
use Rattle.std.specs.Option.{option_map_or}
use Rattle.std.proofs.lemmas.Bool.{and_parts, ne_eqb, eq-eqb, lt-ltb, le-ltb}
use Rattle.std.proofs.lemmas.List.Sums.{sum_by-cons}
use Rattle.relay_types.specs.declared.record.Record.{Record}
use Rattle.relay_types.specs.declared.state.State.{State}
use Rattle.relay_types.specs.declared.state.State.TheVariants.{Pending}
use Rattle.relay_types.specs.Lists.{last_of}
use Rattle.relay_types.specs.Records.{Accepted, Attempt, accepted_by, numbered}
use Rattle.relay_types.specs.Deliveries.{accept_at, accepted, is_accept_as, is_purged, known_as, purged_by, attempts_of}
use Rattle.relay_types.specs.Deliveries.{state_of, is_in_state, due_after, seqs_of}
use Rattle.relay_types.proofs.PurgeLaws.{left, found_left, none_left}
use Rattle.delivery_book.specs.declared.entry.Entry.{Entry}
use Rattle.delivery_book.specs.Progress.{Progress}
use Rattle.delivery_book.specs.declared.row.Row.{Row}
use Rattle.delivery_book.specs.Entries.{entry_at, kept_at, is_entry_as, is_settled_as, is_kept, is_left, failed_among}
use Rattle.delivery_book.specs.Entries.{is_delivered_among, state_by, state_in, progress_of, row_in}
use Rattle.delivery_book.proofs.Entries.{is_below}
use Rattle.delivery_book.specs.Book.{entry_for, entry_by, entries_of, row_of, count_in}
use Rattle.delivery_book.proofs.Purges.{count-filter, find-filter, find-weaker, left-take, taken_ended}

-- Entries that differ in how far they have come

map_step : (latest settled later later_settled : ℕ → List Attempt) (taken later_taken : ℕ → Option ℕ) (change : Entry
    → Entry) → ((n : ℕ) (a : Accepted) → entry_for later later_settled later_taken n a ≡ change
    (entry_for latest settled taken n a))
    → (n : ℕ) (es fs : List Entry) (o : Option Accepted) → fs ≡ map change es
    → cons_option (option_map (entry_for later later_settled later_taken n) o) fs ≡ map change
    (cons_option (option_map (entry_for latest settled taken n) o) es)
map_step latest settled later later_settled taken later_taken change same n es fs None e = e
map_step latest settled later later_settled taken later_taken change same n es fs (Some a) e = λ i. same n a i ∷ e i

pub entries-map : (latest settled later later_settled : ℕ → List Attempt) (taken later_taken : ℕ → Option ℕ)
    (change : Entry → Entry)
    → ((n : ℕ) (a : Accepted) → entry_for later later_settled later_taken n a ≡ change
    (entry_for latest settled taken n a))
    → (numbers : List (ℕ × Record)) → filter_map (entry_by later later_settled later_taken) numbers ≡ map change
    (filter_map (entry_by latest settled taken) numbers)
entries-map latest settled later later_settled taken later_taken change same [] = refl
entries-map latest settled later later_settled taken later_taken change same (e ∷ rest) =
    map_step latest settled later later_settled taken later_taken change same e.0
    (filter_map (entry_by latest settled taken) rest) (filter_map (entry_by later later_settled later_taken) rest)
    (accepted_by e.1)
    (entries-map latest settled later later_settled taken later_taken change same rest)

-- The entries that are left

-- all entries, with those that a settled Purge took
abbrev pub all_entries : List Record → (settled : ℕ) → List Entry
all_entries records s = filter_map (entry_by (attempts_of records) (attempts_of (take s records)) (purged_by records))
    (numbered records)

pub kept_left : (s : ℕ) (e : Entry) → is_kept e ≡ true → is_left s e ≡ true
kept_left s e h = by e.taken_by h
  where
    by : (o : Option ℕ) → not (is_some o) ≡ true → option_map_or (leb s) o true ≡ true
    by None k = refl
    by (Some n) k = absurd (let no = k in cc)

-- a filter by the Purge that took them is one by their numbers
numbers_step : (latest settled : ℕ → List Attempt) (taken : ℕ → Option ℕ) (p : Entry → Bool) (q : ℕ → Bool)
    → ((n : ℕ) (a : Accepted) → p (entry_for latest settled taken n a) ≡ q n)
    → (n : ℕ) (es : List Entry) (o : Option Accepted)
    → filter p es ≡ filter (λ e. q e.seq) es
    → filter p (cons_option (option_map (entry_for latest settled taken n) o) es) ≡ filter (λ e. q e.seq)
    (cons_option (option_map (entry_for latest settled taken n) o) es)
numbers_step latest settled taken p q same n es None h = h
numbers_step latest settled taken p q same n es (Some a) h = λ i. cond (same n a i)
    (entry_for latest settled taken n a ∷ h i) (h i)

by_numbers : (latest settled : ℕ → List Attempt) (taken : ℕ → Option ℕ) (p : Entry → Bool) (q : ℕ → Bool)
    → ((n : ℕ) (a : Accepted) → p (entry_for latest settled taken n a) ≡ q n)
    → (numbers : List (ℕ × Record)) → filter p (filter_map (entry_by latest settled taken) numbers) ≡ filter
    (λ e. q e.seq) (filter_map (entry_by latest settled taken) numbers)
by_numbers latest settled taken p q same [] = refl
by_numbers latest settled taken p q same (e ∷ rest) =
    numbers_step latest settled taken p q same e.0 (filter_map (entry_by latest settled taken) rest) (accepted_by e.1)
    (by_numbers latest settled taken p q same rest)

pub entries-left : (records : List Record) (s : ℕ) → entries_of records s ≡ left (λ (e : Entry). e.seq)
    (is_purged (take s records)) (all_entries records s)
entries-left records s =
    by_numbers (attempts_of records) (attempts_of (take s records)) (purged_by records) (is_left s)
    (λ n. not (is_purged (take s records) n)) (λ n a. left-take records s n) (numbered records)

entries-kept : (records : List Record) (s : ℕ) → filter is_kept (all_entries records s) ≡ left (λ (e : Entry). e.seq)
    (is_purged records) (all_entries records s)
entries-kept records s = by_numbers (attempts_of records) (attempts_of (take s records)) (purged_by records) is_kept
    (λ n. not (is_purged records n)) (λ n a. refl) (numbered records)

-- The delivery that is known by an id

module _ (latest settled : ℕ → List Attempt) (taken : ℕ → Option ℕ) (name id : List ℕ) (test : Entry → Bool)
    (passes : ℕ → Bool)
    (same : (n : ℕ) (a : Accepted)
    → test (entry_for latest settled taken n a) ≡ (bytes_eq a.endpoint name && bytes_eq a.id id) && passes n) where
  known_step : (n : ℕ) (r : Record) (more : List (ℕ × Record)) (es : List Entry) (o : Option Accepted)
      → option_map (λ (e : ℕ × Record). e.0) (find (λ e. is_accept_as name id e.1 && passes e.0) more) ≡ option_map
      (λ (e : Entry). e.seq) (find test es)
      → option_map (λ (e : ℕ × Record). e.0)
      (cond (option_map_or (λ a. bytes_eq a.endpoint name && bytes_eq a.id id) o false && passes n) (Some (n, r))
      (find (λ e. is_accept_as name id e.1 && passes e.0) more))
      ≡ option_map (λ (e : Entry). e.seq) (find test (cons_option (option_map (entry_for latest settled taken n) o) es))
  known_step n r more es None h = h
  known_step n r more es (Some a) h =
      ap (λ b. option_map (λ (e : ℕ × Record). e.0)
      (cond b (Some (n, r)) (find (λ e. is_accept_as name id e.1 && passes e.0) more))) (sym (same n a))
      ∙ at (test (entry_for latest settled taken n a))
    where
      at : (b : Bool) → option_map (λ (e : ℕ × Record). e.0)
          (cond b (Some (n, r)) (find (λ e. is_accept_as name id e.1 && passes e.0) more)) ≡ option_map
          (λ (e : Entry). e.seq) (cond b (Some (entry_for latest settled taken n a)) (find test es))
      at true = refl
      at false = h

  known_from : (n : ℕ) (records : List Record)
      → option_map (λ (e : ℕ × Record). e.0)
      (find (λ e. is_accept_as name id e.1 && passes e.0) (enumerate_from n records))
      ≡ option_map (λ (e : Entry). e.seq)
      (find test (filter_map (entry_by latest settled taken) (enumerate_from n records)))
  known_from n [] = refl
  known_from n (r ∷ rest) = known_step n r (enumerate_from (n + 1) rest)
      (filter_map (entry_by latest settled taken) (enumerate_from (n + 1) rest)) (accepted_by r)
      (known_from (n + 1) rest)

-- the entry that is known by all records
pub known_as-entries : (records : List Record) (s : ℕ) (name id : List ℕ)
    → known_as records name id ≡ option_map (λ e. e.seq)
    (find (λ e. is_entry_as name id e && is_kept e) (entries_of records s))
known_as-entries records s name id =
    known_from (attempts_of records) (attempts_of (take s records)) (purged_by records) name id
    (λ e. is_entry_as name id e && is_kept e) (λ n. not (is_purged records n)) (λ n a. refl) 0 records
    ∙ ap (option_map (λ (e : Entry). e.seq))
    (sym (find-weaker (λ e. is_entry_as name id e && is_kept e) (is_left s) (all_entries records s)
    (λ e passes. kept_left s e (and_parts (is_entry_as name id e) (is_kept e) passes).1)))

-- The entry of a delivery

none_step : (latest settled : ℕ → List Attempt) (taken : ℕ → Option ℕ) (n d : ℕ) (more : List Entry)
    (o : Option Accepted) → d < n → entry_at more d ≡ None
    → entry_at (cons_option (option_map (entry_for latest settled taken n) o) more) d ≡ None
none_step latest settled taken n d more None h e = e
none_step latest settled taken n d more (Some a) h e =
    ap (λ b. cond b (Some (entry_for latest settled taken n a)) (entry_at more d))
    (ne_eqb n d (λ same. absurd (omega (arith, h, same)))) ∙ e

none_before : (latest settled : ℕ → List Attempt) (taken : ℕ → Option ℕ) (n d : ℕ) (records : List Record) → d < n
    → entry_at (filter_map (entry_by latest settled taken) (enumerate_from n records)) d ≡ None
none_before latest settled taken n d [] h = refl
none_before latest settled taken n d (r ∷ rest) h =
    none_step latest settled taken n d (filter_map (entry_by latest settled taken) (enumerate_from (n + 1) rest))
    (accepted_by r) h (none_before latest settled taken (n + 1) d rest (omega (arith, h)))

first_step : (latest settled : ℕ → List Attempt) (taken : ℕ → Option ℕ) (n d : ℕ) (more : List Entry)
    (o : Option Accepted) → n ≡ d → entry_at more d ≡ None
    → entry_at (cons_option (option_map (entry_for latest settled taken n) o) more) d ≡ option_map
    (entry_for latest settled taken d) o
first_step latest settled taken n d more None same e = e
first_step latest settled taken n d more (Some a) same e =
    ap (λ b. cond b (Some (entry_for latest settled taken n a)) (entry_at more d)) (eq-eqb n d same)
    ∙ ap (λ m. Some (entry_for latest settled taken m a)) same

later_step : (latest settled : ℕ → List Attempt) (taken : ℕ → Option ℕ) (n d : ℕ) (more : List Entry)
    (o : Option Accepted) → n < d → entry_at (cons_option (option_map (entry_for latest settled taken n) o) more) d
    ≡ entry_at more d
later_step latest settled taken n d more None h = refl
later_step latest settled taken n d more (Some a) h =
    ap (λ b. cond b (Some (entry_for latest settled taken n a)) (entry_at more d))
    (ne_eqb n d (λ same. absurd (omega (arith, h, same))))

entry_from : (latest settled : ℕ → List Attempt) (taken : ℕ → Option ℕ) (n k d : ℕ) (records : List Record) → n + k ≡ d
    → entry_at (filter_map (entry_by latest settled taken) (enumerate_from n records)) d ≡ option_map
    (entry_for latest settled taken d) (option_and_then accepted_by (slice_get records k))
entry_from latest settled taken n k d [] e = refl
entry_from latest settled taken n zero d (r ∷ rest) e =
    first_step latest settled taken n d (filter_map (entry_by latest settled taken) (enumerate_from (n + 1) rest))
    (accepted_by r) (omega (arith, e)) (none_before latest settled taken (n + 1) d rest (omega (arith, e)))
entry_from latest settled taken n (suc k) d (r ∷ rest) e =
    later_step latest settled taken n d (filter_map (entry_by latest settled taken) (enumerate_from (n + 1) rest))
    (accepted_by r) (omega (arith, e))
    ∙ entry_from latest settled taken (n + 1) k d rest (omega (arith, e))

-- the Accept of a delivery that no settled Purge took
abbrev pub left_at : List Record → (settled d : ℕ) → Option Accepted
left_at records s d = if is_purged (take s records) d then None else accept_at records d

all_at : (records : List Record) (s d : ℕ) → entry_at (all_entries records s) d ≡ option_map
    (entry_for (attempts_of records) (attempts_of (take s records)) (purged_by records) d) (accept_at records d)
all_at records s d = entry_from (attempts_of records) (attempts_of (take s records)) (purged_by records) 0 d d records
    (omega arith)

-- one of the entries that are left, where those of these numbers are gone
one_left : (records : List Record) (s d : ℕ) (gone : ℕ → Bool)
    → entry_at (left (λ (e : Entry). e.seq) gone (all_entries records s)) d
    ≡ option_map (entry_for (attempts_of records) (attempts_of (take s records)) (purged_by records) d)
    (if gone d then None else accept_at records d)
one_left records s d gone = by (gone d) refl
  where
    by : (b : Bool) → gone d ≡ b → entry_at (left (λ (e : Entry). e.seq) gone (all_entries records s)) d ≡ option_map
        (entry_for (attempts_of records) (attempts_of (take s records)) (purged_by records) d)
        (if b then None else accept_at records d)
    by true is = none_left (λ (e : Entry). e.seq) gone d (all_entries records s) is
    by false is = found_left (λ (e : Entry). e.seq) gone d (all_entries records s) is ∙ all_at records s d

pub entry_at-entries : (records : List Record) (s d : ℕ) → entry_at (entries_of records s) d ≡ option_map
    (entry_for (attempts_of records) (attempts_of (take s records)) (purged_by records) d) (left_at records s d)
entry_at-entries records s d = ap (λ es. entry_at es d) (entries-left records s)
    ∙ one_left records s d (is_purged (take s records))

pub kept_at-entries : (records : List Record) (s d : ℕ) → kept_at (entries_of records s) d ≡ option_map
    (entry_for (attempts_of records) (attempts_of (take s records)) (purged_by records) d) (accepted records d)
kept_at-entries records s d =
    find-weaker (λ e. eqb e.seq d && is_kept e) (is_left s) (all_entries records s)
    (λ e passes. kept_left s e (and_parts (eqb e.seq d) (is_kept e) passes).1)
    ∙ sym (find-filter (λ (e : Entry). eqb e.seq d) is_kept (all_entries records s))
    ∙ ap (λ es. entry_at es d) (entries-kept records s)
    ∙ one_left records s d (is_purged records)

-- The row of a delivery, by how far its entry has come

row_from : List Attempt → Option Accepted → Option Row
row_from attempts o = option_map (λ a. record {
  endpoint = a.endpoint;
  id = a.id;
  at = a.at;
  attempts = length attempts;
  state = state_by (is_delivered_among attempts) (failed_among attempts);
  due = if is_some o && is_in_state Pending (state_by (is_delivered_among attempts) (failed_among attempts)) then Some
      (option_map_or (λ last. due_after last (failed_among attempts)) (last_of attempts)
      (option_map_or (λ t. t.at) o 0)) else None;
  last_status = option_map (λ t. t.status) (last_of attempts);
}) o

row_made : (latest settled : ℕ → List Attempt) (taken : ℕ → Option ℕ) (picked : Entry → Progress)
    (attempts : List Attempt) (d : ℕ) (o : Option Accepted)
    → ((a : Accepted) → picked (entry_for latest settled taken d a) ≡ progress_of a.at attempts)
    → option_map (λ e. row_in (picked e) e) (option_map (entry_for latest settled taken d) o) ≡ row_from attempts o
unfolding row_from
row_made latest settled taken picked attempts d None is = refl
row_made latest settled taken picked attempts d (Some a) is =
    ap (λ p. Some (row_in p (entry_for latest settled taken d a))) (is a)

pub row_of-made : (latest settled : ℕ → List Attempt) (taken : ℕ → Option ℕ) (picked : Entry → Progress)
    (records : List Record) (d : ℕ) (o : Option Accepted) → accepted records d ≡ o
    → ((a : Accepted) → picked (entry_for latest settled taken d a) ≡ progress_of a.at (attempts_of records d))
    → option_map (λ e. row_in (picked e) e) (option_map (entry_for latest settled taken d) o) ≡ row_of records d
unfolding row_from
row_of-made latest settled taken picked records d o there is = row_made latest settled taken picked
    (attempts_of records d) d o is ∙ ap (row_from (attempts_of records d)) (sym there)

-- The first records alone

pub accept_at-take : (records : List Record) (s d : ℕ) → d < s → accept_at (take s records) d ≡ accept_at records d
accept_at-take records zero d h = absurd (omega (arith, h))
accept_at-take [] (suc s) d h = refl
accept_at-take (r ∷ rest) (suc s) zero h = refl
accept_at-take (r ∷ rest) (suc s) (suc d) h = accept_at-take rest s d (omega (arith, h))

accept_at-past : (records : List Record) (s d : ℕ) → s ≤ d → accept_at (take s records) d ≡ None
accept_at-past records zero d h = refl
accept_at-past [] (suc s) d h = refl
accept_at-past (r ∷ rest) (suc s) zero h = absurd (omega (arith, h))
accept_at-past (r ∷ rest) (suc s) (suc d) h = accept_at-past rest s d (omega (arith, h))

pub accepted-take : (records : List Record) (s d : ℕ) → d < s → accepted (take s records) d ≡ left_at records s d
accepted-take records s d h = ap (λ o. if is_purged (take s records) d then None else o) (accept_at-take records s d h)

pub accepted-past : (records : List Record) (s d : ℕ) → s ≤ d → accepted (take s records) d ≡ None
accepted-past records s d h = ap (λ o. if is_purged (take s records) d then None else o) (accept_at-past records s d h)
    ∙ by (is_purged (take s records) d)
  where
    by : (b : Bool) → cond {A = Option Accepted} b None None ≡ None
    by true = refl
    by false = refl

below_skip : (latest settled : ℕ → List Attempt) (taken : ℕ → Option ℕ) (n d : ℕ) (more : List Entry)
    (o : Option Accepted) → d ≤ n → filter (is_below d) more ≡ []
    → filter (is_below d) (cons_option (option_map (entry_for latest settled taken n) o) more) ≡ []
below_skip latest settled taken n d more None h e = e
below_skip latest settled taken n d more (Some a) h e =
    ap (λ b. cond b (entry_for latest settled taken n a ∷ filter (is_below d) more) (filter (is_below d) more))
    (le-ltb n d h) ∙ e

below_none : (latest settled : ℕ → List Attempt) (taken : ℕ → Option ℕ) (n d : ℕ) (records : List Record) → d ≤ n
    → filter (is_below d) (filter_map (entry_by latest settled taken) (enumerate_from n records)) ≡ []
below_none latest settled taken n d [] h = refl
below_none latest settled taken n d (r ∷ rest) h =
    below_skip latest settled taken n d (filter_map (entry_by latest settled taken) (enumerate_from (n + 1) rest))
    (accepted_by r) h (below_none latest settled taken (n + 1) d rest (omega (arith, h)))

below_step : (latest settled : ℕ → List Attempt) (taken : ℕ → Option ℕ) (n d : ℕ) (few more : List Entry)
    (o : Option Accepted) → n < d → few ≡ filter (is_below d) more
    → cons_option (option_map (entry_for latest settled taken n) o) few ≡ filter (is_below d)
    (cons_option (option_map (entry_for latest settled taken n) o) more)
below_step latest settled taken n d few more None h e = e
below_step latest settled taken n d few more (Some a) h e =
    ap (λ es. entry_for latest settled taken n a ∷ es) e
    ∙ sym (ap (λ b. cond b (entry_for latest settled taken n a ∷ filter (is_below d) more)
    (filter (is_below d) more)) (lt-ltb n d h))

below_from : (latest settled : ℕ → List Attempt) (taken : ℕ → Option ℕ) (n s d : ℕ) (records : List Record) → n + s ≡ d
    → filter_map (entry_by latest settled taken) (enumerate_from n (take s records)) ≡ filter (is_below d)
    (filter_map (entry_by latest settled taken) (enumerate_from n records))
below_from latest settled taken n zero d records e = sym
    (below_none latest settled taken n d records (omega (arith, e)))
below_from latest settled taken n (suc s) d [] e = refl
below_from latest settled taken n (suc s) d (r ∷ rest) e =
    below_step latest settled taken n d
    (filter_map (entry_by latest settled taken) (enumerate_from (n + 1) (take s rest)))
    (filter_map (entry_by latest settled taken) (enumerate_from (n + 1) rest)) (accepted_by r) (omega (arith, e))
    (below_from latest settled taken (n + 1) s d rest (omega (arith, e)))

pub entries-below : (latest settled : ℕ → List Attempt) (taken : ℕ → Option ℕ) (records : List Record) (s : ℕ)
    → filter_map (entry_by latest settled taken) (numbered (take s records)) ≡ filter (is_below s)
    (filter_map (entry_by latest settled taken) (numbered records))
entries-below latest settled taken records s = below_from latest settled taken 0 s s records (omega arith)

-- the entry that is known by the settled ones
pub both_ways : (a b c : Bool) → (a && c) && b ≡ a && (b && c)
both_ways a b c = grind arith

pub known_as-settled : (records : List Record) (s : ℕ) (name id : List ℕ)
    → known_as (take s records) name id ≡ option_map (λ e. e.seq)
    (find (is_settled_as name id s) (entries_of records s))
known_as-settled records s name id =
    known_from (attempts_of records) (attempts_of (take s records)) (purged_by records) name id
    (λ e. is_entry_as name id e && is_left s e) (λ n. not (is_purged (take s records) n))
    (λ n a. ap (λ b. (bytes_eq a.endpoint name && bytes_eq a.id id) && b) (left-take records s n)) 0 (take s records)
    ∙ ap (option_map (λ (e : Entry). e.seq))
    (ap (find (λ e. is_entry_as name id e && is_left s e))
    (entries-below (attempts_of records) (attempts_of (take s records)) (purged_by records) records s)
    ∙ find-filter (λ e. is_entry_as name id e && is_left s e) (is_below s) (all_entries records s)
    ∙ (λ i. find (λ e. both_ways (is_entry_as name id e) (is_below s e) (is_left s e) i) (all_entries records s))
    ∙ sym (find-weaker (is_settled_as name id s) (is_left s) (all_entries records s)
    (λ e passes. (and_parts (is_below s e) (is_left s e)
    (and_parts (is_entry_as name id e) (is_below s e && is_left s e) passes).1).1)))

-- Counts

count_step : (latest settled : ℕ → List Attempt) (taken : ℕ → Option ℕ) (test : Option Accepted → Bool)
    → test None ≡ false → (passes : ℕ → Bool) (counted : Entry → Bool)
    → ((n : ℕ) (a : Accepted) → counted (entry_for latest settled taken n a) ≡ test (Some a) && passes n)
    → (n : ℕ) (r : Record) (more : List (ℕ × Record)) (es : List Entry) (o : Option Accepted)
    → count_by passes (map (λ (e : ℕ × Record). e.0) (filter (λ e. test (accepted_by e.1)) more)) ≡ count_by counted es
    → count_by passes (map (λ (e : ℕ × Record). e.0) (cond (test o) ((n, r) ∷ filter (λ e. test (accepted_by e.1)) more)
    (filter (λ e. test (accepted_by e.1)) more)))
    ≡ count_by counted (cons_option (option_map (entry_for latest settled taken n) o) es)
count_step latest settled taken test none passes counted same n r more es None h =
    ap (λ b. count_by passes
    (map (λ (e : ℕ × Record). e.0) (cond b ((n, r) ∷ filter (λ e. test (accepted_by e.1)) more)
    (filter (λ e. test (accepted_by e.1)) more)))) none ∙ h
count_step latest settled taken test none passes counted same n r more es (Some a) h =
    pick (test (Some a)) ∙ ap (λ b. cond b 1 0 + count_by counted es) (sym (same n a))
    ∙ sym (sum_by-cons (λ e. cond (counted e) 1 0) (entry_for latest settled taken n a) es)
  where
    rest : List ℕ
    rest = map (λ (e : ℕ × Record). e.0) (filter (λ e. test (accepted_by e.1)) more)

    pick : (b : Bool) → count_by passes
        (map (λ (e : ℕ × Record). e.0) (cond b ((n, r) ∷ filter (λ e. test (accepted_by e.1)) more)
        (filter (λ e. test (accepted_by e.1)) more))) ≡ cond (b && passes n) 1 0 + count_by counted es
    pick true = omega (arith, sum_by-cons (λ d. cond (passes d) 1 0) n rest, h)
    pick false = omega (arith, h)

pub counts_from : (latest settled : ℕ → List Attempt) (taken : ℕ → Option ℕ) (test : Option Accepted → Bool)
    → test None ≡ false → (passes : ℕ → Bool) (counted : Entry → Bool)
    → ((n : ℕ) (a : Accepted) → counted (entry_for latest settled taken n a) ≡ test (Some a) && passes n)
    → (n : ℕ) (records : List Record)
    → count_by passes (map (λ (e : ℕ × Record). e.0) (filter (λ e. test (accepted_by e.1)) (enumerate_from n records)))
    ≡ count_by counted (filter_map (entry_by latest settled taken) (enumerate_from n records))
counts_from latest settled taken test none passes counted same n [] = refl
counts_from latest settled taken test none passes counted same n (r ∷ rest) =
    count_step latest settled taken test none passes counted same n r (enumerate_from (n + 1) rest)
    (filter_map (entry_by latest settled taken) (enumerate_from (n + 1) rest)) (accepted_by r)
    (counts_from latest settled taken test none passes counted same (n + 1) rest)

and_swap : (a b c d : Bool) → a ≡ d → a && (b && c) ≡ b && (d && c)
and_swap a b c d h = grind arith

-- the deliveries that are kept, as the entries that are left
pub counts_left : (latest settled : ℕ → List Attempt) (taken : ℕ → Option ℕ) (test : Option Accepted → Bool)
    → test None ≡ false → (kept passes : ℕ → Bool) (stays counted : Entry → Bool)
    → ((n : ℕ) (a : Accepted) → stays (entry_for latest settled taken n a)
    && counted (entry_for latest settled taken n a) ≡ test (Some a) && (kept n && passes n))
    → (records : List Record)
    → count_by passes (filter kept (seqs_of (λ r. test (accepted_by r)) records)) ≡ count_by counted
    (filter stays (filter_map (entry_by latest settled taken) (numbered records)))
counts_left latest settled taken test none kept passes stays counted same records =
    count-filter passes kept (seqs_of (λ r. test (accepted_by r)) records)
    ∙ counts_from latest settled taken test none (λ d. kept d && passes d) (λ e. stays e && counted e) same 0 records
    ∙ sym (count-filter counted stays (filter_map (entry_by latest settled taken) (numbered records)))

-- those that the settled records have in a state, by the settled progress of their entries
pub counts_settled : (records : List Record) (s : ℕ) (test : Option Accepted → Bool) → test None ≡ false
    → (picked : Entry → Progress) (among : List ℕ → Bool) (asked : State)
    → ((a : Accepted) → among a.endpoint ≡ test (Some a))
    → ((n : ℕ) (a : Accepted)
    → state_in (picked (entry_for (attempts_of records) (attempts_of (take s records)) (purged_by records) n a))
    ≡ state_of (take s records) n)
    → count_in asked (take s records)
    (filter (λ d. not (is_purged (take s records) d)) (seqs_of (λ r. test (accepted_by r)) (take s records)))
    ≡ count_by (λ e. among e.name && is_in_state asked (state_in (picked e)))
    (filter (is_left s) (filter_map (entry_by (attempts_of records) (attempts_of (take s records))
    (purged_by records)) (numbered (take s records))))
counts_settled records s test none picked among asked those same =
    counts_left (attempts_of records) (attempts_of (take s records)) (purged_by records) test none
    (λ d. not (is_purged (take s records) d)) (λ d. is_in_state asked (state_of (take s records) d)) (is_left s)
    (λ e. among e.name && is_in_state asked (state_in (picked e)))
    (λ n a. (λ i. is_left s (entry_for (attempts_of records) (attempts_of (take s records)) (purged_by records) n a)
    && (those a i && is_in_state asked (same n a i)))
    ∙ and_swap _ (test (Some a)) (is_in_state asked (state_of (take s records) n)) (not (is_purged (take s records) n))
    (left-take records s n))
    (take s records)

-- those that are pending by all records: no Purge took one
pub counts_pending : (records : List Record) (s : ℕ) (test : Option Accepted → Bool) → test None ≡ false
    → (among : List ℕ → Bool) → ((a : Accepted) → among a.endpoint ≡ test (Some a))
    → count_in Pending records (filter (λ d. not (is_purged records d)) (seqs_of (λ r. test (accepted_by r)) records))
    ≡ count_by (λ e. among e.name && is_in_state Pending (state_in e.latest)) (entries_of records s)
counts_pending records s test none among those =
    counts_left (attempts_of records) (attempts_of (take s records)) (purged_by records) test none
    (λ d. not (is_purged records d)) (λ d. is_in_state Pending (state_of records d)) (is_left s)
    (λ e. among e.name && is_in_state Pending (state_in e.latest))
    (λ n a. ap (λ b. is_left s (entry_for (attempts_of records) (attempts_of (take s records)) (purged_by records) n a)
    && (b && is_in_state Pending (state_of records n))) (those a)
    ∙ by (purged_by records n) (test (Some a)) (is_in_state Pending (state_of records n)) (taken_ended records n))
    records
  where
    never : (a b c : Bool) → c ≡ false → a && (b && c) ≡ b && false
    never a b c h = grind arith

    by : (o : Option ℕ) (b c : Bool) → (is_some o ≡ true → c ≡ false) → option_map_or (leb s) o true && (b && c) ≡ b
        && (not (is_some o) && c)
    by None b c h = refl
    by (Some n) b c h = never (leb s n) b c (h refl)
