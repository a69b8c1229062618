-- Entries that a Purge took, and what is left once it is settled.
use Rattle.std.proofs.Common.{◌≡◌, ◌≤◌, ℕ, Bool, true, false, ◌&&◌, not, cond, List, [], ◌∷◌, ◌++◌, length}
use Rattle.std.proofs.Common.{Option, Some, None, map, refl, sym, ap, ◌∙◌, arith, append_assoc, nat_eq, nat_le}
use Rattle.std.specs.Prelude.{count_by, filter, find, is_some, option_map, option_and_then, if◌then◌else◌}
use Rattle.std.specs.List.{list_all}
use Rattle.std.specs.Option.{option_map_or}
use Rattle.std.proofs.lemmas.Bool.Decides.{nat_tests}
use Rattle.std.proofs.lemmas.List.Elements.{filter_map-append}
use Rattle.std.proofs.lemmas.List.Folds.{list_any-append}
use Rattle.std.proofs.lemmas.List.Sums.{sum_by-append, sum_by-cons}
use Rattle.relay_types.proofs.KnownLaws.{and_first}
use Rattle.relay_types.specs.declared.state.State.TheVariants.{Pending}
use Rattle.relay_types.specs.declared.record.Record.{Record}
use Rattle.relay_types.specs.declared.record.Record.TheVariants.{Put, Secrets, Enabled, Accept, Outcome, Subscribed}
use Rattle.relay_types.specs.declared.record.Record.TheVariants.{Purge}
use Rattle.relay_types.specs.Records.{Attempt, attempt_by, numbered}
use Rattle.relay_types.specs.Judging.{is_delivered_status, is_failed_status}
use Rattle.relay_types.specs.Deliveries.{attempts_of, is_accept_as, is_in_state, is_past, is_purged, known_as}
use Rattle.relay_types.specs.Deliveries.{purge_among}
use Rattle.relay_types.specs.Deliveries.{state_of, takes}
use Rattle.delivery_book.specs.declared.entry.Entry.{Entry}
use Rattle.delivery_book.specs.declared.entry.Unsettled.{Unsettled}
use Rattle.delivery_book.specs.Entries.{entry_at, kept_at, is_ended, is_kept, is_left, is_of_left, is_open, marked}
use Rattle.delivery_book.specs.Entries.{BookValue, failed_among, is_delivered_among, latest_row, row_in, state_by}
use Rattle.delivery_book.specs.Entries.{state_in}

-- Entries of one number

none_counted : (n : ℕ) (xs : List Entry) → count_by (λ e. nat_eq e.seq n) xs ≡ 0 → entry_at xs n ≡ None
none_counted n [] h = refl
none_counted n (x ∷ xs) h =
    let counted = sum_by-cons (λ (e : Entry). cond (nat_eq e.seq n) 1 0) x xs in
    grind (arith, counted, h, none_counted n xs)

none_left : (p : Entry → Bool) (n : ℕ) (xs : List Entry) → entry_at xs n ≡ None → entry_at (filter p xs) n ≡ None
none_left p n [] h = refl
none_left p n (x ∷ xs) h = grind (arith, h, none_left p n xs)

-- the entry of a number, if it passes the test
abbrev pub if_passes : (p : Entry → Bool) → Option Entry → Option Entry
if_passes p o = option_and_then (λ e. if p e then Some e else None) o

pub entry_left : (p : Entry → Bool) (n : ℕ) (xs : List Entry) → count_by (λ e. nat_eq e.seq n) xs ≤ 1
    → entry_at (filter p xs) n ≡ if_passes p (entry_at xs n)
entry_left p n [] h = refl
entry_left p n (x ∷ xs) h =
    let counted = sum_by-cons (λ (e : Entry). cond (nat_eq e.seq n) 1 0) x xs in
    let later = entry_left p n xs in
    let none = λ (z : count_by (λ (e : Entry). nat_eq e.seq n) xs ≡ 0). none_left p n xs (none_counted n xs z) in
    grind (arith, counted, h, later, none)

-- fewer are left
pub count_left : (test p : Entry → Bool) (xs : List Entry) → count_by test (filter p xs) ≤ count_by test xs
count_left test p [] = omega arith
count_left test p (x ∷ xs) =
    let all = sum_by-cons (λ (e : Entry). cond (test e) 1 0) x xs in
    let some = sum_by-cons (λ (e : Entry). cond (test e) 1 0) x (filter p xs) in
    grind (arith, all, some, count_left test p xs)

-- Entries that are pending

-- a pending one wasn't taken
pub kept_if : (n : ℕ) (xs : List Entry) (e : Entry) → list_all is_ended xs ≡ true → entry_at xs n ≡ Some e
    → is_in_state Pending (state_in e.latest) ≡ true → is_kept e ≡ true
kept_if n [] e ended found pending = absurd (let no = found in cc)
kept_if n (x ∷ xs) e ended found pending = grind (arith, ended, found, pending, kept_if n xs e)

pub kept_there : (n : ℕ) (xs : List Entry) (e : Entry) → entry_at xs n ≡ Some e → is_kept e ≡ true
    → kept_at xs n ≡ Some e
kept_there n [] e found kept = absurd (let no = found in cc)
kept_there n (x ∷ xs) e found kept = grind (arith, found, kept, kept_there n xs e)

left_if_kept : (s : ℕ) (e : Entry) → is_kept e ≡ true → is_left s e ≡ true
left_if_kept s e kept = grind arith

-- one that takes an outcome is left, whatever is settled
pub open_left : (s n : ℕ) (xs : List Entry) (e : Entry) → list_all is_ended xs ≡ true → entry_at xs n ≡ Some e
    → is_open e ≡ true → is_left s e ≡ true
open_left s n xs e ended found opened =
    left_if_kept s e (kept_if n xs e ended found (and_first (is_in_state Pending (state_in e.latest)) _ opened))

-- so is the delivery of an outcome that isn't settled
pub left_on : (s : ℕ) (xs : List Entry) (o : Unsettled) (e : Entry) → nat_le s o.seq ≡ true → is_of_left xs o ≡ true
    → entry_at xs o.delivery ≡ Some e → is_left s e ≡ true
left_on s xs o e later left found = by e.taken_by refl
  where
    by : (taken : Option ℕ) → e.taken_by ≡ taken → is_left s e ≡ true
    by None is = ap (λ t. option_map_or (nat_le s) t true) is
    by (Some purge) is = grind (arith, nat_tests, later, left, found, is)

-- the row of one that takes an outcome
pub latest_open : (book : BookValue) (d : ℕ) (e : Entry) → list_all is_ended book.entries ≡ true
    → entry_at book.entries d ≡ Some e
    → is_open e ≡ true → latest_row book d ≡ Some (row_in e.latest e)
latest_open book d e ended found opened =
    let kept = kept_if d book.entries e ended found (and_first (is_in_state Pending (state_in e.latest)) _ opened) in
    ap (option_map (λ (x : Entry). row_in x.latest x)) (kept_there d book.entries e found kept)

-- Marks

pub marked_at : (seq moment n : ℕ) (xs : List Entry) → entry_at (map (marked seq moment) xs) n ≡ option_map
    (marked seq moment) (entry_at xs n)
marked_at seq moment n [] = refl
marked_at seq moment n (x ∷ xs) = grind (arith, marked_at seq moment n xs)

-- Records

-- after these attempts the delivery is pending
abbrev is_pending_after : List Attempt → Bool
is_pending_after attempts = is_in_state Pending (state_by (is_delivered_among attempts) (failed_among attempts))

-- a delivery that is pending was pending after its earlier attempts
pending_before : (some more : List Attempt) → is_pending_after (some ++ more) ≡ true → is_pending_after some ≡ true
pending_before some more pending =
    let delivered = list_any-append (λ (a : Attempt). is_delivered_status a.status) some more in
    let failed = sum_by-append (λ (a : Attempt). cond (is_failed_status a.status) 1 0) some more in
    grind (arith, nat_tests, pending, delivered, failed)

not_past : (moment : ℕ) (attempts : List Attempt) → is_pending_after attempts ≡ true → is_past moment attempts ≡ false
not_past moment attempts pending = grind (arith, pending)

takes_none : (before : List Record) (d : ℕ) (entry : Record) → is_pending_after (attempts_of before d) ≡ true
    → takes before d entry ≡ false
takes_none before d (Purge moment) pending = not_past moment (attempts_of before d) pending
takes_none before d (Put name target max secrets) pending = refl
takes_none before d (Secrets name secrets) pending = refl
takes_none before d (Enabled name flag) pending = refl
takes_none before d (Accept name id body at) pending = refl
takes_none before d (Outcome delivery attempt status at) pending = refl
takes_none before d (Subscribed topic name flag) pending = refl

none_among : (before later : List Record) (d : ℕ) → is_pending_after (attempts_of (before ++ later) d) ≡ true
    → is_some (purge_among before later d) ≡ false
none_among before [] d pending = refl
none_among before (r ∷ later) d pending =
    let first = pending_before (attempts_of before d) (attempts_of (r ∷ later) d)
    (sym (ap is_pending_after (filter_map-append (attempt_by d) before (r ∷ later))) ∙ pending) in
    ap (λ b. is_some (if b then Some (length before) else purge_among (before ++ r ∷ []) later d))
    (takes_none before d r first)
    ∙ none_among (before ++ r ∷ []) later d
    (ap (λ records. is_pending_after (attempts_of records d)) (append_assoc before (r ∷ []) later) ∙ pending)

-- no Purge took what is pending
pub unpurged_while_pending : (records : List Record) (d : ℕ) → is_in_state Pending (state_of records d) ≡ true
    → is_purged records d ≡ false
unpurged_while_pending records d pending = none_among [] records d pending

-- what is known by an id was taken by none
pub known_unpurged : (records : List Record) (name id : List ℕ) (d : ℕ) → known_as records name id ≡ Some d
    → is_purged records d ≡ false
known_unpurged records name id d known = by (numbered records) known
  where
    by : (es : List (ℕ × Record))
        → option_map (λ (e : ℕ × Record). e.0)
        (find (λ (e : ℕ × Record). is_accept_as name id e.1 && not (is_purged records e.0)) es) ≡ Some d
        → is_purged records d ≡ false
    by [] h = absurd (let no = h in cc)
    by (e ∷ es) h = grind (arith, h, by es)
