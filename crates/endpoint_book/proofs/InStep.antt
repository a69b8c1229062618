-- Each endpoint shows by all records what the changes make of what the settled ones show: that stays so.
use Rattle.std.proofs.Common.{◌≡◌, ℕ, ◌+◌, ◌<◌, ◌≤◌, true, List, [], ◌∷◌, ◌++◌, append-nil, Option, Some, None, map}
use Rattle.std.proofs.Common.{max, refl, ◌∙◌, arith}
use Rattle.std.specs.Prelude.{filter, is_some, bytes_eq, nat_lt, option_map, if◌then◌else◌}
use Rattle.std.specs.List.{list_all}
use Rattle.endpoint_book.specs.declared.entry.Change.{Change}
use Rattle.endpoint_book.specs.declared.entry.Entry.{Entry}
use Rattle.endpoint_book.specs.declared.entry.Kind.{Kind}
use Rattle.endpoint_book.specs.declared.entry.Shown.{Shown}
use Rattle.endpoint_book.specs.Entries.{BookValue, change_at, entry_of, is_below, is_from, is_known, now_of, settled_at}
use Rattle.endpoint_book.specs.Entries.{shown_at, shown_with, with_change, with_put, with_restored, with_settled}
use Rattle.endpoint_book.specs.Book.{endpoint_by_entry, settled_in}
use Rattle.endpoint_book.specs.Waiting.{IsInStep}
use Rattle.endpoint_book.proofs.Shown.{shown_at-below, shown_below, shown_in_turn}
use Rattle.endpoint_book.proofs.Staged.{field-kept, entry_put, found-map, made-changed, made_put, more, put_settled}

-- Numbers

numbered_later : (next later : ℕ) (g : Entry → Entry) (es : List Entry) → ((e : Entry) → (g e).put ≡ e.put)
    → next ≤ later → list_all (λ e. nat_lt e.put next) es ≡ true → list_all (λ e. nat_lt e.put later) (map g es) ≡ true
numbered_later next later g [] keeps within h = refl
numbered_later next later g (e ∷ es) keeps within h = grind
    (arith, keeps e, numbered_later next later g es keeps within)

numbered_put : (next later : ℕ) (es : List Entry) (e : Entry) → next ≤ later → e.put < later
    → list_all (λ x. nat_lt x.put next) es ≡ true → list_all (λ x. nat_lt x.put later) (es ++ e ∷ []) ≡ true
numbered_put next later [] e within last h = grind arith
numbered_put next later (x ∷ es) e within last h = grind (arith, numbered_put next later es e within last)

numbered_more : (next later : ℕ) (es : List Entry) → next ≤ later → list_all (λ e. nat_lt e.put next) es ≡ true
    → list_all (λ e. nat_lt e.put later) es ≡ true
numbered_more next later [] within h = refl
numbered_more next later (e ∷ es) within h = grind (arith, numbered_more next later es within)

-- All changes stand below the next record

abbrev pub IsWithin : BookValue → Type 0
IsWithin book = ((place : ℕ) → book.changes ≡ filter (is_below place) book.changes ++ filter
    (is_from place) book.changes) × (filter (is_from book.next_seq) book.changes ≡ [])

beyond : (book : BookValue) (place : ℕ) (name : List ℕ) (o : Option Shown) → IsWithin book → book.next_seq ≤ place
    → shown_at place book.changes name o ≡ shown_at book.next_seq book.changes name o
beyond book place name o within later = grind (arith, append-nil, shown_below)

-- a later next record
pub step_later : (book : BookValue) (later : ℕ) → IsInStep book → IsWithin book → book.next_seq ≤ later
    → IsInStep (record book { next_seq = later })
step_later book later step within above = record {
  numbered = numbered_more book.next_seq later book.entries above step.numbered;
  caught_up = λ name. beyond book later name (settled_in book name) within above ∙ step.caught_up name;
}

-- One more change

step_more : (book : BookValue) (es : List Entry) (c : Change) → IsInStep book → IsWithin book → book.next_seq ≤ c.seq
    → list_all (λ e. nat_lt e.put (c.seq + 1)) es ≡ true
    → ((name : List ℕ) → settled_in (more book es c) name ≡ settled_in book name)
    → ((name : List ℕ) → (if bytes_eq c.name name then Some c.shown else option_map now_of (entry_of book name))
    ≡ option_map now_of (entry_of (more book es c) name))
    → IsInStep (more book es c)
step_more book es c step within above numbered same made = grind (arith, shown_at-below, beyond)

pub put_kept : (name : List ℕ) (change : Entry → Entry)
    → ((e : Entry) → endpoint_by_entry (change e) ≡ endpoint_by_entry e) → (e : Entry)
    → (change_at name change e.name e).put ≡ e.put
put_kept name change keeps e = grind (arith, keeps e)

pub step_changed : (book : BookValue) (seq : ℕ) (name : List ℕ) (kind : Kind) (change : Entry → Entry) → IsInStep book
    → IsWithin book → book.next_seq ≤ seq → is_known book name ≡ true
    → ((e : Entry) → endpoint_by_entry (change e) ≡ endpoint_by_entry e)
    → ((e : Entry) → (change e).settled ≡ e.settled) → IsInStep (with_change book seq name kind change)
step_changed book seq name kind change step within above known keeps settles =
    step_more book _ (record { seq = seq; name = name; kind = kind; shown = shown_with change (entry_of book name) })
    step within above
    (numbered_later book.next_seq (seq + 1) (λ e. change_at name change e.name e) book.entries
    (put_kept name change keeps) (omega (arith, above)) step.numbered)
    (field-kept book seq name kind change keeps (λ e. e.settled) None settles)
    (made-changed book seq name kind change keeps known)

pub step_put : (book : BookValue) (e : Entry) → IsInStep book → IsWithin book → book.next_seq ≤ e.put
    → entry_of book e.name ≡ None → e.settled ≡ None → IsInStep (with_put book e)
step_put book e step within above unknown none =
    step_more book (book.entries ++ e ∷ []) (record { seq = e.put; name = e.name; kind = _; shown = now_of e }) step
    within above
    (numbered_put book.next_seq (e.put + 1) book.entries e (omega (arith, above)) (omega arith) step.numbered)
    (put_settled book e unknown none) (made_put book e unknown)

-- One more endpoint that is settled, where nothing waits

pub step_restored : (book : BookValue) (e : Entry) → IsInStep book → book.changes ≡ [] → book.next_seq ≤ e.put
    → entry_of book e.name ≡ None → e.settled ≡ Some (now_of e) → IsInStep (with_restored book e)
step_restored book e step none above unknown settled = record {
  numbered = numbered_put book.next_seq (e.put + 1) book.entries e (omega (arith, above)) (omega arith) step.numbered;
  caught_up = λ asked. grind (arith, entry_put book e unknown asked, step.caught_up asked);
}

-- More records are settled

shown_stays : (place : ℕ) (cs : List Change) (name : List ℕ) (o : Option Shown) → is_some o ≡ true
    → is_some (shown_at place cs name o) ≡ true
shown_stays place [] name o there = there
shown_stays place (c ∷ cs) name o there = shown_stays place cs name _ (grind arith)

pub entry_settled : (book : BookValue) (place : ℕ) (name : List ℕ)
    → entry_of (with_settled book place) name ≡ option_map (settled_at place book.changes name) (entry_of book name)
entry_settled book place name = found-map (settled_at place book.changes) (λ asked e. refl) book.entries name

pub settled_moved : (book : BookValue) (place : ℕ) (name : List ℕ)
    → (entry_of book name ≡ None → shown_at place book.changes name None ≡ None)
    → settled_in (with_settled book place) name ≡ shown_at place book.changes name (settled_in book name)
settled_moved book place name none = grind (arith, entry_settled)

pub latest_same : (book : BookValue) (place : ℕ) (name : List ℕ)
    → option_map now_of (entry_of (with_settled book place) name) ≡ option_map now_of (entry_of book name)
latest_same book place name = grind (arith, entry_settled)

module _ (book : BookValue) (place : ℕ) (step : IsInStep book) (within : IsWithin book) where
  in_turn : (name : List ℕ) (o : Option Shown)
      → shown_at (max book.next_seq place) (filter (is_from place) book.changes) name
      (shown_at place book.changes name o) ≡ shown_at book.next_seq book.changes name o
  in_turn name o =
      shown_in_turn place (max book.next_seq place) book.changes name o (omega arith) (within.0 place)
      ∙ beyond book (max book.next_seq place) name o within (omega arith)

  unknown_stays : (name : List ℕ) → entry_of book name ≡ None → shown_at place book.changes name None ≡ None
  unknown_stays name none =
      grind (
        arith,
        in_turn name None,
        step.caught_up name,
        shown_stays (max book.next_seq place)
            (filter (is_from place) book.changes) name (shown_at place book.changes name None),
      )

  pub step_settled : IsInStep (with_settled book place)
  step_settled = record {
    numbered = numbered_later book.next_seq (max book.next_seq place) (λ e. settled_at place book.changes e.name e)
        book.entries (λ e. refl) (omega arith) step.numbered;
    caught_up = λ name. grind (
      arith,
      settled_moved book place name (unknown_stays name),
      in_turn name
          (settled_in book name),
      step.caught_up name,
      latest_same book place name,
    );
  }
