-- What a book tells of the histories for which it stands.
use Rattle.std.proofs.Common.{◌≡◌, ℕ, ◌<◌, ◌≤◌, Bool, true, false, ◌&&◌, not, cond, List, [], ◌∷◌, Option, Some, None}
use Rattle.std.proofs.Common.{take, refl, sym, ◌∙◌, ap, arith}
use Rattle.std.specs.Prelude.{filter, filter_map, find, count_by, option_map, is_some, bytes_eq}
use Rattle.std.proofs.lemmas.Bool.{and_parts, not-true}
use Rattle.std.specs.Option.{option_map_or}
use Rattle.relay_types.specs.declared.record.Record.{Record}
use Rattle.relay_types.specs.declared.state.State.{State}
use Rattle.relay_types.specs.Records.{Accepted, numbered}
use Rattle.relay_types.specs.Deliveries.{accepted, is_accept_as, is_purged, known_as, deliveries}
use Rattle.relay_types.specs.Deliveries.{deliveries_of, attempts_of, purged_by}
use Rattle.relay_types.proofs.LookupLaws.{filter_both}
use Rattle.delivery_book.specs.declared.entry.Entry.{Entry}
use Rattle.delivery_book.specs.Entries.{BookValue, entry_at, is_left, kept_at, known_in, known_settled_in, latest_row}
use Rattle.delivery_book.specs.Entries.{row_in}
use Rattle.delivery_book.specs.declared.row.Counts.{Counts}
use Rattle.relay_types.specs.declared.state.State.TheVariants.{Pending, Delivered, Exhausted}
use Rattle.delivery_book.specs.Fields.{in_state, is_counted, settled_among, settled_counts}
use Rattle.delivery_book.proofs.Entries.{is_below}
use Rattle.delivery_book.specs.Book.{StandsFor, entry_for, entry_by, row_of, body_left, count_in}
use Rattle.delivery_book.proofs.Histories.{all_entries, known_as-entries, known_as-settled, entry_at-entries}
use Rattle.delivery_book.proofs.Histories.{kept_at-entries, left_at, row_of-made}
use Rattle.delivery_book.proofs.Histories.{accepted-take, accepted-past, entries-below, counts_settled, counts_pending}

pub stands_known : (book : BookValue) (records : List Record) (settled : ℕ) (name id : List ℕ)
    → StandsFor book records settled → known_in book name id ≡ known_as records name id
stands_known book records settled name id h = ap (λ es. known_in (record book { entries = es }) name id) h.entries
    ∙ sym (known_as-entries records settled name id)

pub stands_known_settled : (book : BookValue) (records : List Record) (settled : ℕ) (name id : List ℕ)
    → StandsFor book records settled → known_settled_in book name id ≡ known_as (take settled records) name id
stands_known_settled book records settled name id h =
    (λ i. known_settled_in (record book { entries = h.entries i; settled_seq = h.settled_seq i }) name id)
    ∙ sym (known_as-settled records settled name id)

pub stands_row : (book : BookValue) (records : List Record) (settled d : ℕ) → StandsFor book records settled
    → latest_row book d ≡ row_of records d
stands_row book records settled d h =
    ap (option_map (λ (e : Entry). row_in e.latest e)) (ap (λ es. kept_at es d) h.entries
    ∙ kept_at-entries records settled d)
    ∙ row_of-made (attempts_of records) (attempts_of (take settled records)) (purged_by records) (λ e. e.latest) records
    d (accepted records d) refl (λ a. refl)

pub stands_settled_row : (book : BookValue) (records : List Record) (settled d : ℕ) → StandsFor book records settled
    → d < book.settled_seq
    → option_map (λ e. row_in e.settled e) (entry_at book.entries d) ≡ row_of (take settled records) d
stands_settled_row book records settled d h l =
    ap (option_map (λ (e : Entry). row_in e.settled e)) (ap (λ es. entry_at es d) h.entries
    ∙ entry_at-entries records settled d)
    ∙ row_of-made (attempts_of records) (attempts_of (take settled records)) (purged_by records) (λ e. e.settled)
    (take settled records) d (left_at records settled d)
    (accepted-take records settled d (omega (arith, h.settled_seq, l))) (λ a. refl)

pub stands_waiting_row : (book : BookValue) (records : List Record) (settled d : ℕ) → StandsFor book records settled
    → book.settled_seq ≤ d → None ≡ row_of (take settled records) d
stands_waiting_row book records settled d h l =
    row_of-made (attempts_of records) (attempts_of (take settled records)) (purged_by records) (λ e. e.settled)
    (take settled records) d None (accepted-past records settled d (omega (arith, h.settled_seq, l))) (λ a. refl)

pub stands_body : (book : BookValue) (records : List Record) (settled d : ℕ) → StandsFor book records settled
    → option_map (λ e. e.body) (entry_at book.entries d) ≡ body_left records settled d
stands_body book records settled d h = ap (option_map (λ (e : Entry). e.body)) (ap (λ es. entry_at es d) h.entries
    ∙ entry_at-entries records settled d) ∙ by (left_at records settled d)
  where
    by : (o : Option Accepted)
        → option_map (λ (e : Entry). e.body)
        (option_map (entry_for (attempts_of records) (attempts_of (take settled records)) (purged_by records) d) o)
        ≡ option_map (λ (a : Accepted). a.body) o
    by None = refl
    by (Some a) = refl

-- the deliveries of an endpoint, or of all
abbrev pub deliveries_for : List Record → Option (List ℕ) → List ℕ
deliveries_for records None = deliveries records
deliveries_for records (Some name) = deliveries_of records name

-- those that are pending by all records
pub stands_pending : (book : BookValue) (records : List Record) (settled : ℕ) (those : Option (List ℕ))
    → StandsFor book records settled
    → count_by (is_counted (λ e. e.latest) those Pending) book.entries ≡ count_in Pending records
    (deliveries_for records those)
stands_pending book records settled None h =
    ap (count_by (is_counted (λ e. e.latest) None Pending)) h.entries
    ∙ sym (counts_pending records settled is_some refl (λ name. true) (λ a. refl))
stands_pending book records settled (Some asked) h =
    ap (count_by (is_counted (λ e. e.latest) (Some asked) Pending)) h.entries
    ∙ sym (counts_pending records settled (λ o. option_map_or (λ a. bytes_eq a.endpoint asked) o false) refl
    (λ name. bytes_eq name asked) (λ a. refl))

settled_entries : (book : BookValue) (records : List Record) (settled n : ℕ) → StandsFor book records settled
    → take n book.entries ≡ filter (is_below book.settled_seq) book.entries
    → take n book.entries ≡ filter (is_left settled)
    (filter_map (entry_by (attempts_of records) (attempts_of (take settled records)) (purged_by records))
    (numbered (take settled records)))
settled_entries book records settled n h first =
    first ∙ (λ i. filter (is_below (h.settled_seq i)) (h.entries i)) ∙ filter_both (is_below settled) (is_left settled)
    (all_entries records settled)
    ∙ ap (filter (is_left settled))
    (sym (entries-below (attempts_of records) (attempts_of (take settled records)) (purged_by records) records
    settled))

pub stands_settled_counts : (book : BookValue) (records : List Record) (settled n : ℕ) (those : Option (List ℕ))
    (asked : State) → StandsFor book records settled
    → take n book.entries ≡ filter (is_below book.settled_seq) book.entries
    → count_by (is_counted (λ e. e.settled) those asked) (take n book.entries) ≡ count_in asked
    (take settled records) (deliveries_for (take settled records) those)
stands_settled_counts book records settled n None asked h first =
    ap (count_by (is_counted (λ e. e.settled) None asked)) (settled_entries book records settled n h first)
    ∙ sym (counts_settled records settled is_some refl (λ e. e.settled) (λ name. true) asked (λ a. refl) (λ n a. refl))
stands_settled_counts book records settled n (Some endpoint) asked h first =
    ap (count_by (is_counted (λ e. e.settled) (Some endpoint) asked)) (settled_entries book records settled n h first)
    ∙ sym (counts_settled records settled (λ o. option_map_or (λ a. bytes_eq a.endpoint endpoint) o false) refl
    (λ e. e.settled) (λ name. bytes_eq name endpoint) asked (λ a. refl) (λ n a. refl))

-- counts that are those of the first entries, which are the settled ones
pub counts_told : (book : BookValue) (n : ℕ) (counts : Counts) (those : Option (List ℕ))
    → take n book.entries ≡ filter (is_below book.settled_seq) book.entries
    → ((asked : State) → in_state asked counts ≡ settled_among (take n book.entries) those asked)
    → counts ≡ settled_counts book those
counts_told book n counts those first each =
    let at : (asked : State) → in_state asked counts ≡ settled_among (filter (is_below book.settled_seq) book.entries)
    those asked = λ asked. each asked ∙ ap (λ es. settled_among es those asked) first in
    λ i. record { pending = at Pending i; delivered = at Delivered i; exhausted = at Exhausted i }

-- A delivery that is known was not taken, so its body is there.

pub found_one : {X : Type 0} (p : X → Bool) (xs : List X) (x : X) → find p xs ≡ Some x → p x ≡ true
found_one p [] x h = absurd (let no = h in cc)
found_one {X} p (y ∷ xs) x h = by (found_one p xs x) (p y) refl h
  where
    same : Some y ≡ Some x → y ≡ x
    same e = cc

    by : (find p xs ≡ Some x → p x ≡ true) → (b : Bool) → p y ≡ b → cond b (Some y) (find p xs) ≡ Some x → p x ≡ true
    by later true passes e = ap p (sym (same e)) ∙ passes
    by later false fails e = later e

pub known_unpurged : (records : List Record) (name id : List ℕ) (d : ℕ) → known_as records name id ≡ Some d
    → is_purged records d ≡ false
known_unpurged records name id d h = by (find (λ e. is_accept_as name id e.1 && not (is_purged records e.0))
    (numbered records)) refl h
  where
    same : (n : ℕ) → Some n ≡ Some d → n ≡ d
    same n e = cc

    by : (o : Option (ℕ × Record)) → find (λ e. is_accept_as name id e.1 && not (is_purged records e.0))
        (numbered records) ≡ o → option_map (λ (e : ℕ × Record). e.0) o ≡ Some d → is_purged records d ≡ false
    by None found e = absurd (let no = e in cc)
    by (Some x) found e =
        ap (is_purged records) (sym (same x.0 e))
        ∙ not-true (is_purged records x.0) (and_parts (is_accept_as name id x.1) (not (is_purged records x.0))
        (found_one (λ e. is_accept_as name id e.1 && not (is_purged records e.0)) (numbered records) x found)).1
