-- Two sides that tell the same of all that either has tell the same of everything.
use Rattle.desk.proofs.Words.{◌≡◌, ◌<◌, ◌+◌, ℕ, length, get_or, Bool, true, false, List, [], ◌∷◌, ◌++◌, Option, Some}
use Rattle.desk.proofs.Words.{None, map, take, sym, ◌∙◌, ap, subst, ◌&&◌, eqb, IsTrue, find, is_some, option_map}
use Rattle.desk.proofs.Words.{option_and_then, bytes_eq, slice_get, IsSome, AllByRecursion, bytes_eq-Decides, and_first}
use Rattle.desk.proofs.Words.{and_second, view_by, EndpointEntry, Entry, BookValue, is_entry_as, known_settled_in}
use Rattle.desk.proofs.Words.{row_in}
use Rattle.desk.proofs.Words.{settled_row, Books, DeskValue, AreTold, endpoint_in, endpoint_page, event_in, event_page}
use Rattle.desk.proofs.Words.{shown_with, totals, totals_in, arith, nat_lt, nat_tests, by_bool, by_option}
use Rattle.desk.proofs.Words.{is_settled_as, row_if_settled}
use Rattle.delivery_book.specs.declared.row.Row.{Row}
use Rattle.delivery_book.specs.Fields.{settled_counts}
use Rattle.desk.specs.declared.pages.Totals.{Totals}
use Rattle.endpoint_book.specs.Entries as endpoint_entries
use Rattle.desk.proofs.OpeningLaws.{names_next, nothing_there, take_next}

-- One more element

all_append : {X : Type 0} (P : X → Type 0) (xs : List X) (x : X) → AllByRecursion P xs → P x
    → AllByRecursion P (xs ++ x ∷ [])
all_append P [] x h p = (p, tt)
all_append P (y ∷ ys) x h p = (h.0, all_append P ys x h.1 p)

pub all_next : {X : Type 0} (P : X → Type 0) (xs : List X) (i : ℕ) (x : X) → slice_get xs i ≡ Some x
    → AllByRecursion P (take i xs) → P x → AllByRecursion P (take (i + 1) xs)
all_next P xs i x at h p = subst (AllByRecursion P) (sym (take_next xs i x at)) (all_append P (take i xs) x h p)

-- the next endpoint, and the next event
pub name_next : (P : List ℕ → Type 0) (book : endpoint_entries.BookValue) (names : List (List ℕ)) (i : ℕ)
    (name : List ℕ) → names ≡ map (λ e. e.name) book.entries → i < length names → name ≡ get_or names i name
    → AllByRecursion P (take i (map (λ e. e.name) book.entries)) → P name
    → AllByRecursion P (take (i + 1) (map (λ e. e.name) book.entries))
name_next P book names i name are within is h p =
    subst (AllByRecursion P) (sym (names_next book names i name are within is))
    (all_append P (take i (map (λ (e : EndpointEntry). e.name) book.entries)) name h p)

-- it holds of a settled event
abbrev pub IfSettled : (settled : ℕ) (P : List ℕ → List ℕ → Type 0) → Entry → Type 0
IfSettled settled P e = nat_lt e.seq settled ≡ true → P e.name e.id

pub event_next : (P : List ℕ → List ℕ → Type 0) (settled : ℕ) (entries : List Entry) (place : ℕ) (row : Row)
    → Some row ≡ option_and_then (row_if_settled settled) (slice_get entries place)
    → AllByRecursion (IfSettled settled P) (take place entries) → P row.endpoint row.id
    → AllByRecursion (IfSettled settled P) (take (place + 1) entries)
event_next P settled entries place row found h p =
    by_option (slice_get entries place) (λ none. absurd (grind (arith, found, none)))
    (λ e at. by_bool (nat_lt e.seq settled)
    (λ below.
    let is : row ≡ row_in e.settled e = grind (arith, found, at, below) in
    all_next (IfSettled settled P) entries place e at h (λ _. subst (λ (r : Row). P r.endpoint r.id) is p))
    (λ waits. absurd (grind (arith, found, at, waits))))

-- one that waits isn't asked for
pub event_passed : (P : List ℕ → List ℕ → Type 0) (settled : ℕ) (entries : List Entry) (place : ℕ)
    → place < length entries
    → None ≡ option_and_then (row_if_settled settled) (slice_get entries place)
    → AllByRecursion (IfSettled settled P) (take place entries)
    → AllByRecursion (IfSettled settled P) (take (place + 1) entries)
event_passed P settled entries place within none h =
    by_option (slice_get entries place)
    (λ e. absurd (nothing_there (λ (x : Entry). x) entries place within (sym (ap (option_map (λ (x : Entry). x)) e))))
    (λ e at. all_next (IfSettled settled P) entries place e at h (λ below. absurd (grind (arith, none, at, below))))

-- what is known is found
pub found_known : {X : Type 0} (f : X → ℕ) (o : Option X) → is_some (option_map f o) ≡ true → is_some o ≡ true
found_known f o h = grind arith

-- What holds of each element that is there holds of what is found among them

pub named_among : (P : List ℕ → Type 0) (entries : List EndpointEntry) (name : List ℕ)
    → AllByRecursion P (map (λ e. e.name) entries) → is_some (find (endpoint_entries.is_named name) entries) ≡ true
    → P name
named_among P [] name h there = cc
named_among P (e ∷ es) name h there = by_bool (bytes_eq e.name name)
    (λ same. subst P ((bytes_eq-Decides e.name name).0 same) h.0)
    (λ other. named_among P es name h.1 (grind (arith, there, other)))

pub event_among : (P : List ℕ → List ℕ → Type 0) (settled : ℕ) (entries : List Entry) (name id : List ℕ)
    → AllByRecursion (IfSettled settled P) entries
    → is_some (find (is_settled_as name id settled) entries) ≡ true → P name id
event_among P settled [] name id h there = cc
event_among P settled (e ∷ es) name id h there = by_bool (is_settled_as name id settled e)
    (λ both.
    let same = and_first (is_entry_as name id e) _ both in
    let below = and_first (nat_lt e.seq settled) _ (and_second (is_entry_as name id e) _ both) in
    let named = (bytes_eq-Decides e.name name).0 (and_first (bytes_eq e.name name) (bytes_eq e.id id) same) in
    let known = (bytes_eq-Decides e.id id).0 (and_second (bytes_eq e.name name) (bytes_eq e.id id) same) in
    subst (λ n. P n id) named (subst (P e.name) known (h.0 below)))
    (λ other. event_among P settled es name id h.1 (grind (arith, there, other)))

-- What neither side has is told by neither

nothing_found : {X : Type 0} (o : Option X) → is_some o ≡ false → o ≡ None
nothing_found o e = grind arith

unknown_endpoint : (endpoints : endpoint_entries.BookValue) (deliveries : BookValue) (name : List ℕ)
    → endpoint_entries.is_known endpoints name ≡ false → endpoint_in endpoints deliveries name ≡ None
unknown_endpoint endpoints deliveries name none =
    ap (λ o. option_map (shown_with (settled_counts deliveries (Some name)))
    (option_and_then (λ (e : EndpointEntry). option_map (view_by e) e.settled) o))
    (nothing_found (endpoint_entries.entry_of endpoints name) none)

unknown_event : (deliveries : BookValue) (name id : List ℕ) → is_some (known_settled_in deliveries name id) ≡ false
    → event_in deliveries name id ≡ None
unknown_event deliveries name id none = ap (option_and_then (settled_row deliveries))
    (nothing_found (known_settled_in deliveries name id) none)

-- what the one side has is told by the other, and both tell the same of all
pub record IsFound (endpoints : endpoint_entries.BookValue) (deliveries : BookValue)
    (others : endpoint_entries.BookValue) (other : BookValue) : Type 0 where
  pub endpoints_in : (name : List ℕ) → IsTrue (endpoint_entries.is_known endpoints name)
      → endpoint_in endpoints deliveries name ≡ endpoint_in others other name
  pub events_in : (name id : List ℕ) → IsSome (known_settled_in deliveries name id)
      → event_in deliveries name id ≡ event_in other name id

pub endpoints_told : (e oe : endpoint_entries.BookValue) (d od : BookValue) → IsFound e d oe od → IsFound oe od e d
    → (name : List ℕ) → endpoint_in oe od name ≡ endpoint_in e d name
endpoints_told e oe d od mine theirs name =
    by_bool (endpoint_entries.is_known e name) (λ is. sym (mine.endpoints_in name is)) (λ none.
    by_bool (endpoint_entries.is_known oe name) (theirs.endpoints_in name)
    (λ is. unknown_endpoint oe od name is ∙ sym (unknown_endpoint e d name none)))

pub events_told : (e oe : endpoint_entries.BookValue) (d od : BookValue) → IsFound e d oe od → IsFound oe od e d
    → (name id : List ℕ) → event_in od name id ≡ event_in d name id
events_told e oe d od mine theirs name id =
    by_bool (is_some (known_settled_in d name id)) (λ is. sym (mine.events_in name id is)) (λ none.
    by_bool (is_some (known_settled_in od name id)) (theirs.events_in name id)
    (λ is. unknown_event od name id is ∙ sym (unknown_event d name id none)))

-- Totals

abbrev pub test_totals : Totals → Totals → Bool
test_totals a b = eqb a.delivered b.delivered
    && (eqb a.endpoints b.endpoints
    && (eqb a.exhausted b.exhausted && (eqb a.pending b.pending && eqb a.records b.records)))

pub same_totals : (a b : Totals) → test_totals a b ≡ true → a ≡ b
same_totals a b h =
    let d : a.delivered ≡ b.delivered = grind (arith, nat_tests, h) in
    let e : a.endpoints ≡ b.endpoints = grind (arith, nat_tests, h) in
    let x : a.exhausted ≡ b.exhausted = grind (arith, nat_tests, h) in
    let p : a.pending ≡ b.pending = grind (arith, nat_tests, h) in
    let r : a.records ≡ b.records = grind (arith, nat_tests, h) in
    λ i. record { delivered = d i; endpoints = e i; exhausted = x i; pending = p i; records = r i }

pub test_same : (a b : Totals) → a ≡ b → test_totals a b ≡ true
test_same a b same = rw (sym same) (grind (arith, nat_tests))

-- Desks

pub is_told : {d v : DeskValue} → d ≡ v → (books : Books) → totals_in books.endpoints books.deliveries books.records
    ≡ totals v → IsFound d.endpoints d.deliveries books.endpoints books.deliveries
    → IsFound books.endpoints books.deliveries d.endpoints d.deliveries → AreTold v books
is_told {d} {v} same books counted mine theirs = record {
  totals = counted;
  endpoints = λ name. endpoints_told d.endpoints books.endpoints d.deliveries books.deliveries mine theirs name
      ∙ ap (λ (x : DeskValue). endpoint_page x name) same;
  events = λ name id. events_told d.endpoints books.endpoints d.deliveries books.deliveries mine theirs name id
      ∙ ap (λ (x : DeskValue). event_page x name id) same;
}

-- what is told isn't found to differ, from either side
pub not_here : {d v : DeskValue} → d ≡ v → (books : Books)
    → ¬ (((name : List ℕ) → endpoint_in d.endpoints d.deliveries name
    ≡ endpoint_in books.endpoints books.deliveries name)
    × ((name id : List ℕ) → event_in d.deliveries name id ≡ event_in books.deliveries name id)) → AreTold v books → ⊥
not_here {d} {v} same books differs told = differs (
  λ name. ap (λ (x : DeskValue). endpoint_page x name) same ∙ sym (told.endpoints name),
  λ name id. ap (λ (x : DeskValue). event_page x name id) same ∙ sym (told.events name id),
)

pub not_there : {d v : DeskValue} → d ≡ v → (books : Books)
    → ¬ (((name : List ℕ) → endpoint_in books.endpoints books.deliveries name
    ≡ endpoint_in d.endpoints d.deliveries name)
    × ((name id : List ℕ) → event_in books.deliveries name id ≡ event_in d.deliveries name id)) → AreTold v books → ⊥
not_there {d} {v} same books differs told = differs (
  λ name. told.endpoints name ∙ sym (ap (λ (x : DeskValue). endpoint_page x name) same),
  λ name id. told.events name id ∙ sym (ap (λ (x : DeskValue). event_page x name id) same),
)
