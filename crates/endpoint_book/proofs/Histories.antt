-- What a book that stands for some records says of them.
use Rattle.std.proofs.Common.{◌≡◌, ℕ, ◌+◌, true, false, List, [], ◌∷◌, ◌++◌, Option, None, length, take, drop, map}
use Rattle.std.proofs.Common.{refl, sym, ◌∙◌, ap, arith, add-zero}
use Rattle.std.specs.Prelude.{is_some, option_map, option_and_then}
use Rattle.std.specs.List.{enumerate_from}
use Rattle.std.proofs.lemmas.List.{take-append-drop}
use Rattle.std.proofs.lemmas.List.Elements.{filter_map-append}
use Rattle.std.proofs.lemmas.List.Folds.{find-append}
use Rattle.relay_types.specs.declared.record.Record.{Record}
use Rattle.relay_types.specs.Endpoints.{Endpoint, endpoints, endpoint_of, has_endpoint}
use Rattle.relay_types.proofs.RowLaws.{find_map}
use Rattle.endpoint_book.specs.declared.entry.Entry.{Entry}
use Rattle.endpoint_book.specs.declared.entry.Shown.{Shown}
use Rattle.endpoint_book.specs.Entries.{BookValue, entry_of, now_of}
use Rattle.endpoint_book.specs.Book.{Agrees, endpoint_by_entry, shown_of, secrets_if_known, view_of, view_by}

-- The endpoint of an entry

pub endpoint-entry : (book : BookValue) (records : List Record) (name : List ℕ) → Agrees book records
    → endpoint_of records name ≡ option_map endpoint_by_entry (entry_of book name)
endpoint-entry book records name h = grind (arith, find_map)

pub known-entry : (book : BookValue) (records : List Record) (name : List ℕ) → Agrees book records
    → is_some (entry_of book name) ≡ has_endpoint records name
known-entry book records name h = grind (arith, endpoint-entry book records name h)

-- what all records show of it
pub shown-now : (book : BookValue) (records : List Record) (name : List ℕ) → Agrees book records
    → shown_of records name ≡ option_map now_of (entry_of book name)
shown-now book records name h = grind (arith, endpoint-entry book records name h, h.enabled name, h.secrets name)

pub secrets-told : (book : BookValue) (records : List Record) (name : List ℕ) → Agrees book records
    → option_map (λ e. e.secrets) (entry_of book name) ≡ secrets_if_known records name
secrets-told book records name h = grind (arith, endpoint-entry book records name h, h.secrets name)

-- what is asked of the endpoint is asked of the entry
pub field-told : {X : Type 0} (book : BookValue) (records : List Record) (name : List ℕ) (f : Endpoint → X)
    → Agrees book records
    → option_map (λ e. f (endpoint_by_entry e)) (entry_of book name) ≡ option_map f (endpoint_of records name)
field-told book records name f h = grind (arith, endpoint-entry book records name h)

names_kept : (es : List Entry) → map (λ e. e.name) es ≡ map (λ e. e.name) (map endpoint_by_entry es)
names_kept [] = refl
names_kept (e ∷ es) = grind (arith, names_kept es)

pub names-told : (book : BookValue) (records : List Record) → Agrees book records
    → map (λ e. e.name) book.entries ≡ map (λ e. e.name) (endpoints records)
names-told book records h = names_kept book.entries ∙ ap (map (λ (e : Endpoint). e.name)) h.endpoints

-- The first records alone

enumerate_from-append : {X : Type 0} (n : ℕ) (xs ys : List X) → enumerate_from n (xs ++ ys) ≡ enumerate_from n xs
    ++ enumerate_from (n + length xs) ys
enumerate_from-append n [] ys = ap (λ m. enumerate_from m ys) (sym (add-zero n))
enumerate_from-append n (x ∷ xs) ys = grind (arith, enumerate_from-append (n + 1) xs ys)

-- an endpoint of the first records is one of all
pub endpoint-front : (records : List Record) (place : ℕ) (name : List ℕ)
    → is_some (endpoint_of (take place records) name) ≡ true
    → endpoint_of (take place records) name ≡ endpoint_of records name
endpoint-front records place name there = grind (
  arith,
  take-append-drop place records,
  enumerate_from-append 0
      (take place records) (drop place records),
  find-append,
  filter_map-append,
)

-- what is shown of an endpoint that isn't there
pub shown-none : (records : List Record) (place : ℕ) (name : List ℕ) → is_some (endpoint_of records name) ≡ false
    → shown_of (take place records) name ≡ None
shown-none records place name none = grind (arith, endpoint-front)

-- an endpoint as the first records show it
pub view-front : (book : BookValue) (records : List Record) (place : ℕ) (name : List ℕ) (o : Option Shown)
    → Agrees book records → o ≡ shown_of (take place records) name
    → option_and_then (λ e. option_map (view_by e) o) (entry_of book name) ≡ view_of (take place records) name
view-front book records place name o h shown = grind (arith, endpoint-entry book records name h, endpoint-front)
