-- A book in which the endpoints and the topics of a legal history were restored stands for it.
use Rattle.std.proofs.Common.{◌≡◌, ◌∙◌, refl, sym, ap, arith, subst}
use Rattle.std.proofs.Common.{ℕ, ◌+◌, ◌≤◌, true, false, List, [], ◌∷◌, Option, Some, None, length, map}
use Rattle.std.specs.Prelude.{find, option_map}
use Rattle.std.specs.Option.{option_map_or}
use Rattle.std.proofs.lemmas.List.{take_all, length-map}
use Rattle.relay_types.specs.declared.record.Record.{Record}
use Rattle.relay_types.specs.Endpoints.{Endpoint, endpoints, endpoint_of, has_endpoint, is_enabled, secrets_of}
use Rattle.relay_types.specs.Legal.{IsLegal}
use Rattle.relay_types.specs.Rows.{rows_of}
use Rattle.relay_types.proofs.FlagLaws.{row_named, enabled-told, secrets-told}
use Rattle.relay_types.proofs.LookupLaws.{found_by_number}
use Rattle.relay_types.proofs.OrderLaws.{puts_rise}
use Rattle.relay_types.proofs.RowLaws.{find_map}
use Rattle.endpoint_book.specs.declared.entry.Entry.{Entry}
use Rattle.endpoint_book.specs.declared.entry.Shown.{Shown}
use Rattle.endpoint_book.specs.Entries.{BookValue, is_named}
use Rattle.endpoint_book.specs.Book.{StandsFor, endpoint_by_entry, shown_of}
use Rattle.endpoint_book.specs.Topics.{TellsTopics, TopicsValue}
use Rattle.endpoint_book.specs.Laws.{entry_for, IsRestored}
use Rattle.endpoint_book.proofs.Filters.{none_if}

-- Of a name that no endpoint has, no record of a legal history speaks, as there is no row of it

unknown-row : (records : List Record) (name : List ℕ) → has_endpoint records name ≡ false
    → row_named (rows_of records) name ≡ None
unknown-row records name unknown = grind (arith, find_map, none_if)

unknown-enabled : (records : List Record) (name : List ℕ) → IsLegal records → has_endpoint records name ≡ false
    → true ≡ is_enabled records name
unknown-enabled records name legal unknown = cc (unknown-row records name unknown, enabled-told records name legal)

unknown-secrets : (records : List Record) (name : List ℕ) → IsLegal records → has_endpoint records name ≡ false
    → [] ≡ secrets_of records name
unknown-secrets records name legal unknown = cc (unknown-row records name unknown, secrets-told records name legal)

-- The entry of a name

found-named : (records : List Record) (name : List ℕ) (e : Endpoint) → endpoint_of records name ≡ Some e → e.name ≡ name
found-named records name e is = (found_by_number 0 name (endpoints records) e (puts_rise records) is).1

module _ (records : List Record) (legal : IsLegal records) (topics : TopicsValue) (tells : TellsTopics topics records)
    (next : ℕ) (below : next ≤ length records) where
  abbrev restored : BookValue
  restored = record {
    entries = map (entry_for records) (endpoints records);
    changes = [];
    topics = topics;
    next_seq =
        next;
    settled_seq = length records;
  }

  entry-restored : (name : List ℕ)
      → find (is_named name) (map (entry_for records) (endpoints records)) ≡ option_map (entry_for records)
      (endpoint_of records name)
  entry-restored name = find_map (entry_for records) (is_named name) (endpoints records)

  -- what is asked of the entry is what the records say of the name
  told : {X : Type 0} (ask : Entry → X) (none : X) (answer : List ℕ → X) (name : List ℕ)
      → ((e : Endpoint) → ask (entry_for records e) ≡ answer e.name)
      → (has_endpoint records name ≡ false → none ≡ answer name)
      → option_map_or ask (find (is_named name) (map (entry_for records) (endpoints records))) none ≡ answer name
  told ask none answer name known unknown = grind (arith, entry-restored, found-named)

  shown-restored : (name : List ℕ)
      → option_map_or (λ (e : Entry). e.settled) (find (is_named name) (map (entry_for records) (endpoints records)))
      None ≡ shown_of records name
  shown-restored name = ap (λ o. option_map_or (λ (e : Entry). e.settled) o None) (entry-restored name)
      ∙ at (endpoint_of records name) refl
    where
      now : List ℕ → Shown
      now asked = record { enabled = is_enabled records asked; secrets = length (secrets_of records asked) }

      at : (o : Option Endpoint) → endpoint_of records name ≡ o
          → option_map_or (λ (e : Entry). e.settled) (option_map (entry_for records) o) None ≡ option_map
          (λ _. now name) o
      at (Some e) is = ap (λ n. Some (now n)) (found-named records name e is)
      at None is = refl

  same-endpoints : (es : List Endpoint) → map endpoint_by_entry (map (entry_for records) es) ≡ es
  same-endpoints [] = refl
  same-endpoints (e ∷ es) = ap (λ rest. e ∷ rest) (same-endpoints es)

  stands : StandsFor restored records (length records)
  stands = record {
    legal = legal;
    tells = record {
      enabled = λ name. told (λ (e : Entry). e.enabled) true (is_enabled records) name (λ e. refl)
          (unknown-enabled records name legal);
      secrets = λ name. told (λ (e : Entry). e.secrets) [] (secrets_of records) name (λ e. refl)
          (unknown-secrets records name legal);
      endpoints = same-endpoints (endpoints records);
      topics = tells;
    };
    shows = λ place later. record {
      shown = λ name. shown-restored name ∙ ap (λ rs. shown_of rs name) (sym (take_all place records later));
      puts = ap (λ rs. length (endpoints rs) + 0) (take_all place records later)
          ∙ omega (arith, length-map (endpoints records) (entry_for records));
    };
    flags = λ place later. omega arith;
    next_seq = below;
    settled_seq = refl;
  }

pub stands-restored : (book : BookValue) (records : List Record) → IsLegal records → IsRestored book records
    → StandsFor book records (length records)
stands-restored book records legal h =
    subst (λ b. StandsFor b records (length records))
    (λ i. record {
      entries = sym h.entries i;
      changes = sym h.changes i;
      topics = book.topics;
      next_seq =
          book.next_seq;
      settled_seq = sym h.settled_seq i;
    })
    (stands records legal book.topics h.topics book.next_seq h.next_seq)
