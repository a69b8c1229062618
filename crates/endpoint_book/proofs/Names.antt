-- The entries of the names, and what a change of one of them makes of the list.
use Rattle.std.proofs.Common.{◌≡◌, ◌≢◌, ℕ, zero, suc, ◌<◌, true, false, List, [], ◌∷◌, ◌++◌, Option, Some, None, length}
use Rattle.std.proofs.Common.{get_or, refl, sym, ◌∙◌, ap, map, arith}
use Rattle.std.specs.Prelude.{find, filter_map, is_some, bytes_eq, option_map, if◌then◌else◌}
use Rattle.std.specs.List.{AllPairs, list_any, list_all}
use Rattle.std.specs.Cmp.Lexicographic.{bytes_decides}
use Rattle.std.proofs.lemmas.List.Elements.{filter_map-append}
use Rattle.std.proofs.lemmas.List.Folds.{list_all-append, list_any-append}
use Rattle.std.proofs.lemmas.List.Quantifiers.{all_pairs_push}
use Rattle.relay_types.proofs.KnownLaws.{and_both, and_first, and_second}
use Rattle.endpoint_book.specs.declared.entry.Entry.{Entry}
use Rattle.endpoint_book.specs.Entries.{is_named, change_at}
use Rattle.endpoint_book.specs.Fields.{AreNames, with_entry}
use Rattle.endpoint_book.proofs.Filters.{is_some-map}

found_in : (g : List ℕ → Option Entry) → ((name : List ℕ) (e : Entry) → g name ≡ Some e → e.name ≡ name)
    → (name : List ℕ) (names : List (List ℕ))
    → find (is_named name) (filter_map g names) ≡ (if list_any (λ n. bytes_eq n name) names then g name else None)
found_in g keyed name [] = refl
found_in g keyed name (n ∷ names) = grind (arith, bytes_decides, found_in g keyed name names)

-- a look-up finds what the list of the entries has
pub found : (g : List ℕ → Option Entry) (names : List (List ℕ)) (name : List ℕ) → AreNames g names
    → find (is_named name) (filter_map g names) ≡ g name
found g names name h = grind (arith, found_in)

-- the entries stand in the order of the names
names_of : (g : List ℕ → Option Entry) (ns : List (List ℕ))
    → ((name : List ℕ) (e : Entry) → g name ≡ Some e → e.name ≡ name) → list_all (λ n. is_some (g n)) ns ≡ true
    → map (λ e. e.name) (filter_map g ns) ≡ ns
names_of g [] keyed each = refl
names_of g (n ∷ ns) keyed each = grind (arith, keyed n, names_of g ns keyed)

pub named : (g : List ℕ → Option Entry) (names : List (List ℕ)) → AreNames g names
    → map (λ e. e.name) (filter_map g names) ≡ names
named g names h = names_of g names h.keyed h.each

-- each entry is the one that a look-up of its name finds
found_all : (g : List ℕ → Option Entry) (names ns : List (List ℕ)) → AreNames g names
    → map (λ e. find (is_named e.name) (filter_map g names)) (filter_map g ns) ≡ map Some (filter_map g ns)
found_all g names [] h = refl
found_all g names (n ∷ ns) h = grind (arith, h.keyed n, found g names n h, found_all g names ns h)

pub found_each : (g : List ℕ → Option Entry) (names : List (List ℕ)) → AreNames g names
    → map (λ e. find (is_named e.name) (filter_map g names)) (filter_map g names) ≡ map Some (filter_map g names)
found_each g names h = found_all g names names h

-- Entries that are changed, each by its name

pub changed-names : (g : List ℕ → Option Entry) (names : List (List ℕ)) (change : List ℕ → Entry → Entry)
    → ((name : List ℕ) (e : Entry) → (change name e).name ≡ e.name)
    → AreNames g names → AreNames (λ name. option_map (change name) (g name)) names
changed-names g names change keeps h = record {
  keyed = λ name e is. grind (arith, h.keyed name, keeps name);
  covered = λ name there. h.covered name (sym (is_some-map (change name) (g name)) ∙ there);
  each = ap (λ p. list_all p names) (λ i n. is_some-map (change n) (g n) i) ∙ h.each;
}

changed_all : (g : List ℕ → Option Entry) (ns : List (List ℕ)) (change : List ℕ → Entry → Entry)
    → ((name : List ℕ) (e : Entry) → g name ≡ Some e → e.name ≡ name)
    → filter_map (λ name. option_map (change name) (g name)) ns ≡ map (λ e. change e.name e) (filter_map g ns)
changed_all g [] change keyed = refl
changed_all g (n ∷ ns) change keyed = grind (arith, keyed n, changed_all g ns change keyed)

pub changed-listed : (g : List ℕ → Option Entry) (names : List (List ℕ)) (change : List ℕ → Entry → Entry)
    → AreNames g names
    → filter_map (λ name. option_map (change name) (g name)) names ≡ map (λ e. change e.name e) (filter_map g names)
changed-listed g names change h = changed_all g names change h.keyed

-- One more entry, of a name that none has

other_name : (g : List ℕ → Option Entry) (e : Entry) (n : List ℕ) → g e.name ≡ None → is_some (g n) ≡ true
    → bytes_eq e.name n ≡ false
other_name g e n unknown there = grind (arith, bytes_decides)

old_stay : (g : List ℕ → Option Entry) (e : Entry) (ns : List (List ℕ)) → g e.name ≡ None
    → list_all (λ n. is_some (g n)) ns ≡ true
    → (filter_map (with_entry g e) ns ≡ filter_map g ns) × (list_all (λ n. is_some (with_entry g e n)) ns ≡ true)
old_stay g e [] unknown each = (refl, refl)
old_stay g e (n ∷ ns) unknown each = grind (arith, other_name g e n unknown, old_stay g e ns unknown)

pub itself : (name : List ℕ) → bytes_eq name name ≡ true
itself name = (bytes_decides name name).1 refl

pub put-listed : (g : List ℕ → Option Entry) (names : List (List ℕ)) (e : Entry) → g e.name ≡ None → AreNames g names
    → filter_map (with_entry g e) (names ++ e.name ∷ []) ≡ filter_map g names ++ e ∷ []
put-listed g names e unknown h = grind (arith, filter_map-append, old_stay, itself)

pub put-names : (g : List ℕ → Option Entry) (names : List (List ℕ)) (e : Entry) → g e.name ≡ None → AreNames g names
    → AreNames (with_entry g e) (names ++ e.name ∷ [])
put-names g names e unknown h = grind
    (arith, old_stay g e names unknown h.each, itself e.name, list_any-append, list_all-append, and_both, bytes_decides)

-- a name that no entry has is none of the names
none_named : (g : List ℕ → Option Entry) (x : List ℕ) (ns : List (List ℕ)) → g x ≡ None
    → list_all (λ n. is_some (g n)) ns ≡ true
    → (k : ℕ) (d : List ℕ) → k < length ns → get_or ns k d ≢ x
none_named g x [] none each k d lt = absurd (omega (arith, lt))
none_named g x (n ∷ ns) none each zero d lt = λ same.
    let there = and_first (is_some (g n)) _ each in
    let lost = ap g same ∙ none in
    absurd (grind (arith, there, lost))
none_named g x (n ∷ ns) none each (suc k) d lt =
    none_named g x ns none (and_second (is_some (g n)) _ each) k d (omega (arith, lt))

pub names_apart : (g : List ℕ → Option Entry) (names : List (List ℕ)) (e : Entry) → g e.name ≡ None → AreNames g names
    → AllPairs (λ a b. a ≢ b) names → AllPairs (λ a b. a ≢ b) (names ++ e.name ∷ [])
names_apart g names e unknown h apart =
    all_pairs_push (λ a b. a ≢ b) names e.name apart (none_named g e.name names unknown h.each)

pub change_at-name : (name : List ℕ) (change : Entry → Entry) → ((e : Entry) → (change e).name ≡ e.name)
    → (asked : List ℕ) (e : Entry) → (change_at name change asked e).name ≡ e.name
change_at-name name change keeps asked e = grind arith

-- what a look-up finds
pub ruleset looks = (found, is_some-map)
