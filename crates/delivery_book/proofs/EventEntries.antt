-- The entries of one event at several endpoints.
use Rattle.std.proofs.Common.{◌≡◌, ◌≢◌, ℕ, zero, suc, ◌+◌, ◌<◌, ◌&&◌, false, List, [], ◌∷◌, ◌++◌}
use Rattle.std.proofs.Common.{None, length, take, get_or, refl, sym, ◌∙◌, ap, arith, add-zero}
use Rattle.std.specs.Prelude.{All, AllPairs, bytes_eq, find, option_map}
use Rattle.std.specs.List.{AllByRecursion}
use Rattle.std.specs.Cmp.Lexicographic.{bytes_decides}
use Rattle.std.proofs.lemmas.Bool.{false_from_ne_true}
use Rattle.std.proofs.lemmas.List.{length-take-le, take_more}
use Rattle.relay_types.specs.Steps.{accepts}
use Rattle.delivery_book.specs.declared.entry.Entry.{Entry}
use Rattle.delivery_book.specs.declared.index.EventIndex.{EventIndex}
use Rattle.delivery_book.specs.Entries.{events_from, is_entry_as, is_kept, new_entry}
use Rattle.delivery_book.specs.Fields.{AreNew, IsIndex, is_known_as}
use Rattle.delivery_book.proofs.Books.{AreFrom}
use Rattle.delivery_book.proofs.Updates.{IsFresh}

after : (seq n : ℕ) → seq + 1 + n ≡ seq + suc n
after seq n = omega arith

-- texts that differ aren't equal by their bytes
differ : (a b : List ℕ) → a ≢ b → bytes_eq a b ≡ false
differ a b other = false_from_ne_true (bytes_eq a b) (λ same. other ((bytes_decides a b).0 same))

module _ (id body : List ℕ) (at : ℕ) where
  -- the entries at these endpoints, numbered from seq on
  abbrev pub made : (seq : ℕ) (names : List (List ℕ)) → List Entry
  made seq names = events_from seq (accepts names id body at)

  pub length-made : (seq : ℕ) (names : List (List ℕ)) → length (made seq names) ≡ length names
  length-made seq [] = refl
  length-made seq (name ∷ names) = ap suc (length-made (seq + 1) names)

  pub made-snoc : (seq : ℕ) (names : List (List ℕ)) (name : List ℕ)
      → made seq (names ++ name ∷ []) ≡ made seq names ++ new_entry (seq + length names) name id body at ∷ []
  made-snoc seq [] name = ap (λ n. new_entry n name id body at ∷ []) (sym (add-zero seq))
  made-snoc seq (first ∷ names) name =
      ap (λ es. new_entry seq first id body at ∷ es) (made-snoc (seq + 1) names name)
      ∙ ap (λ n. new_entry seq first id body at ∷ (made (seq + 1) names ++ new_entry n name id body at ∷ []))
      (after seq (length names))

  -- at a step of a loop over the names
  pub made-more : (seq : ℕ) (names : List (List ℕ)) (i : ℕ) (name : List ℕ) → i < length names
      → name ≡ get_or names i name
      → made seq (take (i + 1) names) ≡ made seq (take i names) ++ new_entry (seq + i) name id body at ∷ []
  made-more seq names i name h is =
      ap (made seq) (take_more names i name h)
      ∙ made-snoc seq (take i names) (get_or names i name)
      ∙ (λ t. made seq (take i names)
      ++ new_entry (seq + length-take-le i names (omega (arith, h)) t) (sym is t) id body at ∷ [])

  -- the entry at each place
  made_at : (seq : ℕ) (names : List (List ℕ)) (k : ℕ) (d : Entry) (n : List ℕ) → k < length names
      → get_or (made seq names) k d ≡ new_entry (seq + k) (get_or names k n) id body at
  made_at seq [] k d n h = absurd (omega (arith, h))
  made_at seq (name ∷ names) zero d n h = ap (λ s. new_entry s name id body at) (sym (add-zero seq))
  made_at seq (name ∷ names) (suc k) d n h =
      made_at (seq + 1) names k d n (omega (arith, h))
      ∙ ap (λ s. new_entry s (get_or names k n) id body at) (after seq k)

  fresh : (seq : ℕ) (names : List (List ℕ)) → AllByRecursion IsFresh (made seq names)
  fresh seq [] = tt
  fresh seq (name ∷ names) = ((refl, refl, refl), fresh (seq + 1) names)

  pub made_from : (seq : ℕ) (names : List (List ℕ)) → AreFrom seq (made seq names)
  made_from seq names = record {
    numbers = λ k d h. ap (λ (e : Entry). e.seq) (made_at seq names k d [] (omega (arith, h, length-made seq names)));
    fresh = fresh seq names;
  }

  -- the index has none of them, and each has a key of its own, where the endpoints are apart and none knows the id
  pub made_new : (index : EventIndex) (entries : List Entry) (seq : ℕ) (names : List (List ℕ))
      → IsIndex index entries
      → AllPairs (λ a b. a ≢ b) names
      → All (λ name. option_map (λ e. e.seq) (find (λ e. is_entry_as name id e && is_kept e) entries) ≡ None) names
      → AreNew index (made seq names)
  made_new index entries seq names indexed apart unknown = record {
    unknown = λ k d h.
        indexed (get_or (made seq names) k d).name (get_or (made seq names) k d).id
        ∙ ap (λ (e : Entry). option_map (λ (x : Entry). x.seq) (find (is_known_as e.name e.id) entries))
        (made_at seq names k d [] (within k h))
        ∙ unknown k [] (within k h);
    apart = λ i j d lt h.
        (λ t. is_entry_as (made_at seq names j d [] (within j h) t).name (made_at seq names j d [] (within j h) t).id
        (made_at seq names i d [] (within i (omega (arith, lt, h))) t))
        ∙ ap (λ b. b && bytes_eq id id) (differ (get_or names i []) (get_or names j []) (apart i j [] lt (within j h)));
  }
    where
      within : (k : ℕ) → k < length (made seq names) → k < length names
      within k h = omega (arith, h, length-made seq names)
