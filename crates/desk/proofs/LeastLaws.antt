-- The least number of a list of rising numbers.
use Rattle.desk.proofs.Words.{◌≡◌, ◌≤◌, ◌+◌, ◌⊎◌, inl, inr, ℕ, zero, suc, Bool, true, false, List, [], ◌∷◌, Some, refl}
use Rattle.desk.proofs.Words.{◌∙◌, ap, arith, map, subst, filter, nat_le, is_some, slice_get, option_and_then}
use Rattle.desk.proofs.Words.{enumerate_from, Record, Accepted, accepted_by, is_accept, least_by, nat_tests, by_option}
use Rattle.desk.proofs.Words.{cond_both, by_bool}

-- each number is above the one before it, and the first is not below this one
abbrev pub Rises : ℕ → List ℕ → Type 0
Rises from [] = Unit {0}
Rises from (n ∷ rest) = (from ≤ n) × Rises (n + 1) rest

abbrev pub Among : ℕ → List ℕ → Type 0
Among m [] = ⊥
Among m (n ∷ rest) = (m ≡ n) ⊎ Among m rest

rises_later : (a b : ℕ) (ns : List ℕ) → a ≤ b → Rises b ns → Rises a ns
rises_later a b [] le h = tt
rises_later a b (n ∷ rest) le h = (omega (arith, le, h.0), h.1)

pub rises_filter : (test : ℕ → Bool) (from : ℕ) (ns : List ℕ) → Rises from ns → Rises from (filter test ns)
rises_filter test from [] h = tt
rises_filter test from (n ∷ rest) h =
    let later = rises_filter test (n + 1) rest h.1 in
    cond_both (test n) (n ∷ filter test rest) (filter test rest) (Rises from)
    (λ e. (h.0, later)) (λ e. rises_later from (n + 1) (filter test rest) (omega (arith, h.0)) later)

above : (from : ℕ) (ns : List ℕ) (m : ℕ) → Rises from ns → Among m ns → from ≤ m
above from [] m h a = absurd a
above from (n ∷ rest) m h (inl e) = omega (arith, h.0, e)
above from (n ∷ rest) m h (inr r) = omega (arith, h.0, above (n + 1) rest m h.1 r)

pub among_filter : (test : ℕ → Bool) (m : ℕ) (ns : List ℕ) → Among m ns → test m ≡ true → Among m (filter test ns)
among_filter test m [] a t = a
among_filter test m (n ∷ rest) (inl e) t =
    cond_both (test n) (n ∷ filter test rest) (filter test rest) (Among m)
    (λ p. inl e) (λ p. absurd (grind (arith, e, t, p)))
among_filter test m (n ∷ rest) (inr r) t =
    let later = among_filter test m rest r t in
    cond_both (test n) (n ∷ filter test rest) (filter test rest) (Among m) (λ p. inr later) (λ p. later)

pub passes : (test : ℕ → Bool) (m : ℕ) (ns : List ℕ) → Among m (filter test ns) → test m ≡ true
passes test m [] a = absurd a
passes test m (n ∷ rest) a = by_bool (test n)
    (λ e. elim (rw e at a) [
      | inl s ↦ ap test s ∙ e
      | inr r ↦ passes test m rest r
    ])
    (λ e. passes test m rest (rw e at a))

pub none_pass : (test : ℕ → Bool) (ns : List ℕ) → ((m : ℕ) → test m ≡ false) → filter test ns ≡ []
none_pass test [] none = refl
none_pass test (n ∷ rest) none = grind (arith, none n, none_pass test rest none)

pub chosen_among : (key : ℕ → ℕ) (ns : List ℕ) (m : ℕ) → least_by key ns ≡ Some m → Among m ns
chosen_among key [] m e = cc
chosen_among key (n ∷ rest) m e = by_option (least_by key rest)
    (λ p. inl (grind (arith, e, p)))
    (λ y p. by_bool (nat_le (key n) (key y))
    (λ t. inl (grind (arith, e, p, t))) (λ t. inr (chosen_among key rest m (grind (arith, e, p, t)))))

-- no later by the key, nor by itself where both have one key
abbrev pub IsFirstBy : (key : ℕ → ℕ) (s m : ℕ) → Type 0
IsFirstBy key s m = (key s ≤ key m) × (key s ≡ key m → s ≤ m)

pub least_is : (key : ℕ → ℕ) (from : ℕ) (ns : List ℕ) (s : ℕ) → Rises from ns → Among s ns
    → ((m : ℕ) → Among m ns → IsFirstBy key s m) → least_by key ns ≡ Some s
least_is key from [] s h a first = absurd a
least_is key from (n ∷ rest) s h (inl e) first = by_option (least_by key rest)
    (λ p. grind (arith, p))
    (λ y p. let least = first y (inr (chosen_among key rest y p)) in grind (arith, nat_tests, p, least))
least_is key from (n ∷ rest) s h (inr r) first =
    let later = least_is key (n + 1) rest s h.1 r (λ m a. first m (inr a)) in
    grind (arith, nat_tests, later, first n (inl refl), above (n + 1) rest s h.1 r)

-- Deliveries

abbrev pub places_from : (Record → Bool) → ℕ → List Record → List ℕ
places_from test n records = map (λ (e : ℕ × Record). e.0) (filter (λ e. test e.1) (enumerate_from n records))

pub places_rise : (test : Record → Bool) (n : ℕ) (records : List Record) → Rises n (places_from test n records)
places_rise test n [] = tt
places_rise test n (r ∷ rest) =
    let later = places_rise test (n + 1) rest in
    let behind = rises_later n (n + 1) (places_from test (n + 1) rest) (omega arith) later in
    by_bool (test r) (λ e. rw e (omega arith, later)) (λ e. rw e behind)

pub accepted_among : (n k : ℕ) (records : List Record) (a : Accepted)
    → option_and_then accepted_by (slice_get records k) ≡ Some a → Among (n + k) (places_from is_accept n records)
accepted_among n k [] a e = cc
accepted_among n zero (r ∷ rest) a e = let accepts : is_accept r ≡ true = ap is_some e in rw accepts (inl (omega arith))
accepted_among n (suc k) (r ∷ rest) a e =
    let moved : n + 1 + k ≡ n + suc k = omega arith in
    let later = subst (λ m. Among m (places_from is_accept (n + 1) rest)) moved (accepted_among (n + 1) k rest a e) in
    by_bool (is_accept r) (λ t. rw t (inr later)) (λ t. rw t later)
