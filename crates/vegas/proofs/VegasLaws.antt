-- The numbers of a list with one more sample follow from those of the list.
use Rattle.std.proofs.Common.{◌≡◌, ℕ, zero, suc, ◌+◌, ◌-◌, ◌*◌, ◌≤◌, ◌<◌, min, Bool, true, false, ◌||◌, List, [], ◌∷◌}
use Rattle.std.proofs.Common.{◌++◌, Option, Some, None, nat_le, nat_lt, ◌==◌, if◌then◌else◌, take, drop, length, refl}
use Rattle.std.proofs.Common.{sym, ◌∙◌, ap, arith, length-append, inl, inr, subst}
use Rattle.std.specs.Prelude.{slice_get, ◌⊎◌, ◌≢◌}
use Rattle.std.specs.Option.{option_map_or}
use Rattle.std.proofs.Math.Seq.{drop-append_seam}
use Rattle.std.proofs.lemmas.Bool.Decides.{nat_tests}
use Rattle.std.proofs.lemmas.List.{take-append-le, drop-append-le, length-drop}
use Rattle.vegas.specs.declared.sample.Sample.{Sample}
use Rattle.vegas.specs.Vegas.{Place, round_trip, least_round_trip, noload_after, limit_at, next_place, place_after}
use Rattle.vegas.specs.Vegas.{limit_of, noload_of, probes_of}
use Rattle.vegas.specs.declared.state.State.{State}
use Rattle.vegas.specs.Estimators.{HasNumbers}

-- a sample more leaves the elements before it
slice_get-before : (xs ys : List Sample) (k : ℕ) → k < length xs → slice_get (xs ++ ys) k ≡ slice_get xs k
slice_get-before [] ys k h = absurd (omega (arith, h))
slice_get-before (x ∷ xs) ys zero h = refl
slice_get-before (x ∷ xs) ys (suc k) h = slice_get-before xs ys k (omega (arith, h))

slice_get-last : (xs : List Sample) (x : Sample) → slice_get (xs ++ x ∷ []) (length xs) ≡ Some x
slice_get-last [] x = refl
slice_get-last (y ∷ xs) x = slice_get-last xs x

length-snoc : (xs : List Sample) (x : Sample) → length (xs ++ x ∷ []) ≡ suc (length xs)
length-snoc xs x = length-append xs (x ∷ []) ∙ omega arith

take-whole : (xs : List Sample) → take (length xs) xs ≡ xs
take-whole [] = refl
take-whole (x ∷ xs) = ap (λ ys. x ∷ ys) (take-whole xs)

-- The place at k, by whether k is a probe and whether its round trip is the first or lower than the no-load time.
abbrev chosen_place : ℕ → Sample → Place → ℕ → ℕ → Bool → Bool → Place
chosen_place most x p k noload probe low =
    if probe then record p { probe = k } else (
    if low then p else record p { limit = limit_at most p.limit noload x })

-- what is known after k samples doesn't depend on those behind them
noload_after-before : (xs ys : List Sample) (probe k : ℕ) → k ≤ length xs
    → noload_after (xs ++ ys) probe k ≡ noload_after xs probe k
noload_after-before xs ys probe k h = ap (λ zs. least_round_trip (drop (probe - 1) zs)) (take-append-le k xs ys h)

next_place-before : (most : ℕ) (xs ys : List Sample) (k : ℕ) (p : Place) (x : Sample) → k ≤ length xs
    → next_place most (xs ++ ys) (suc k) p x ≡ next_place most xs (suc k) p x
next_place-before most xs ys k p x h = ap
    (λ noload. chosen_place most x p (suc k) noload (nat_le (30 * p.limit) (suc k - p.probe))
    (suc k == 1 || nat_lt (round_trip x) noload))
    (noload_after-before xs ys p.probe (suc k - 1) (omega (arith, h)))

place_after-before : (most : ℕ) (xs ys : List Sample) (k : ℕ) → k ≤ length xs
    → place_after most (xs ++ ys) k ≡ place_after most xs k
unfolding place_after
place_after-before most xs ys zero h = refl
place_after-before most xs ys (suc k) h =
    rw (slice_get-before xs ys k h, place_after-before most xs ys k (omega (arith, h))) (at (slice_get xs k))
  where
    at : (o : Option Sample) → option_map_or (next_place most (xs ++ ys) (suc k) (place_after most xs k)) o
        (place_after most xs k)
        ≡ option_map_or (next_place most xs (suc k) (place_after most xs k)) o (place_after most xs k)
    at None = refl
    at (Some x) = next_place-before most xs ys k (place_after most xs k) x (omega (arith, h))

-- the place at the last sample
place_after-snoc : (most : ℕ) (xs : List Sample) (x : Sample)
    → place_after most (xs ++ x ∷ []) (suc (length xs)) ≡ next_place most xs (suc (length xs))
    (place_after most xs (length xs)) x
unfolding place_after
place_after-snoc most xs x =
    rw (slice_get-last xs x, place_after-before most xs (x ∷ []) (length xs) (omega arith))
    (next_place-before most xs (x ∷ []) (length xs) (place_after most xs (length xs)) x (omega arith))

-- the last probe is at or before k
chosen_place-probe : (most : ℕ) (x : Sample) (p : Place) (k noload : ℕ) (probe low : Bool) → p.probe ≤ k
    → (chosen_place most x p (suc k) noload probe low).probe ≤ suc k
chosen_place-probe most x p k noload true low h = omega arith
chosen_place-probe most x p k noload false true h = omega (arith, h)
chosen_place-probe most x p k noload false false h = omega (arith, h)

place_after-probe : (most : ℕ) (xs : List Sample) (k : ℕ) → (place_after most xs k).probe ≤ k
unfolding place_after
place_after-probe most xs zero = omega arith
place_after-probe most xs (suc k) = at (place_after most xs k) (place_after-probe most xs k) (slice_get xs k)
  where
    at : (p : Place) → p.probe ≤ k → (o : Option Sample)
        → (option_map_or (next_place most xs (suc k) p) o p).probe ≤ suc k
    at p h None = omega (arith, h)
    at p h (Some x) = chosen_place-probe most x p k _ _ _ h

-- The least of the round trips of some samples and one more.
least_round_trip-snoc : (x y : Sample) (zs : List Sample)
    → least_round_trip ((y ∷ zs) ++ x ∷ []) ≡ min (least_round_trip (y ∷ zs)) (round_trip x)
least_round_trip-snoc x y [] = refl
least_round_trip-snoc x y (z ∷ zs) = ap (min (round_trip y)) (least_round_trip-snoc x z zs) ∙ omega arith

-- a round trip is never 0
least_round_trip-positive : (y : Sample) (zs : List Sample) → 1 ≤ least_round_trip (y ∷ zs)
least_round_trip-positive y [] = omega arith
least_round_trip-positive y (z ∷ zs) = omega (arith, least_round_trip-positive z zs)

-- it is the new one where that is the first or lower
least-low : (zs : List Sample) (x : Sample) → (least_round_trip zs ≡ 0) ⊎ (round_trip x < least_round_trip zs)
    → least_round_trip (zs ++ x ∷ []) ≡ round_trip x
least-low [] x low = refl
least-low (y ∷ zs) x low = least_round_trip-snoc x y zs ∙ at low
  where
    at : (least_round_trip (y ∷ zs) ≡ 0) ⊎ (round_trip x < least_round_trip (y ∷ zs))
        → min (least_round_trip (y ∷ zs)) (round_trip x) ≡ round_trip x
    at (inl e) = absurd (omega (arith, e, least_round_trip-positive y zs))
    at (inr e) = omega (arith, e)

-- and stays otherwise
least-high : (zs : List Sample) (x : Sample) → least_round_trip zs ≢ 0 → least_round_trip zs ≤ round_trip x
    → least_round_trip (zs ++ x ∷ []) ≡ least_round_trip zs
least-high [] x known high = absurd (known refl)
least-high (y ∷ zs) x known high = least_round_trip-snoc x y zs ∙ omega (arith, high)

-- The place of the last sample, and the samples from the last probe on.
abbrev last_place : ℕ → List Sample → Place
last_place most xs = place_after most xs (length xs)

abbrev last_segment : ℕ → List Sample → List Sample
last_segment most xs = drop ((last_place most xs).probe - 1) xs

last_probe : (most : ℕ) (xs : List Sample) → (last_place most xs).probe ≤ length xs
last_probe most xs = place_after-probe most xs (length xs)

noload_of-segment : (most : ℕ) (xs : List Sample) → noload_of most xs ≡ least_round_trip (last_segment most xs)
unfolding noload_of
noload_of-segment most xs = ap (λ ys. least_round_trip (drop ((last_place most xs).probe - 1) ys)) (take-whole xs)

-- the no-load time is 0 exactly where there is no sample
least_round_trip-none : (zs : List Sample) → length zs ≡ 0 → least_round_trip zs ≡ 0
least_round_trip-none [] h = refl
least_round_trip-none (z ∷ zs) h = absurd (omega (arith, h))

none-least_round_trip : (zs : List Sample) → least_round_trip zs ≡ 0 → length zs ≡ 0
none-least_round_trip [] h = refl
none-least_round_trip (z ∷ zs) h = absurd (omega (arith, h, least_round_trip-positive z zs))

noload_of-none : (most : ℕ) (xs : List Sample) → length xs ≡ 0 → noload_of most xs ≡ 0
noload_of-none most xs h = noload_of-segment most xs
    ∙ least_round_trip-none (last_segment most xs) (omega (arith, h, length-drop ((last_place most xs).probe - 1) xs))

none-noload_of : (most : ℕ) (xs : List Sample) → noload_of most xs ≡ 0 → length xs ≡ 0
none-noload_of most xs h =
    let none : length (last_segment most xs) ≡ 0 = none-least_round_trip _ (sym (noload_of-segment most xs) ∙ h) in
    omega (arith, none, last_probe most xs, length-drop ((last_place most xs).probe - 1) xs)

-- the two tests of a sample
abbrev is_probe : ℕ → List Sample → Bool
is_probe most xs = nat_le (30 * limit_of most xs) (probes_of most xs + 1)

abbrev is_low : ℕ → List Sample → Sample → Bool
is_low most xs x = suc (length xs) == 1 || nat_lt (round_trip x) (noload_of most xs)

last_place-snoc : (most : ℕ) (xs : List Sample) (x : Sample) → last_place most (xs ++ x ∷ [])
    ≡ chosen_place most x (last_place most xs) (suc (length xs)) (noload_of most xs) (is_probe most xs)
    (is_low most xs x)
unfolding limit_of noload_of probes_of
last_place-snoc most xs x =
    ap (place_after most (xs ++ x ∷ [])) (length-snoc xs x)
    ∙ place_after-snoc most xs x
    ∙ ap (λ noload. chosen_place most x (last_place most xs) (suc (length xs)) noload
    (nat_le (30 * (last_place most xs).limit) (suc (length xs) - (last_place most xs).probe)) (suc (length xs) == 1
    || nat_lt (round_trip x) noload)) same
    ∙ ap (λ count. chosen_place most x (last_place most xs) (suc (length xs)) (noload_of most xs)
    (nat_le (30 * (last_place most xs).limit) count) (is_low most xs x)) counted
  where
    same : noload_after xs (last_place most xs).probe (suc (length xs) - 1) ≡ noload_after xs (last_place most xs).probe
        (length xs)
    same = ap (noload_after xs (last_place most xs).probe) (omega arith)

    counted : suc (length xs) - (last_place most xs).probe ≡ length xs - (last_place most xs).probe + 1
    counted = omega (arith, last_probe most xs)

-- the place is that of the three cases
place-probe : (most : ℕ) (xs : List Sample) (x : Sample) → 30 * limit_of most xs ≤ probes_of most xs + 1
    → last_place most (xs ++ x ∷ []) ≡ record { limit = (last_place most xs).limit; probe = suc (length xs) }
place-probe most xs x h =
    let probe : is_probe most xs ≡ true = grind (arith, nat_tests) in
    last_place-snoc most xs x
    ∙ ap (λ b. chosen_place most x (last_place most xs) (suc (length xs)) (noload_of most xs) b (is_low most xs x))
    probe

place-low : (most : ℕ) (xs : List Sample) (x : Sample) → probes_of most xs + 1 < 30 * limit_of most xs
    → (noload_of most xs ≡ 0) ⊎ (round_trip x < noload_of most xs) → last_place most (xs ++ x ∷ []) ≡ last_place most xs
place-low most xs x h lower =
    let none : noload_of most xs ≡ 0 → length xs ≡ 0 = none-noload_of most xs in
    let probe : is_probe most xs ≡ false = grind (arith, nat_tests) in
    let low : is_low most xs x ≡ true = grind (arith, nat_tests) in
    last_place-snoc most xs x
    ∙ ap (λ b. chosen_place most x (last_place most xs) (suc (length xs)) (noload_of most xs) b (is_low most xs x))
    probe
    ∙ ap (λ c. chosen_place most x (last_place most xs) (suc (length xs)) (noload_of most xs) false c) low

place-moved : (most : ℕ) (xs : List Sample) (x : Sample) → probes_of most xs + 1 < 30 * limit_of most xs
    → noload_of most xs ≢ 0 → noload_of most xs ≤ round_trip x
    → last_place most (xs ++ x ∷ []) ≡ record (last_place most xs) {
      limit = limit_at most (last_place most xs).limit
          (noload_of most xs) x;
    }
place-moved most xs x h known high =
    let none : length xs ≡ 0 → noload_of most xs ≡ 0 = noload_of-none most xs in
    let probe : is_probe most xs ≡ false = grind (arith, nat_tests) in
    let low : is_low most xs x ≡ false = grind (arith, nat_tests) in
    last_place-snoc most xs x
    ∙ ap (λ b. chosen_place most x (last_place most xs) (suc (length xs)) (noload_of most xs) b (is_low most xs x))
    probe
    ∙ ap (λ c. chosen_place most x (last_place most xs) (suc (length xs)) (noload_of most xs) false c) low

-- what a place tells of a list with one more sample
place-follows : (most : ℕ) (xs : List Sample) (x : Sample) (p : Place) (noload count : ℕ)
    → last_place most (xs ++ x ∷ []) ≡ p
    → least_round_trip (drop (p.probe - 1) (xs ++ x ∷ [])) ≡ noload → suc (length xs) - p.probe ≡ count
    → HasNumbers most (record { limit = p.limit; noload = noload; probes = count }) (xs ++ x ∷ [])
unfolding limit_of probes_of
place-follows most xs x p noload count place least counted = record {
  limit = ap (λ (q : Place). q.limit) (sym place);
  noload = sym least ∙ ap (λ (q : Place). least_round_trip (drop (q.probe - 1) (xs ++ x ∷ []))) (sym place)
      ∙ sym (noload_of-segment most (xs ++ x ∷ []));
  probes = sym counted ∙ ap (λ (q : Place). suc (length xs) - q.probe) (sym place)
      ∙ ap (λ n. n - (last_place most (xs ++ x ∷ [])).probe) (sym (length-snoc xs x));
}

-- the samples from the last probe on, with one more
segment-snoc : (most : ℕ) (xs : List Sample) (x : Sample)
    → drop ((last_place most xs).probe - 1) (xs ++ x ∷ []) ≡ last_segment most xs ++ x ∷ []
segment-snoc most xs x = drop-append-le _ xs (x ∷ []) (omega (arith, last_probe most xs))

counted-snoc : (most : ℕ) (xs : List Sample) → suc (length xs) - (last_place most xs).probe ≡ probes_of most xs + 1
unfolding probes_of
counted-snoc most xs = omega (arith, last_probe most xs)

-- the numbers of a list
abbrev numbers_of : ℕ → List Sample → State
numbers_of most xs = record { limit = limit_of most xs; noload = noload_of most xs; probes = probes_of most xs }

numbers_of-are : (most : ℕ) (state : State) (xs : List Sample) → HasNumbers most state xs → numbers_of most xs ≡ state
numbers_of-are most state xs s i = record { limit = sym s.limit i; noload = sym s.noload i; probes = sym s.probes i }

-- A probe makes the round trip the no-load time, and leaves the limit.
abbrev Probe : ℕ → List Sample → Sample → State → Type 0
Probe most xs x s = 30 * s.limit ≤ s.probes + 1 → HasNumbers most (record s { noload = round_trip x; probes = 0 })
    (xs ++ x ∷ [])

probe-at : (most : ℕ) (xs : List Sample) (x : Sample) → Probe most xs x (numbers_of most xs)
unfolding limit_of
probe-at most xs x h = place-follows most xs x _ _ _ (place-probe most xs x h) one (omega arith)
  where
    one : least_round_trip (drop (suc (length xs) - 1) (xs ++ x ∷ [])) ≡ round_trip x
    one = let n : suc (length xs) - 1 ≡ length xs = omega arith in rw (n, drop-append_seam xs (x ∷ [])) refl

pub probe-follows : (most : ℕ) (state : State) (xs : List Sample) (x : Sample) → HasNumbers most state xs
    → Probe most xs x state
probe-follows most state xs x s = subst (Probe most xs x) (numbers_of-are most state xs s) (probe-at most xs x)

-- The first round trip of all, or a lower one, becomes the no-load time, and the limit stays.
abbrev Low : ℕ → List Sample → Sample → State → Type 0
Low most xs x s = s.probes + 1 < 30 * s.limit → (s.noload ≡ 0) ⊎ (round_trip x < s.noload)
    → HasNumbers most (record s { noload = round_trip x; probes = s.probes + 1 }) (xs ++ x ∷ [])

low-at : (most : ℕ) (xs : List Sample) (x : Sample) → Low most xs x (numbers_of most xs)
unfolding limit_of
low-at most xs x h lower = place-follows most xs x _ _ _ (place-low most xs x h lower) least (counted-snoc most xs)
  where
    least : least_round_trip (drop ((last_place most xs).probe - 1) (xs ++ x ∷ [])) ≡ round_trip x
    least = ap least_round_trip (segment-snoc most xs x)
        ∙ least-low _ x (subst (λ n. (n ≡ 0) ⊎ (round_trip x < n)) (noload_of-segment most xs) lower)

pub low-follows : (most : ℕ) (state : State) (xs : List Sample) (x : Sample) → HasNumbers most state xs
    → Low most xs x state
low-follows most state xs x s = subst (Low most xs x) (numbers_of-are most state xs s) (low-at most xs x)

-- Any other sample moves the limit, and leaves the no-load time.
abbrev Other : ℕ → List Sample → Sample → State → Type 0
Other most xs x s = s.probes + 1 < 30 * s.limit → s.noload ≢ 0 → s.noload ≤ round_trip x
    → HasNumbers most (record s { limit = limit_at most s.limit s.noload x; probes = s.probes + 1 }) (xs ++ x ∷ [])

other-at : (most : ℕ) (xs : List Sample) (x : Sample) → Other most xs x (numbers_of most xs)
unfolding limit_of
other-at most xs x h known high = place-follows most xs x _ _ _ (place-moved most xs x h known high) least
    (counted-snoc most xs)
  where
    segment : noload_of most xs ≡ least_round_trip (last_segment most xs)
    segment = noload_of-segment most xs

    least : least_round_trip (drop ((last_place most xs).probe - 1) (xs ++ x ∷ [])) ≡ noload_of most xs
    least = ap least_round_trip (segment-snoc most xs x)
        ∙ least-high _ x (λ e. known (segment ∙ e)) (omega (arith, high, segment))
        ∙ sym segment

pub other-follows : (most : ℕ) (state : State) (xs : List Sample) (x : Sample) → HasNumbers most state xs
    → Other most xs x state
other-follows most state xs x s = subst (Other most xs x) (numbers_of-are most state xs s) (other-at most xs x)
