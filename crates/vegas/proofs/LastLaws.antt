-- What the ring keeps of the samples and what it pushes out, and what an estimator is then.
use Rattle.std.proofs.Common.{◌≡◌, ℕ, zero, suc, ◌-◌, ◌≤◌, ◌<◌, min, Bool, true, false, if◌then◌else◌, nat_lt, List, []}
use Rattle.std.proofs.Common.{◌∷◌, ◌++◌, Option, Some, None, take, drop, length, refl, sym, ◌∙◌, ap, arith}
use Rattle.std.proofs.Common.{length-append, subst}
use Rattle.std.specs.Prelude.{slice_get, All}
use Rattle.std.proofs.lemmas.Bool.Decides.{nat_tests}
use Rattle.std.proofs.lemmas.List.{append_assoc, drop-append-le, drop-drop, take-append-le, length-drop}
use Rattle.std.proofs.lemmas.List.Elements.{All-nil, All-push, All-drop}
use Rattle.circular_buffer.specs.Buffer.{Buffer, buffer, keep_last}
use Rattle.vegas.specs.declared.state.State.{State}
use Rattle.vegas.specs.declared.sample.Sample.{Sample}
use Rattle.vegas.specs.Vegas.{place_after, limit_of, noload_of, probes_of}
use Rattle.vegas.specs.Estimators.{EstimatorValue, HasNumbers, StandsFor, before_last, Explains, IsExplained}
use Rattle.vegas.specs.Estimators.{IsInFlight, AreBounded, IsSound}

-- the first elements and the next one
take_next : (xs : List Sample) (k : ℕ) (y : Sample) → slice_get xs k ≡ Some y → take (suc k) xs ≡ take k xs ++ y ∷ []
take_next [] k y h = cc
take_next (x ∷ xs) zero y h = ap (λ z. z ∷ []) cc
take_next (x ∷ xs) (suc k) y h = ap (λ zs. x ∷ zs) (take_next xs k y h)

-- the element at the head of what is left
slice_get-drop : (xs : List Sample) (k : ℕ) → slice_get (drop k xs) 0 ≡ slice_get xs k
slice_get-drop xs zero = refl
slice_get-drop [] (suc k) = refl
slice_get-drop (x ∷ xs) (suc k) = slice_get-drop xs k

drop_as : (i j : ℕ) (xs : List Sample) → i ≡ j → drop i xs ≡ drop j xs
drop_as i j xs same = ap (λ k. drop k xs) same

take_as : (i j : ℕ) (xs : List Sample) → i ≡ j → take i xs ≡ take j xs
take_as i j xs same = ap (λ k. take k xs) same

-- the last of the last and one more are the last of all and one more
keep_last-keep : (n : ℕ) (xs : List Sample) (x : Sample) → keep_last n (keep_last n xs ++ x ∷ []) ≡ keep_last n
    (xs ++ x ∷ [])
keep_last-keep n xs x =
    ap (drop (length (keep_last n xs ++ x ∷ []) - n)) (sym (drop-append-le (length xs - n) xs (x ∷ []) (omega arith)))
    ∙ drop-drop _ _ (xs ++ x ∷ [])
    ∙ ap (λ k. drop k (xs ++ x ∷ []))
    (omega (
      arith,
      length-append (keep_last n xs) (x ∷ []),
      length-append xs (x ∷ []),
      length-drop
          (length xs - n) xs,
    ))

-- where there is room, none is pushed out
keep_last-room : (last : List Sample) (x : Sample) → length last < 64 → keep_last 64 (last ++ x ∷ []) ≡ last ++ x ∷ []
keep_last-room last x h = drop_as _ 0 (last ++ x ∷ []) (omega (arith, h, length-append last (x ∷ [])))

-- where there is none, the first is
keep_last-full : (last : List Sample) (x y : Sample) → length last ≡ 64 → slice_get (last ++ x ∷ []) 0 ≡ Some y
    → y ∷ keep_last 64 (last ++ x ∷ []) ≡ last ++ x ∷ []
keep_last-full [] x y h first = absurd (omega (arith, h))
keep_last-full (z ∷ last) x y h first =
    ap (λ zs. y ∷ zs) (drop_as _ 1 (z ∷ last ++ x ∷ []) (omega (arith, h, length-append last (x ∷ []))))
    ∙ ap (λ w. w ∷ last ++ x ∷ []) same
  where
    same : y ≡ z
    same = cc

-- the numbers of one sample more are those after it
abbrev Follows : (most : ℕ) (before after : State) → Sample → Type 0
Follows most before after x = (xs : List Sample) → HasNumbers most before xs → HasNumbers most after (xs ++ x ∷ [])

-- the estimator with one sample more, and another base where the ring was full
abbrev with_sample : EstimatorValue → State → State → Sample → EstimatorValue
with_sample e state base x = record {
  maximum = e.maximum;
  state = state;
  base = base;
  last = keep_last 64
      (e.last ++ x ∷ []);
}

explained-room : (e : EstimatorValue) (x : Sample) (state : State) → length e.last < 64
    → Follows e.maximum e.state state x
    → IsExplained e → IsExplained (with_sample e state e.base x)
explained-room e x state h moved is = record {
  earlier = is.earlier;
  base = is.base;
  now = subst (λ xs. HasNumbers e.maximum state xs)
      (append_assoc is.earlier e.last (x ∷ []) ∙ ap (λ ys. is.earlier ++ ys) (sym (keep_last-room e.last x h)))
      (moved (is.earlier ++ e.last) is.now);
  few = λ _. is.few h;
}

explained-full : (e : EstimatorValue) (x y : Sample) (state base : State) → length e.last ≡ 64
    → slice_get (e.last ++ x ∷ []) 0 ≡ Some y
    → Follows e.maximum e.state state x → Follows e.maximum e.base base y → IsExplained e
    → IsExplained (with_sample e state base x)
explained-full e x y state base h first moved pushed is = record {
  earlier = is.earlier ++ y ∷ [];
  base = pushed is.earlier is.base;
  now = subst (λ xs. HasNumbers e.maximum state xs)
      (append_assoc is.earlier e.last (x ∷ []) ∙ ap (λ ys. is.earlier ++ ys) (sym (keep_last-full e.last x y h first))
      ∙ sym (append_assoc is.earlier (y ∷ []) (keep_last 64 (e.last ++ x ∷ []))))
      (moved (is.earlier ++ e.last) is.now);
  few = λ less. absurd (omega (
    arith,
    less,
    h,
    length-append e.last (x ∷ []),
    length-drop
        (length (e.last ++ x ∷ []) - 64) (e.last ++ x ∷ []),
  ));
}

-- the last of a list, by those that are kept of it
last-more : (e : EstimatorValue) (x : Sample) (xs : List Sample) → Explains e xs
    → keep_last 64 (e.last ++ x ∷ []) ≡ keep_last 64 (xs ++ x ∷ [])
last-more e x xs s = ap (λ ys. keep_last 64 (ys ++ x ∷ [])) s.last ∙ keep_last-keep 64 xs x

kept-count : (e : EstimatorValue) (xs : List Sample) → Explains e xs → length e.last ≡ length xs - (length xs - 64)
kept-count e xs s = ap length s.last ∙ length-drop (length xs - 64) xs

explains-room : (e : EstimatorValue) (x : Sample) (state : State) → length e.last < 64
    → (xs : List Sample) → Explains e xs → Explains (with_sample e state e.base x) (xs ++ x ∷ [])
explains-room e x state h xs s = record {
  last = last-more e x xs s;
  base = subst (λ k. HasNumbers e.maximum e.base k) same s.base;
}
  where
    same : before_last xs ≡ before_last (xs ++ x ∷ [])
    same = take_as _ 0 xs (omega (arith, h, kept-count e xs s))
        ∙ take_as 0 _ (xs ++ x ∷ []) (omega (arith, h, kept-count e xs s, length-append xs (x ∷ [])))

explains-full : (e : EstimatorValue) (x y : Sample) (state base : State) → length e.last ≡ 64
    → slice_get (e.last ++ x ∷ []) 0 ≡ Some y
    → Follows e.maximum e.base base y → (xs : List Sample) → Explains e xs
    → Explains (with_sample e state base x) (xs ++ x ∷ [])
explains-full e x y state base h first pushed xs s = record {
  last = last-more e x xs s;
  base = subst (λ k. HasNumbers e.maximum base k) (sym grown) (pushed (before_last xs) s.base);
}
  where
    long : 64 ≤ length xs
    long = omega (arith, h, kept-count e xs s)

    at : slice_get (xs ++ x ∷ []) (length xs - 64) ≡ Some y
    at = sym (slice_get-drop (xs ++ x ∷ []) (length xs - 64))
        ∙ ap (λ ys. slice_get ys 0) (drop-append-le (length xs - 64) xs (x ∷ []) (omega arith))
        ∙ ap (λ ys. slice_get (ys ++ x ∷ []) 0) (sym s.last) ∙ first

    grown : before_last (xs ++ x ∷ []) ≡ before_last xs ++ y ∷ []
    grown = take_as _ (suc (length xs - 64)) (xs ++ x ∷ []) (omega (arith, long, length-append xs (x ∷ [])))
        ∙ take_next (xs ++ x ∷ []) (length xs - 64) y at
        ∙ ap (λ ys. ys ++ y ∷ []) (take-append-le (length xs - 64) xs (x ∷ []) (omega arith))

-- what the ring keeps was in flight as it may be, and is no more than it can hold
in_flight-more : (last : List Sample) (x : Sample) → All IsInFlight last → IsInFlight x
    → All IsInFlight (keep_last 64 (last ++ x ∷ []))
in_flight-more last x all one = All-drop IsInFlight (length (last ++ x ∷ []) - 64) (last ++ x ∷ [])
    (All-push IsInFlight last x all one)

at_most-more : (last : List Sample) (x : Sample) → length (keep_last 64 (last ++ x ∷ [])) ≤ 64
at_most-more last x = omega (arith, length-drop (length (last ++ x ∷ []) - 64) (last ++ x ∷ []))

-- what a push does to a ring, and what it pushes out
abbrev Pushes : (ring after : Buffer Sample) → Sample → Option Sample → Type 0
Pushes ring after x out = (after ≡ buffer (keep_last ring.capacity (ring.items ++ x ∷ [])) ring.capacity)
    × (out ≡ (if nat_lt (length ring.items) ring.capacity then None else slice_get (ring.items ++ x ∷ []) 0))

-- there was room where none is pushed out
room-from_none : (last : List Sample) (n : ℕ) (x : Sample) → n ≡ 64
    → None ≡ (if nat_lt (length last) n then None else slice_get (last ++ x ∷ []) 0) → length last < 64
room-from_none [] n x is none = omega arith
room-from_none (z ∷ last) n x is none = at (nat_lt (suc (length last)) n) refl none
  where
    at : (b : Bool) → nat_lt (suc (length last)) n ≡ b → None ≡ (if b then None else Some z) → suc (length last) < 64
    at true test e = grind (arith, nat_tests)
    at false test e = absurd cc

-- and none where one is
full-from_some : (last : List Sample) (n : ℕ) (x y : Sample) → n ≡ 64 → length last ≤ 64
    → Some y ≡ (if nat_lt (length last) n then None else slice_get (last ++ x ∷ []) 0) → (length last ≡ 64)
    × (slice_get (last ++ x ∷ []) 0 ≡ Some y)
full-from_some last n x y is within some = at (nat_lt (length last) n) refl some
  where
    at : (b : Bool) → nat_lt (length last) n ≡ b → Some y ≡ (if b then None else slice_get (last ++ x ∷ []) 0)
        → (length last ≡ 64) × (slice_get (last ++ x ∷ []) 0 ≡ Some y)
    at true test e = absurd cc
    at false test e = (grind (arith, nat_tests), sym e)

-- An estimator's parts, and what holds of them.
abbrev pub estimate : ℕ → State → State → Buffer Sample → EstimatorValue
estimate most state base ring = record { maximum = most; state = state; base = base; last = ring.items }

abbrev pub Holds : ℕ → State → State → Buffer Sample → Type 0
Holds most state base ring = (ring.capacity ≡ 64) × IsSound (estimate most state base ring)

-- the ring after a push
pushed-ring : (ring after : Buffer Sample) (x : Sample) (out : Option Sample) → ring.capacity ≡ 64
    → Pushes ring after x out
    → buffer (keep_last 64 (ring.items ++ x ∷ [])) 64 ≡ after
pushed-ring ring after x out is push = ap (λ n. buffer (keep_last n (ring.items ++ x ∷ [])) n) (sym is) ∙ sym push.0

pub holds-room : {most : ℕ} {state base moved : State} {x : Sample} → (ring after : Buffer Sample)
    → Holds most state base ring → Pushes ring after x None
    → IsInFlight x → AreBounded most moved → Follows most state moved x → Holds most moved base after
holds-room {most} {state} {base} {moved} {x} ring after (is, sound) push one bounded follows =
    let room = room-from_none ring.items ring.capacity x is push.1 in
    subst (Holds most moved base) (pushed-ring ring after x None is push) (
      refl,
      record {
        state = bounded;
        base = sound.base;
        in_flight = in_flight-more ring.items x sound.in_flight one;
        at_most_last = at_most-more ring.items x;
        explained = explained-room (estimate most state base ring) x moved room follows sound.explained;
      },
    )

pub holds-full : {most : ℕ} {state base moved pushed : State} {x y : Sample} → (ring after : Buffer Sample)
    → Holds most state base ring → Pushes ring after x (Some y)
    → IsInFlight x → AreBounded most moved → Follows most state moved x → AreBounded most pushed
    → Follows most base pushed y → Holds most moved pushed after
holds-full {most} {state} {base} {moved} {pushed} {x} {y} ring after (is, sound) push one bounded follows base_bounded
    base_follows =
    let full = full-from_some ring.items ring.capacity x y is sound.at_most_last push.1 in
    subst (Holds most moved pushed) (pushed-ring ring after x (Some y) is push) (
      refl,
      record {
        state = bounded;
        base = base_bounded;
        in_flight = in_flight-more ring.items x sound.in_flight one;
        at_most_last = at_most-more ring.items x;
        explained = explained-full (estimate most state base ring) x y moved pushed full.0 full.1 follows base_follows
            sound.explained;
      },
    )

pub room-explains : {most : ℕ} {state base moved : State} → (ring after : Buffer Sample) (x : Sample)
    → Holds most state base ring → Pushes ring after x None
    → (xs : List Sample) → Explains (estimate most state base ring) xs → Explains (estimate most moved base after)
    (xs ++ x ∷ [])
room-explains {most} {state} {base} {moved} ring after x (is, sound) push xs s =
    let room = room-from_none ring.items ring.capacity x is push.1 in
    subst (λ r. Explains (estimate most moved base r) (xs ++ x ∷ [])) (pushed-ring ring after x None is push)
    (explains-room (estimate most state base ring) x moved room xs s)

pub full-explains : {most : ℕ} {state base moved pushed : State} → (ring after : Buffer Sample) (x y : Sample)
    → Holds most state base ring → Pushes ring after x (Some y)
    → Follows most base pushed y → (xs : List Sample) → Explains (estimate most state base ring) xs
    → Explains (estimate most moved pushed after) (xs ++ x ∷ [])
full-explains {most} {state} {base} {moved} {pushed} ring after x y (is, sound) push follows xs s =
    let full = full-from_some ring.items ring.capacity x y is sound.at_most_last push.1 in
    subst (λ r. Explains (estimate most moved pushed r) (xs ++ x ∷ [])) (pushed-ring ring after x (Some y) is push)
    (explains-full (estimate most state base ring) x y moved pushed full.0 full.1 follows xs s)

-- an estimator without samples
abbrev first_state : ℕ → State
first_state most = record { limit = min 20 most; noload = 0; probes = 0 }

first-numbers : (most : ℕ) → HasNumbers most (first_state most) []
unfolding place_after limit_of noload_of probes_of
first-numbers most = record { limit = refl; noload = refl; probes = refl }

first-bounded : (most : ℕ) → 1 ≤ most → most ≤ 1000 → AreBounded most (first_state most)
first-bounded most low high = record {
  at_most_thousand = high;
  at_least_one = omega (arith, low);
  at_most_maximum = omega arith;
  at_most_hour = omega arith;
  at_most_thirty_thousand = omega arith;
}

pub first-holds : (most : ℕ) → 1 ≤ most → most ≤ 1000 → Holds most (first_state most) (first_state most) (buffer [] 64)
first-holds most low high = (
  refl,
  record {
    state = first-bounded most low high;
    base = first-bounded most low high;
    in_flight = All-nil IsInFlight;
    at_most_last = omega arith;
    explained = record { earlier = []; base = first-numbers most; now = first-numbers most; few = λ _. refl };
  },
)

pub first-stands : (most : ℕ) → StandsFor (estimate most (first_state most) (first_state most) (buffer [] 64)) []
first-stands most = first-numbers most

pub first-explains : (most : ℕ) → Explains (estimate most (first_state most) (first_state most) (buffer [] 64)) []
first-explains most = record { last = refl; base = first-numbers most }
