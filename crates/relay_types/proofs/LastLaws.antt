-- What the last element says that says something, and its number.
use Rattle.std.proofs.Common.{◌≡◌, ◌<◌, ℕ, zero, suc, ◌+◌, List, [], ◌∷◌, Option, Some, None, map, refl, sym, ap, ◌∙◌}
use Rattle.std.proofs.Common.{arith}
use Rattle.std.specs.Prelude.{is_some, filter, filter_map, slice_get, option_map, unwrap_or, if◌then◌else◌}
use Rattle.std.specs.List.{enumerate_from, cons_option}
use Rattle.relay_types.specs.declared.record.Record.{Record}
use Rattle.relay_types.specs.Lists.{last_of}
use Rattle.relay_types.specs.Records.{numbered}
use Rattle.relay_types.specs.Rows.{last_seq}
use Rattle.relay_types.proofs.TableLaws.{some_same}

pub last_behind : {X : Type 0} (o : Option X) (xs : List X) (x : X) → last_of xs ≡ Some x
    → last_of (cons_option o xs) ≡ Some x
last_behind o xs x h = grind arith

module _ {X Y : Type 0} (says : X → Option Y) where
  -- nothing behind this place says something
  abbrev pub NoneBehind : ℕ → List X → Type 0
  NoneBehind k xs = (i : ℕ) (z : X) → k < i → slice_get xs i ≡ Some z → says z ≡ None

  pub none_said : (xs : List X) → ((i : ℕ) (z : X) → slice_get xs i ≡ Some z → says z ≡ None) → filter_map says xs ≡ []
  none_said [] h = refl
  none_said (x ∷ xs) h = λ i. cons_option (h 0 x refl i) (none_said xs (λ k. h (suc k)) i)

  pub last_is : (xs : List X) (k : ℕ) (x : X) (y : Y) → slice_get xs k ≡ Some x → says x ≡ Some y → NoneBehind k xs
      → last_of (filter_map says xs) ≡ Some y
  last_is [] k x y is said h = absurd (let no = is in cc)
  last_is (z ∷ xs) zero x y is said h = λ i. last_of
      (cons_option ((ap says (some_same is) ∙ said) i) (none_said xs (λ k t at. h (suc k) t (omega arith) at) i))
  last_is (z ∷ xs) (suc k) x y is said h = last_behind (says z) (filter_map says xs) y
      (last_is xs k x y is said (λ i t l at. h (suc i) t (omega (arith, l)) at))

  -- the last that says something
  pub record Speaker (xs : List X) (y : Y) : Type 0 where
    pub place : ℕ
    pub element : X
    pub stands : slice_get xs place ≡ Some element
    pub said : says element ≡ Some y
    pub none_behind : NoneBehind place xs

  abbrev pub NoneSpeaks : List X → Type 0
  NoneSpeaks xs = (i : ℕ) (z : X) → slice_get xs i ≡ Some z → says z ≡ None

  pub none_speaks : (xs : List X) → last_of (filter_map says xs) ≡ None → NoneSpeaks xs
  none_speaks [] h i z at = absurd (let no = at in cc)
  none_speaks (x ∷ xs) h i z at = by (λ f j is. none_speaks xs f j z is) (says x) refl (last_of (filter_map says xs))
      refl h i at
    where
      no_last : (y : Y) (ys : List Y) → last_of (y ∷ ys) ≡ None → ⊥
      no_last y [] h = let no = h in cc
      no_last y (t ∷ ys) h = no_last t ys h

      by : (last_of (filter_map says xs) ≡ None → (j : ℕ) → slice_get xs j ≡ Some z → says z ≡ None) → (o : Option Y)
          → says x ≡ o → (p : Option Y) → last_of (filter_map says xs) ≡ p
          → last_of (cons_option o (filter_map says xs)) ≡ None → (i : ℕ) → slice_get (x ∷ xs) i ≡ Some z
          → says z ≡ None
      by more o e (Some y) f h i at = absurd (let yes = last_behind o (filter_map says xs) y f in let no = h in cc)
      by more (Some y) e None f h i at = absurd (no_last y (filter_map says xs) h)
      by more None e None f h zero at = ap says (sym (some_same at)) ∙ e
      by more None e None f h (suc i) at = more f i at

  pub speaker : (xs : List X) (y : Y) → last_of (filter_map says xs) ≡ Some y → Speaker xs y
  speaker [] y h = absurd (let no = h in cc)
  speaker (x ∷ xs) y h = by (speaker xs y) (none_speaks xs) (last_of (filter_map says xs)) refl (says x) refl h
    where
      by : (last_of (filter_map says xs) ≡ Some y → Speaker xs y)
          → (last_of (filter_map says xs) ≡ None → NoneSpeaks xs) → (p : Option Y) → last_of (filter_map says xs) ≡ p
          → (o : Option Y) → says x ≡ o → last_of (cons_option o (filter_map says xs)) ≡ Some y → Speaker (x ∷ xs) y
      by more none (Some z) f o e h =
          let found = more (f ∙ sym (last_behind o (filter_map says xs) z f) ∙ h) in record {
            place = suc found.place;
            element = found.element;
            stands = found.stands;
            said = found.said;
            none_behind = behind found.place found.none_behind;
          }
        where
          behind : (k : ℕ) → NoneBehind k xs → NoneBehind (suc k) (x ∷ xs)
          behind k h zero t l at = absurd (omega (arith, l))
          behind k h (suc i) t l at = h i t (omega (arith, l)) at
      by more none None f None e h = absurd (let no = sym f ∙ h in cc)
      by more none None f (Some z) e h = record {
        place = 0;
        element = x;
        stands = refl;
        said = e
            ∙ ap Some (last_one (filter_map says xs) f h);
        none_behind = behind;
      }
        where
          last_one : (ys : List Y) → last_of ys ≡ None → last_of (z ∷ ys) ≡ Some y → z ≡ y
          last_one [] f h = some_same h
          last_one (t ∷ ys) f h = absurd (let no = sym f ∙ h in cc)

          behind : NoneBehind 0 (x ∷ xs)
          behind zero t l at = absurd (omega (arith, l))
          behind (suc i) t l at = none f i t at

-- The number of the last record that says something

module _ {Y : Type 0} (says : Record → Option Y) (records : List Record) (put : ℕ) where
  abbrev pub number : ℕ × Record → Option ℕ
  number e = if is_some (says e.1) then Some e.0 else None

  seqs_are : (es : List (ℕ × Record))
      → map (λ (e : ℕ × Record). e.0) (filter (λ (e : ℕ × Record). is_some (says e.1)) es) ≡ filter_map number es
  seqs_are [] = refl
  seqs_are (e ∷ es) = grind (arith, seqs_are es)

  seq_is : last_seq (λ entry. is_some (says entry)) records put ≡ unwrap_or
      (last_of (filter_map number (numbered records))) put
  seq_is = ap (λ ns. unwrap_or (last_of ns) put) (seqs_are (numbered records))

  place_is : (n i : ℕ) (some : List Record) → slice_get (enumerate_from n some) i ≡ option_map (λ r. (n + i, r))
      (slice_get some i)
  place_is n i [] = refl
  place_is n zero (r ∷ some) = grind arith
  place_is n (suc i) (r ∷ some) = grind (arith, place_is (n + 1) i some)

  silent : (i : ℕ) (z : ℕ × Record) → ((r : Record) → slice_get records i ≡ Some r → says r ≡ None)
      → slice_get (numbered records) i ≡ Some z → number z ≡ None
  silent i z h at = by (slice_get records i) refl (sym (place_is 0 i records) ∙ at)
    where
      by : (o : Option Record) → slice_get records i ≡ o → option_map (λ r. (0 + i, r)) o ≡ Some z → number z ≡ None
      by None e f = absurd (let no = f in cc)
      by (Some r) e f = ap number (sym (some_same f)) ∙ ap (λ o. if is_some o then Some (0 + i) else None) (h r e)

  pub last_seq-is : (y : Y) (s : Speaker says records y) → last_seq (λ entry. is_some (says entry)) records put
      ≡ s.place
  last_seq-is y s =
      seq_is
      ∙ ap (λ o. unwrap_or o put) (last_is number (numbered records) s.place (0 + s.place, s.element) (0 + s.place)
      (place_is 0 s.place records ∙ ap (option_map (λ r. (0 + s.place, r))) s.stands)
      (ap (λ o. if is_some o then Some (0 + s.place) else None) s.said)
      (λ i z l at. silent i z (λ r is. s.none_behind i r l is) at))
      ∙ whole s.place
    where
      whole : (k : ℕ) → 0 + k ≡ k
      whole k = omega arith

  pub last_seq-none : NoneSpeaks says records → last_seq (λ entry. is_some (says entry)) records put ≡ put
  last_seq-none h = seq_is ∙ ap (λ ns. unwrap_or (last_of ns) put)
      (none_said number (numbered records) (λ i z at. silent i z (λ r is. h i r is) at))

-- either no record says something, or one says it last
pub data Last {Y : Type 0} (says : Record → Option Y) (records : List Record) (put : ℕ) (default : Y) : Type 0 where
  unsaid : NoneSpeaks says records → unwrap_or (last_of (filter_map says records)) default ≡ default
      → last_seq (λ entry. is_some (says entry)) records put ≡ put → Last says records put default
  said : (y : Y) (s : Speaker says records y) → unwrap_or (last_of (filter_map says records)) default ≡ y
      → last_seq (λ entry. is_some (says entry)) records put ≡ s.place → Last says records put default

pub last_said : {Y : Type 0} (says : Record → Option Y) (records : List Record) (put : ℕ) (default : Y)
    → Last says records put default
last_said {Y} says records put default = at (last_of (filter_map says records)) refl
  where
    at : (o : Option Y) → last_of (filter_map says records) ≡ o → Last says records put default
    at None e = let none = none_speaks says records e in unsaid none (ap (λ o. unwrap_or o default) e)
        (last_seq-none says records put none)
    at (Some y) e = let s = speaker says records y e in said y s (ap (λ o. unwrap_or o default) e)
        (last_seq-is says records put y s)
