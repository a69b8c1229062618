-- Facts about filters and options.
use Rattle.std.proofs.Common.{◌≡◌, Bool, map, true, false, not, List, [], ◌∷◌, Option, Some, None, refl, ◌∙◌, ap, arith}
use Rattle.std.specs.Prelude.{filter, option_map, is_some, Result, Ok, Err, OnErr}
use Rattle.std.specs.Option.{option_map_or}

pub filter-commutes : {X : Type 0} (p q : X → Bool) (xs : List X) → filter p (filter q xs) ≡ filter q (filter p xs)
filter-commutes p q [] = refl
filter-commutes p q (x ∷ xs) = grind (arith, filter-commutes p q xs)

pub filter-against : {X : Type 0} (p : X → Bool) (xs : List X) → filter p (filter (λ x. not (p x)) xs) ≡ []
filter-against p [] = refl
filter-against p (x ∷ xs) = grind (arith, filter-against p xs)

pub filter_mapped : {X Y : Type 0} (p : Y → Bool) (f : X → Y) (xs : List X)
    → filter p (map f xs) ≡ map f (filter (λ x. p (f x)) xs)
filter_mapped p f [] = refl
filter_mapped p f (x ∷ xs) = grind (arith, filter_mapped p f xs)

pub some_told : {X Y : Type 0} (f : X → Y) (o : Option X) (y d : Y) → Some y ≡ option_map f o → option_map_or f o d ≡ y
some_told f None y d e = absurd (let h = e in cc)
some_told f (Some x) y d e = cc

pub none_told : {X Y : Type 0} (f : X → Y) (o : Option X) → None ≡ option_map f o → is_some o ≡ false
none_told f None e = refl
none_told f (Some x) e = absurd (let h = e in cc)

pub is_some-map : {X Y : Type 0} (f : X → Y) (o : Option X) → is_some (option_map f o) ≡ is_some o
is_some-map f None = refl
is_some-map f (Some x) = refl

pub none_if : {X : Type 0} (o : Option X) → is_some o ≡ false → o ≡ None
none_if None h = refl
none_if (Some x) h = absurd (let no = h in cc)

-- what is there is changed to something
pub not_there : {X Y : Type 0} (f : X → Y) (o p : Option X) → None ≡ option_map f o → o ≡ p → is_some p ≡ true → ⊥
not_there f o p none same there = absurd (let no = none_told f o none in let yes = ap is_some same ∙ there in cc)

-- what holds whatever was answered holds at an error
pub on_err : {T E : Type 0} (r : Result T E) {P : Type 0} → P → OnErr r P
on_err (Ok x) p = tt
on_err (Err e) p = p
