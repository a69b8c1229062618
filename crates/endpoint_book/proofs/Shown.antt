-- What an endpoint shows after some changes.
use Rattle.std.proofs.Common.{◌≡◌, ℕ, ◌<◌, ◌≤◌, Bool, true, false, ◌&&◌, List, [], ◌∷◌, ◌++◌, Option, Some, refl, sym}
use Rattle.std.proofs.Common.{◌∙◌, ap, arith}
use Rattle.std.specs.Prelude.{filter, nat_lt, bytes_eq, if◌then◌else◌}
use Rattle.std.proofs.lemmas.Bool.{lt-ltb, le-ltb}
use Rattle.endpoint_book.specs.declared.entry.Change.{Change}
use Rattle.endpoint_book.specs.declared.entry.Shown.{Shown}
use Rattle.endpoint_book.specs.Entries.{is_below, is_from, shown_at}

pub shown_at-append : (place : ℕ) (cs ds : List Change) (name : List ℕ) (o : Option Shown)
    → shown_at place (cs ++ ds) name o ≡ shown_at place ds name (shown_at place cs name o)
shown_at-append place [] ds name o = refl
shown_at-append place (c ∷ cs) ds name o = shown_at-append place cs ds name
    (if bytes_eq c.name name && nat_lt c.seq place then Some c.shown else o)

and_false : (b : Bool) → b && false ≡ false
and_false true = refl
and_false false = refl

and_true : (b : Bool) → b && true ≡ b
and_true true = refl
and_true false = refl

-- one more change, which stands at the place or above, or below it
pub shown_at-above : (place : ℕ) (cs : List Change) (c : Change) (name : List ℕ) (o : Option Shown) → place ≤ c.seq
    → shown_at place (cs ++ c ∷ []) name o ≡ shown_at place cs name o
shown_at-above place cs c name o h = grind (arith, shown_at-append, le-ltb, and_false)

pub shown_at-below : (place : ℕ) (cs : List Change) (c : Change) (name : List ℕ) (o : Option Shown) → c.seq < place
    → shown_at place (cs ++ c ∷ []) name o ≡ (if bytes_eq c.name name then Some c.shown else shown_at place cs name o)
shown_at-below place cs c name o h = grind (arith, shown_at-append, lt-ltb, and_true)

-- the changes below a place are all that count there
pub shown_below : (place later : ℕ) (cs : List Change) (name : List ℕ) (o : Option Shown) → place ≤ later
    → shown_at later (filter (is_below place) cs) name o ≡ shown_at place cs name o
shown_below place later [] name o h = refl
shown_below place later (c ∷ cs) name o h = grind
    (arith, shown_below place later cs name o h, shown_below place later cs name (Some c.shown) h)

-- the changes up to a place and then the others
pub shown_in_turn : (place later : ℕ) (cs : List Change) (name : List ℕ) (o : Option Shown) → place ≤ later
    → cs ≡ filter (is_below place) cs ++ filter (is_from place) cs
    → shown_at later (filter (is_from place) cs) name (shown_at place cs name o) ≡ shown_at later cs name o
shown_in_turn place later cs name o h parted = grind (arith, shown_below, shown_at-append)

-- where no change stands below the place, nothing is changed
pub shown_still : (place : ℕ) (cs : List Change) (name : List ℕ) (o : Option Shown) → filter (is_below place) cs ≡ []
    → shown_at place cs name o ≡ o
shown_still place cs name o none = sym (shown_below place place cs name o (omega arith))
    ∙ ap (λ ds. shown_at place ds name o) none

-- what stands at a later place stands at this one or above
pub from_later : (place later : ℕ) (cs : List Change) → place ≤ later
    → filter (is_from later) (filter (is_from place) cs) ≡ filter (is_from later) cs
from_later place later [] h = refl
from_later place later (c ∷ cs) h = grind (arith, from_later place later cs h)

-- where no change stands below the place, all stand from it on
pub from_all : (place : ℕ) (cs : List Change) → filter (is_below place) cs ≡ []
    → cs ≡ filter (is_below place) cs ++ filter (is_from place) cs → filter (is_from place) cs ≡ cs
from_all place cs none parted = sym (parted ∙ ap (λ ds. ds ++ filter (is_from place) cs) none)
