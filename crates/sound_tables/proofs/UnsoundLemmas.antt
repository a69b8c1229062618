-- What is read of the table `meta` of a store that lists it.
use Rattle.std.proofs.Common.{◌≡◌, ◌≢◌, ◌+◌, ◌<◌, ℕ, pos, Option, Some, None, Result, Ok, Err, IfOk, OnOk, find, sym}
use Rattle.std.proofs.Common.{ap, subst, ◌∙◌, arith}
use Rattle.std.specs.Prelude.{MatchOption}
use Rattle.sqlite.specs.declared.error.Error.{Error}
use Rattle.sqlite_value.specs.declared.value.Value.TheVariants.{Int}
use Rattle.sqlite_value.specs.Order.{Row, column}
use Rattle.sqlite_trees.specs.View.{View, IsClean}
use Rattle.sound_tables.specs.declared.meta.Meta.{Meta}
use Rattle.sound_tables.specs.Unsound.{FindsMeta, KeepsMeta, ListsMeta, NamesRelay, ReadsMeta, ReadsRelay}
use Rattle.sound_tables.specs.Unsound.{is_meta_object, objects_of}

-- two objects that were found first are one
one_object : (v : View) (o p : Row) → find is_meta_object (objects_of v) ≡ Some o
    → find is_meta_object (objects_of v) ≡ Some p → o ≡ p
one_object v o p is at = let same : Some o ≡ Some p = sym is ∙ at in cc

one_number : (s t : ℕ) → Int (pos (s + 1)) ≡ Int (pos (t + 1)) → s ≡ t
one_number s t same = let n : s + 1 ≡ t + 1 = cc in omega (arith, n)

one_tree : (v : View) (s t : ℕ) → ListsMeta v s → ListsMeta v t → s ≡ t
one_tree v s t (o, is, number, low) (p, at, other, under) = one_number s t
    (sym number ∙ ap (λ r. column r 0) (one_object v o p is at) ∙ other)

pub finds_by : (v : View) (object : Row) (tree : Option ℕ) → find is_meta_object (objects_of v) ≡ Some object
    → MatchOption tree ((t : ℕ) → t < 65536 → column object 0 ≢ Int (pos (t + 1)))
    (λ t. (t < 65536) × (column object 0 ≡ Int (pos (t + 1)))) → FindsMeta v tree
finds_by v object (Some t) found at = (object, found, at.1, at.0)
finds_by v object None found at = λ t lists. at t lists.3
    (ap (λ r. column r 0) (one_object v object lists.0 found lists.1) ∙ lists.2)

pub finds_none : (v : View) → find is_meta_object (objects_of v) ≡ None → (tree : ℕ) → ListsMeta v tree → ⊥
finds_none v none tree (o, is, number, low) = absurd (let never : Some o ≡ None = sym is ∙ none in cc)

pub relay_of : (v w : View) (tree : ℕ) (r : Result (Option Meta) Error) → (IsClean v → ListsMeta v tree)
    → IfOk r (λ found. IsClean w → ReadsMeta v tree found)
    → OnOk r (IsClean w → IsClean v) → IfOk r (λ found. IsClean w → ReadsRelay v found)
relay_of v w tree (Ok (Some m)) lists reads back = λ clean. (tree, lists (back clean), reads clean)
relay_of v w tree (Ok None) lists reads back = λ clean m named. reads clean m
    (subst (λ t. KeepsMeta v t m) (one_tree v named.0 tree named.1 (lists (back clean))) named.2)
relay_of v w tree (Err e) lists reads back = tt

pub no_relay : (v : View) → FindsMeta v None → (m : Meta) → NamesRelay v m → ⊥
no_relay v none m (tree, lists, keeps) = none tree lists
