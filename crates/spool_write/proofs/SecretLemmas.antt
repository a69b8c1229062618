-- The rows of an endpoint's secrets, written one after another.
use Rattle.std.proofs.Common.{◌≡◌, ◌<◌, ℕ, zero, suc, ◌+◌, true, List, [], ◌∷◌, ◌++◌, map, length, take, Some, None}
use Rattle.std.proofs.Common.{IsTrue, refl, sym, ap, subst, ◌∙◌, arith, add-zero, add-one}
use Rattle.std.proofs.Common.{append_assoc}
use Rattle.std.specs.Prelude.{slice_get}
use Rattle.std.specs.List.{enumerate_from, list_all}
use Rattle.sqlite.specs.State.{State}
use Rattle.relay_types.specs.Values.{is_secret}
use Rattle.relay_types.specs.Rows.{SecretRow, secret_rows}
use Rattle.spool_sql.specs.Stored.{IsTables, with_secret}
use Rattle.spool_sql.specs.Steps.{Alters}
use Rattle.spool_sql.proofs.StepLemmas.{alters_then}
use Rattle.relay_types.proofs.KnownLaws.{and_first, and_second, and_both}
use Rattle.spool_write.specs.Entering.{with_secrets}

abbrev row_at : ℕ → ℕ × List ℕ → SecretRow
row_at put s = record { endpoint = put; place = s.0; secret = s.1 }

one_more : (put n k : ℕ) (xs : List (List ℕ)) (x : List ℕ) → slice_get xs k ≡ Some x
    → map (row_at put) (enumerate_from n (take (suc k) xs)) ≡ map (row_at put) (enumerate_from n (take k xs))
    ++ row_at put (n + k, x) ∷ []
one_more put n k [] x is = absurd (let e = is in cc)
one_more put n zero (y ∷ ys) x is = λ i. row_at put (sym (add-zero n) i, same is i) ∷ []
  where
    same : {a b : List ℕ} → Some a ≡ Some b → a ≡ b
    same e = cc
one_more put n (suc k) (y ∷ ys) x is =
    ap (λ rest. row_at put (n, y) ∷ rest)
    (one_more put (n + 1) k ys x is ∙ ap (λ p. map (row_at put) (enumerate_from (n + 1) (take k ys)) ++ row_at put
    (p, x) ∷ []) moved)
  where
    moved : n + 1 + k ≡ n + suc k
    moved = omega arith

pub secret_rows-more : (put k : ℕ) (xs : List (List ℕ)) (x : List ℕ) → slice_get xs k ≡ Some x
    → secret_rows put (take (k + 1) xs) ≡ secret_rows put (take k xs) ++ record {
      endpoint = put;
      place = k;
      secret =
          x;
    } ∷ []
secret_rows-more put k xs x is =
    ap (λ n. secret_rows put (take n xs)) (add-one k) ∙ one_more put 0 k xs x is ∙ ap
    (λ p. secret_rows put (take k xs) ++ row_at put (p, x) ∷ []) moved
  where
    moved : 0 + k ≡ k
    moved = omega arith

-- one secret more
pub alters_more : (a b c : State) (put k : ℕ) (xs : List (List ℕ)) (x : List ℕ) → slice_get xs k ≡ Some x
    → Alters a b (with_secrets put (take k xs))
    → Alters b c (with_secret (record { endpoint = put; place = k; secret = x }))
    → Alters a c (with_secrets put (take (k + 1) xs))
alters_more a b c put k xs x is so_far one =
    let both = alters_then a b c _ _ so_far one in
    record {
      on = both.on;
      makes = λ rows t. subst (λ all. IsTables c.now (record rows { secrets = all }))
          (append_assoc rows.secrets (secret_rows put (take k xs)) (record { endpoint = put; place = k; secret = x }
          ∷ []) ∙ ap (λ more. rows.secrets ++ more) (sym (secret_rows-more put k xs x is))) (both.makes rows t);
    }

-- a place below the length has a secret
pub get_is_there : (xs : List (List ℕ)) (k : ℕ) → k < length xs → None ≡ slice_get xs k → ⊥
get_is_there [] k below is = omega (arith, below)
get_is_there (x ∷ xs) zero below is = cc
get_is_there (x ∷ xs) (suc k) below is = get_is_there xs k (omega (arith, below)) is

all_next : (xs : List (List ℕ)) (k : ℕ) (x : List ℕ) → slice_get xs k ≡ Some x → list_all is_secret (take k xs) ≡ true
    → is_secret x ≡ true → list_all is_secret (take (suc k) xs) ≡ true
all_next [] k x is all one = absurd (let e = is in cc)
all_next (y ∷ ys) zero x is all one = and_both (is_secret y) true (ap is_secret (same is) ∙ one) refl
  where
    same : {a b : List ℕ} → Some a ≡ Some b → a ≡ b
    same e = cc
all_next (y ∷ ys) (suc k) x is all one = and_both (is_secret y) (list_all is_secret (take (suc k) ys))
    (and_first (is_secret y) _ all)
    (all_next ys k x is (and_second (is_secret y) (list_all is_secret (take k ys)) all) one)

pub all_more : (xs : List (List ℕ)) (k : ℕ) (x : List ℕ) → slice_get xs k ≡ Some x
    → IsTrue (list_all is_secret (take k xs)) → IsTrue (is_secret x) → IsTrue (list_all is_secret (take (k + 1) xs))
all_more xs k x is all one = ap (λ n. list_all is_secret (take n xs)) (add-one k) ∙ all_next xs k x is all one
