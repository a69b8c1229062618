-- What the look-ups tell of the rows.
use Rattle.std.proofs.Common.{◌≡◌, ◌≤◌, ◌==◌, ℕ, Bool, true, false, ◌&&◌, not, nat_lt, cond, List, [], ◌∷◌, map, length}
use Rattle.std.proofs.Common.{Option, Some, None, refl, sym, ap, ◌∙◌, arith}
use Rattle.std.specs.Prelude.{slice_get, is_some, find, filter, bytes_eq, sum_by, if◌then◌else◌}
use Rattle.std.specs.Option.{option_map_or}
use Rattle.std.specs.List.{list_any}
use Rattle.std.specs.List.Sorted.{IsPermutation}
use Rattle.std.proofs.lemmas.List.Sorted.{length_permutation, sum_by-IsPermutation}
use Rattle.std.proofs.lemmas.List.{length-map}
use Rattle.relay_types.specs.declared.limits.TheConstants.{MAX_ENDPOINTS}
use Rattle.relay_types.specs.Rows.{Rows, EndpointRow, DeliveryRow, put_by_name}
use Rattle.spool_sql.specs.Stored.{endpoints_named, IsPutOf}

-- whether an endpoint has this name
abbrev pub has_name : Rows → List ℕ → Bool
has_name rows name = is_some (find (λ (e : EndpointRow). bytes_eq e.name name) rows.endpoints)

-- whether the endpoint that the record with this number made has an event of this id
abbrev pub has_event : Rows → ℕ → List ℕ → Bool
has_event rows put id = list_any (λ (d : DeliveryRow). (d.endpoint == put) && bytes_eq d.id id) rows.deliveries

-- no two endpoints have one name
abbrev pub HasEachNameOnce : Rows → Type 0
HasEachNameOnce rows = (name : List ℕ) → length (endpoints_named name rows) ≤ 1

-- what the look-ups say of a Put, and of an Accept
abbrev pub allows_put : Rows → List ℕ → Bool
allows_put rows name = not (has_name rows name) && nat_lt (length rows.endpoints) MAX_ENDPOINTS

abbrev pub allows_accept : Rows → List ℕ → List ℕ → Bool
allows_accept rows name id = has_name rows name && not (has_event rows (put_by_name rows name) id)

abbrev pub allowed_for : Rows → List ℕ → List ℕ → Option ℕ
allowed_for rows name id = if allows_accept rows name id then Some (put_by_name rows name) else None

-- an answer that is given only where a test passes tells of the test
pub answer-none : {X : Type 0} (b : Bool) (x : X) → None ≡ (if b then Some x else None) → false ≡ b
answer-none true x e = absurd (let h = e in cc)
answer-none false x e = refl

pub answer-some : {X : Type 0} (b : Bool) (x found : X) → Some found ≡ (if b then Some x else None)
    → (true ≡ b) × (found ≡ x)
answer-some true x found e = (refl, same e)
  where
    same : Some found ≡ Some x → found ≡ x
    same h = cc
answer-some false x found e = absurd (let h = e in cc)

-- the first that passes is the first of those that pass
pub find_is_first : {X : Type 0} (test : X → Bool) (xs : List X) → find test xs ≡ slice_get (filter test xs) 0
find_is_first test [] = refl
find_is_first test (x ∷ xs) = at (test x) (find_is_first test xs)
  where
    at : (b : Bool) → find test xs ≡ slice_get (filter test xs) 0 → (if b then Some x else find test xs) ≡ slice_get
        (cond b (x ∷ filter test xs) (filter test xs)) 0
    at true rest = refl
    at false rest = rest

some_if_long : {X Y : Type 0} (xs : List X) (ys : List Y) → length xs ≡ length ys
    → is_some (slice_get xs 0) ≡ is_some (slice_get ys 0)
some_if_long [] [] e = refl
some_if_long [] (y ∷ ys) e = absurd (omega (arith, e))
some_if_long (x ∷ xs) [] e = absurd (omega (arith, e))
some_if_long (x ∷ xs) (y ∷ ys) e = refl

abbrev put_in : EndpointRow → ℕ
put_in e = e.put

pub has_name-found : (rows : Rows) (name : List ℕ) (found : Option ℕ) → IsPutOf name rows found
    → is_some found ≡ has_name rows name
has_name-found rows name found h =
    ap is_some h.2
    ∙ some_if_long h.0 (endpoints_named name rows) (length_permutation (map put_in (endpoints_named name rows)) h.0 h.1
    ∙ length-map (endpoints_named name rows) put_in)
    ∙ ap is_some (sym (find_is_first (λ (e : EndpointRow). bytes_eq e.name name) rows.endpoints))

pub may_put-taken : (rows : Rows) (name : List ℕ) (found : Option ℕ) → IsPutOf name rows found → is_some found ≡ true
    → false ≡ allows_put rows name
may_put-taken rows name found h is = ap (λ b. not b && nat_lt (length rows.endpoints) MAX_ENDPOINTS)
    (sym is ∙ has_name-found rows name found h)

pub may_put-free : (rows : Rows) (name : List ℕ) (found : Option ℕ) (count : ℕ) → IsPutOf name rows found
    → is_some found ≡ false → count ≡ length rows.endpoints → nat_lt count MAX_ENDPOINTS ≡ allows_put rows name
may_put-free rows name found count h is counted = ap (λ n. nat_lt n MAX_ENDPOINTS) counted
    ∙ ap (λ b. not b && nat_lt (length rows.endpoints) MAX_ENDPOINTS) (sym is ∙ has_name-found rows name found h)

-- a list of one number at most has one order
pub same_if_short : (xs ys : List ℕ) → length xs ≤ 1 → IsPermutation xs ys → ys ≡ xs
same_if_short [] ys short same = none ys (length_permutation [] ys same)
  where
    none : (ys : List ℕ) → length ys ≡ 0 → ys ≡ []
    none [] e = refl
    none (y ∷ rest) e = absurd (omega (arith, e))
same_if_short (x ∷ []) ys short same = one ys (length_permutation (x ∷ []) ys same)
    (sum_by-IsPermutation (λ n. n) (x ∷ []) ys same)
  where
    one : (ys : List ℕ) → length ys ≡ 1 → sum_by (λ n. n) ys ≡ sum_by (λ n. n) (x ∷ []) → ys ≡ x ∷ []
    one [] len sums = absurd (omega (arith, len))
    one (y ∷ []) len sums = ap (λ n. n ∷ []) (omega (arith, sums))
    one (y ∷ z ∷ rest) len sums = absurd (omega (arith, len))
same_if_short (x ∷ z ∷ rest) ys short same = absurd (omega (arith, short))

-- of one name at most, the number that was found is that of the name
only_put : (named : List EndpointRow) (puts : List ℕ) (put : ℕ) → length named ≤ 1
    → IsPermutation (map put_in named) puts → Some put ≡ slice_get puts 0 → Some put ≡ slice_get (map put_in named) 0
only_put named puts put once same is = is ∙ ap (λ ps. slice_get ps 0)
    (same_if_short (map put_in named) puts (omega (arith, once, length-map named put_in)) same)

put_of_first : (named : List EndpointRow) (put : ℕ) → Some put ≡ slice_get (map put_in named) 0
    → put ≡ option_map_or put_in (slice_get named 0) 0
put_of_first [] put is = absurd (let e = is in cc)
put_of_first (e ∷ rest) put is = same is
  where
    same : Some put ≡ Some (put_in e) → put ≡ put_in e
    same h = cc

pub put_by_name-found : (rows : Rows) (name : List ℕ) (put : ℕ) → HasEachNameOnce rows → IsPutOf name rows (Some put)
    → put ≡ put_by_name rows name
put_by_name-found rows name put once h =
    put_of_first (endpoints_named name rows) put (only_put (endpoints_named name rows) h.0 put (once name) h.1 h.2)
    ∙ ap (λ o. option_map_or put_in o 0)
    (sym (find_is_first (λ (e : EndpointRow). bytes_eq e.name name) rows.endpoints))

pub accepting-unknown : (rows : Rows) (name id : List ℕ) → IsPutOf name rows None → None ≡ allowed_for rows name id
accepting-unknown rows name id h = ap (λ b. if (b && not (has_event rows (put_by_name rows name) id)) then Some
    (put_by_name rows name) else None) (has_name-found rows name None h)

pub accepting-found : (rows : Rows) (name id : List ℕ) (put : ℕ) (known : Bool) → HasEachNameOnce rows
    → IsPutOf name rows (Some put) → known ≡ has_event rows put id
    → (if known then None else Some put) ≡ allowed_for rows name id
accepting-found rows name id put known once h is = at known ∙ both
  where
    at : (b : Bool) → (if b then None else Some put) ≡ (if (true && not b) then Some put else None)
    at true = refl
    at false = refl

    named : true ≡ has_name rows name
    named = has_name-found rows name (Some put) h

    same : put ≡ put_by_name rows name
    same = put_by_name-found rows name put once h

    both : (if (true && not known) then Some put else None) ≡ allowed_for rows name id
    both = ap (λ b. if (true && not b) then Some put else None) is ∙ λ i. if
        (named i && not (has_event rows (same i) id)) then Some (same i) else None

pub none_if_unnamed : {X : Type 0} (named : List X) → is_some (slice_get named 0) ≡ false → named ≡ []
none_if_unnamed [] h = refl
none_if_unnamed (e ∷ rest) h = absurd (let i = h in cc)
