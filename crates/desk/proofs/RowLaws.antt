-- The rows of the permits that are out, without one of them, and until none is left.
use Rattle.desk.proofs.Words.{◌≡◌, ◌<◌, ◌≤◌, ◌+◌, ℕ, zero, suc, Bool, true, false, List, [], ◌∷◌, Some, None, length}
use Rattle.desk.proofs.Words.{refl, sym, ◌∙◌, ap, arith, not, ◌||◌, cond, get_or, subst, count_by, filter, position}
use Rattle.desk.proofs.Words.{remove, nat_eq, sum_by, bytes_eq, list_all, list_any, position_or_len, eq-eqb}
use Rattle.desk.proofs.Words.{list_any_at, position-Some, sum_by-cons, sum_by-remove, bytes_eq-Decides, and_first}
use Rattle.desk.proofs.Words.{and_second, and_both, all_at, Row, in_flight_of, is_out, same_row, nat_tests, by_option}
use Rattle.desk.proofs.Words.{◌++◌, IsPermutation, sum_by_push}
use Rattle.std.proofs.lemmas.List.Sorted.{sum_by-IsPermutation}

-- the attempts at a delivery that are under way
abbrev pub attempts_at : ℕ → List Row → ℕ
attempts_at d rows = count_by (λ row. nat_eq row.delivery d) rows

abbrev pub others : Row → List Row → List Row
others row rows = filter (λ other. not (same_row row other)) rows

pub same_row_is : (a b : Row) → same_row a b ≡ true → a ≡ b
same_row_is a b h =
    let same : (a.endpoint ≡ b.endpoint) × (a.delivery ≡ b.delivery) × (a.inflight ≡ b.inflight) =
    grind (arith, nat_tests, bytes_eq-Decides a.endpoint b.endpoint) in
    λ i. record { endpoint = same.0 i; delivery = same.1 i; inflight = same.2 i }

pub same_row_self : (r : Row) → same_row r r ≡ true
same_row_self r = and_both (bytes_eq r.endpoint r.endpoint) _ ((bytes_eq-Decides r.endpoint r.endpoint).1 refl)
    (and_both (nat_eq r.delivery r.delivery) _ (eq-eqb r.delivery r.delivery refl) (eq-eqb r.inflight r.inflight refl))

-- Rows that pass no test

pub any_past : (p : Row → Bool) (rows : List Row) → length rows ≤ position_or_len p rows → list_any p rows ≡ false
any_past p [] h = refl
any_past p (r ∷ rows) h = grind (arith, any_past p rows)

pub none_found : (p : Row → Bool) (rows : List Row) → position p rows ≡ None → list_any p rows ≡ false
none_found p rows e = grind (arith, nat_tests, any_past p rows)

pub none_counted : (p : Row → Bool) (rows : List Row) → list_any p rows ≡ false → count_by p rows ≡ 0
none_counted p [] e = refl
none_counted p (r ∷ rows) e = grind (arith, sum_by-cons (λ x. cond (p x) 1 0) r rows, none_counted p rows)

pub none_any : (p : Row → Bool) (rows : List Row) → count_by p rows ≡ 0 → list_any p rows ≡ false
none_any p [] e = refl
none_any p (r ∷ rows) e = grind (arith, sum_by-cons (λ x. cond (p x) 1 0) r rows, none_any p rows)

-- What is left without the row at a place

any_removed : (p : Row → Bool) (rows : List Row) (i : ℕ) (d : Row) → i < length rows → p (get_or rows i d) ≡ false
    → list_any p (remove rows i) ≡ list_any p rows
any_removed p [] i d h e = absurd (omega (arith, h))
any_removed p (r ∷ rows) zero d h e = sym (ap (λ b. b || list_any p rows) e)
any_removed p (r ∷ rows) (suc i) d h e = ap (λ b. p r || b) (any_removed p rows i d (omega (arith, h)) e)

all_removed : (p : Row → Bool) (rows : List Row) (i : ℕ) → list_all p rows ≡ true → list_all p (remove rows i) ≡ true
all_removed p [] zero h = refl
all_removed p [] (suc i) h = refl
all_removed p (r ∷ rows) zero h = and_second (p r) _ h
all_removed p (r ∷ rows) (suc i) h = and_both (p r) _ (and_first (p r) _ h)
    (all_removed p rows i (and_second (p r) _ h))

-- what passes one test and fails another passes a third
pub all_by : (p q s : Row → Bool) (rows : List Row) → ((r : Row) → p r ≡ true → q r ≡ false → s r ≡ true)
    → list_all p rows ≡ true → list_any q rows ≡ false → list_all s rows ≡ true
all_by p q s [] by h e = refl
all_by p q s (r ∷ rows) by h e = grind (arith, by r, all_by p q s rows by)

-- where no attempt at the delivery is under way, no row is the row's
others_all : (row : Row) (rows : List Row) → attempts_at row.delivery rows ≡ 0 → others row rows ≡ rows
others_all row [] none = refl
others_all row (r ∷ rows) none =
    let counted = sum_by-cons (λ (x : Row). cond (nat_eq x.delivery row.delivery) 1 0) r rows in
    grind (arith, nat_tests, counted, same_row_is row r, others_all row rows)

-- the rows without the one at this place are the other rows
pub removed_is : (row : Row) (rows : List Row) (i : ℕ) → i < length rows → row ≡ get_or rows i row
    → attempts_at row.delivery rows ≤ 1 → remove rows i ≡ others row rows
removed_is row [] i h own once = absurd (omega (arith, h))
removed_is row (r ∷ rows) zero h own once =
    let counted = sum_by-cons (λ (x : Row). cond (nat_eq x.delivery row.delivery) 1 0) r rows in
    grind (arith, nat_tests, counted, same_row_self row, others_all row rows)
removed_is row (r ∷ rows) (suc i) h own once =
    let counted = sum_by-cons (λ (x : Row). cond (nat_eq x.delivery row.delivery) 1 0) r rows in
    let without = sum_by-remove (λ (x : Row). cond (nat_eq x.delivery row.delivery) 1 0) rows i row in
    grind (arith, nat_tests, counted, without, same_row_is row r, removed_is row rows i)

-- A permit that is given back

-- the row was there, and the other ones are left
pub record IsReturned (row : Row) (rows new : List Row) : Type 0 where
  pub there : list_any (same_row row) rows ≡ true
  pub rest : new ≡ others row rows
  pub fewer : length new + 1 ≡ length rows
  pub free : is_out row.delivery new ≡ false
  pub out : (d : ℕ) → nat_eq row.delivery d ≡ false → is_out d new ≡ is_out d rows
  pub once : (d : ℕ) → attempts_at d new ≤ 1
  pub passes : (p : Row → Bool) → list_all p rows ≡ true → p row ≡ true
  pub pass : (p : Row → Bool) → list_all p rows ≡ true → list_all p new ≡ true
  pub in_flight : (name : List ℕ) → bytes_eq row.endpoint name ≡ false → in_flight_of name new ≡ in_flight_of name rows

returned_at : (row : Row) (rows new : List Row) (i : ℕ) → position (same_row row) rows ≡ Some i → new ≡ remove rows i
    → ((d : ℕ) → attempts_at d rows ≤ 1) → IsReturned row rows new
returned_at row rows new i at is once =
    let found = position-Some (same_row row) rows i row at in
    let own : row ≡ get_or rows i row = same_row_is row (get_or rows i row) found.1 in
    let less = λ (d : ℕ). sum_by-remove (λ (x : Row). cond (nat_eq x.delivery d) 1 0) rows i row found.0 in
    let one = sum_by-remove (λ (x : Row). 1) rows i row found.0 in
    let none : attempts_at row.delivery (remove rows i) ≡ 0 =
    grind (arith, nat_tests, once row.delivery, less row.delivery, own) in
    record {
      there = list_any_at (same_row row) rows i row found.0 found.1;
      rest = is ∙ removed_is row rows i found.0 own (once row.delivery);
      fewer = omega (arith, ap length is, one, counted rows, counted (remove rows i));
      free = ap (is_out row.delivery) is ∙ none_any (λ (x : Row). nat_eq x.delivery row.delivery) (remove rows i) none;
      out = λ d apart.
          let same = any_removed (λ (x : Row). nat_eq x.delivery d) rows i row found.0 in
          grind (arith, is, same, own, apart);
      once = λ d. subst (λ xs. attempts_at d xs ≤ 1) (sym is) (omega (arith, once d, less d));
      passes = λ p h. ap p own ∙ all_at p rows i row found.0 h;
      pass = λ p h. ap (list_all p) is ∙ all_removed p rows i h;
      in_flight = λ name apart.
          let left = sum_by-remove (λ (x : Row). cond (bytes_eq x.endpoint name) 1 0) rows i row found.0 in
          grind (arith, is, left, own, apart);
    }
  where
    counted : (xs : List Row) → sum_by (λ (x : Row). 1) xs ≡ length xs
    counted [] = refl
    counted (x ∷ xs) = omega (arith, sum_by-cons (λ (y : Row). 1) x xs, counted xs)

pub returned : (row : Row) (rows new : List Row) → (position (same_row row) rows ≡ None → ⊥)
    → ((i : ℕ) → position (same_row row) rows ≡ Some i → new ≡ remove rows i) → ((d : ℕ) → attempts_at d rows ≤ 1)
    → IsReturned row rows new
returned row rows new there is once =
    by_option (position (same_row row) rows) (λ e. absurd (there e)) (λ i e. returned_at row rows new i e (is i e) once)

-- Permits that are all of those that are out, as they are given back one by one

-- each row stands as often in the one list as in the other
abbrev pub AreAll : (permits rows : List Row) → Type 0
AreAll permits rows = (r : Row) → count_by (same_row r) permits ≡ count_by (same_row r) rows

pub all_out : (permits rows : List Row) → IsPermutation permits rows → AreAll permits rows
all_out permits rows h = λ r. sym (sum_by-IsPermutation (λ x. cond (same_row r x) 1 0) permits rows h)

-- the last permit is one of those that are out
pub last_out : (permits : List Row) (last : Row) (rows : List Row) → AreAll (permits ++ last ∷ []) rows
    → position (same_row last) rows ≡ None → ⊥
last_out permits last rows h e =
    let more = sum_by_push (λ x. cond (same_row last x) 1 0) permits last in
    let none = none_counted (same_row last) rows (none_found (same_row last) rows e) in
    absurd (omega (arith, h last, more, none, ap {B = ℕ} (λ b. cond b 1 0) (same_row_self last)))

-- the permit that was given last is out
pub given_out : (rows : List Row) (given : Row) → position (same_row given) (rows ++ given ∷ []) ≡ None → ⊥
given_out rows given = last_out rows given (rows ++ given ∷ []) (λ r. refl)

-- without it the others are all of those that are out
pub last_back : (permits : List Row) (last : Row) (rows new : List Row) → AreAll (permits ++ last ∷ []) rows
    → ((i : ℕ) → position (same_row last) rows ≡ Some i → new ≡ remove rows i) → AreAll permits new
last_back permits last rows new h is = by_option (position (same_row last) rows)
    (λ e. absurd (last_out permits last rows h e))
    (λ i e r.
    let found = position-Some (same_row last) rows i last e in
    let own : get_or rows i last ≡ last = sym (same_row_is last (get_or rows i last) found.1) in
    let more = sum_by_push (λ x. cond (same_row r x) 1 0) permits last in
    let less = sum_by-remove (λ x. cond (same_row r x) 1 0) rows i last found.0 in
    omega (arith, h r, more, less, ap {B = ℕ} (λ x. cond (same_row r x) 1 0) own, ap (count_by (same_row r)) (is i e)))

-- all are back
pub none_left : (permits rows : List Row) → length permits ≡ 0 → AreAll permits rows → rows ≡ []
none_left (permit ∷ permits) rows none h = absurd (omega (arith, none))
none_left [] [] none h = refl
none_left [] (r ∷ rows) none h =
    let one = sum_by-remove (λ x. cond (same_row r x) 1 0) (r ∷ rows) 0 r (omega arith) in
    absurd (omega (arith, h r, none_counted (same_row r) [] refl, one, ap {B = ℕ} (λ b. cond b 1 0) (same_row_self r)))
