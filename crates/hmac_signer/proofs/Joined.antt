-- How a list of joined pieces grows by one piece.
use Rattle.std.proofs.Common.{◌≡◌, ℕ, zero, suc, ◌+◌, ◌<◌, ◌≤◌, List, [], ◌∷◌, ◌++◌, Some, take, slice_get, add-one}
use Rattle.std.proofs.Common.{append-nil, append_assoc, ap, sym, ◌∙◌, arith, flat_map}
use Rattle.std.specs.List.{join_by}
use Rattle.std.proofs.lemmas.List.{take_more, flat_map_more}
use Rattle.std.proofs.lemmas.Option.{slice_get_within, get_or_from_slice_get}

take_one_more : {X : Type 0} (xs : List X) (k : ℕ) (x : X) → slice_get xs k ≡ Some x
    → take (suc k) xs ≡ take k xs ++ x ∷ []
take_one_more xs k x e =
    rw (← add-one k) (take_more xs k x (slice_get_within xs k x e) ∙ ap (λ y. take k xs ++ y ∷ [])
    (get_or_from_slice_get xs k x x e))

-- the first piece stands alone
pub join_first : {X : Type 0} (f : X → List ℕ) (sep : List ℕ) (xs : List X) (k : ℕ) (x : X) (old new : List ℕ)
    → k ≤ 0 → slice_get xs k ≡ Some x → old ≡ join_by f sep (take k xs) → new ≡ old ++ f x
    → new ≡ join_by f sep (take (k + 1) xs)
join_first f sep xs (suc k) x old new none at before after = absurd (omega arith)
join_first f sep [] zero x old new none at before after = cc
join_first f sep (y ∷ ys) zero x old new none at before after =
    let same : y ≡ x = cc in
    after ∙ ap (λ o. o ++ f x) before ∙ sym (ap f same) ∙ sym (append-nil (f y))

-- any other one stands behind a separator
join_more : {X : Type 0} (f : X → List ℕ) (sep : List ℕ) (y : X) (ys : List X) (k : ℕ) (x : X) → slice_get ys k ≡ Some x
    → join_by f sep (y ∷ take (suc k) ys) ≡ (join_by f sep (y ∷ take k ys) ++ sep) ++ f x
join_more {X = X} f sep y ys k x at =
    let g : X → List ℕ = λ z. sep ++ f z in
    ap (λ zs. f y ++ flat_map g zs) (take_one_more ys k x at)
    ∙ sym (flat_map_more g (f y) (take k ys) x) ∙ sym (append_assoc (join_by f sep (y ∷ take k ys)) sep (f x))

pub join_next : {X : Type 0} (f : X → List ℕ) (sep : List ℕ) (xs : List X) (k : ℕ) (x : X) (old apart new : List ℕ)
    → 0 < k → slice_get xs k ≡ Some x → old ≡ join_by f sep (take k xs) → apart ≡ old ++ sep → new ≡ apart ++ f x
    → new ≡ join_by f sep (take (k + 1) xs)
join_next f sep xs zero x old apart new some at before between after = absurd (omega arith)
join_next f sep [] (suc k) x old apart new some at before between after = cc
join_next f sep (y ∷ ys) (suc k) x old apart new some at before between after =
    rw add-one (after ∙ ap (λ o. o ++ f x) (between ∙ ap (λ o. o ++ sep) before) ∙ sym (join_more f sep y ys k x at))
