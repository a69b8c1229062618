-- Prefixes of one list.
use Rattle.std.proofs.Common.{◌≡◌, ◌⊎◌, inl, inr, ⊎_elim, List, [], ◌∷◌, ◌++◌}
use Rattle.std.proofs.Common.{refl, ap, sym, ◌∙◌, append_assoc}
use mathlib.Core.List.{IsPrefix}

pub prefix_self : {A : Type 0} (xs : List A) → IsPrefix xs xs
prefix_self [] = ([], refl)
prefix_self (x ∷ xs) = (let r = prefix_self xs in r.0, ap (λ ys. x ∷ ys) (prefix_self xs).1)

pub prefix_nil : {A : Type 0} (xs : List A) → IsPrefix [] xs
prefix_nil xs = (xs, refl)

pub prefix_more : {A : Type 0} (xs ys more : List A) → IsPrefix xs ys → IsPrefix xs (ys ++ more)
prefix_more xs ys more p = (p.0 ++ more, sym (append_assoc xs p.0 more) ∙ ap (λ w. w ++ more) p.1)

-- of two prefixes of one list, one is a prefix of the other
pub prefix_either : {A : Type 0} (xs ys zs : List A) → IsPrefix xs zs → IsPrefix ys zs → IsPrefix xs ys ⊎ IsPrefix ys xs
prefix_either [] ys zs p q = inl (ys, refl)
prefix_either (x ∷ xs) [] zs p q = inr (x ∷ xs, refl)
prefix_either (x ∷ xs) (y ∷ ys) [] p q = absurd (cc (p.1))
prefix_either (x ∷ xs) (y ∷ ys) (z ∷ zs) p q =
    let heads : x ≡ y = cc (p.1, q.1) in
    ⊎_elim (λ (r : IsPrefix xs ys). inl (r.0, cc (heads, r.1))) (λ (r : IsPrefix ys xs). inr (r.0, cc (heads, r.1)))
    (prefix_either xs ys zs (p.0, cc (p.1)) (q.0, cc (q.1)))
