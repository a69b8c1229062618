-- Worked rows of the lines of a text.
use Rattle.std.proofs.Common.{[], ◌∷◌, ◌++◌, codes, inl, inr, refl}
use Rattle.text_lines.specs.Ends.{HasLines}

-- two lines, the last of which lacks its line feed, and one that is empty
last_row : HasLines (codes "seal" ++ 10 ∷ codes "commit") (codes "seal" ∷ codes "commit" ∷ [])
last_row = (refl, inr (codes "seal" ∷ [], codes "commit", (λ e. cc), refl, refl))

empty_row : HasLines (codes "seal" ++ 10 ∷ 10 ∷ []) (codes "seal" ∷ [] ∷ [])
empty_row = (refl, inl refl)
