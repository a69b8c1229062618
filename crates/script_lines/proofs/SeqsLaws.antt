-- Numbers with a comma between each two, one number more.
use Rattle.std.proofs.Common.{◌≡◌, ℕ, List, [], ◌∷◌, ◌++◌, decimal, refl, sym, ap, ◌∙◌, append_assoc}
use Rattle.script_lines.specs.Replies.{numbers_text}

pub numbers_more : (first : ℕ) (some : List ℕ) (last : ℕ) → numbers_text (first ∷ (some ++ last ∷ []))
    ≡ numbers_text (first ∷ some) ++ (44 ∷ decimal last)
numbers_more first [] last = refl
numbers_more first (next ∷ some) last =
    ap (λ text. decimal first ++ (44 ∷ text)) (numbers_more next some last)
    ∙ sym (append_assoc (decimal first) (44 ∷ numbers_text (next ∷ some)) (44 ∷ decimal last))
