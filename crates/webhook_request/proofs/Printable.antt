-- Header values are printable ASCII.
use Rattle.std.proofs.Common.{ℕ, ◌+◌, ◌<◌, ◌^◌, ◌%◌, [], ◌∷◌, IsTrue, refl, arith, decimal}
use Rattle.std.proofs.lemmas.Bool.{and_from, and_parts}
use Rattle.std.proofs.lemmas.Bool.Decides.{nat_tests}
use Rattle.std.proofs.lemmas.List.Folds.{list_all-append}
use Rattle.std.proofs.lemmas.Fmt.{decimal_by_steps}
use Rattle.relay_types.specs.Values.{Text, is_between, is_visible_character, is_visible}
use Rattle.webhook_request.specs.Requests.{is_printable}

visible_character_printable : (c : ℕ) → IsTrue (is_visible_character c) → IsTrue (is_between 32 126 c)
visible_character_printable c h = grind (arith, nat_tests)

pub visible_printable : (text : Text) → IsTrue (is_visible text) → IsTrue (is_printable text)
visible_printable [] all = refl
visible_printable (c ∷ rest) all =
    let parts = and_parts (is_visible_character c) (is_visible rest) all in
    and_from _ _ (visible_character_printable c parts.0) (visible_printable rest parts.1)

digit_printable : (n : ℕ) → n < 10 → IsTrue (is_between 32 126 (48 + n))
digit_printable n h = grind (arith, nat_tests)

pub decimal_printable : (n : ℕ) → n < 2 ^ 64 → IsTrue (is_printable (decimal n))
decimal_printable = decimal_by_steps (λ n text. IsTrue (is_printable text))
    (λ n h. and_from _ _ (digit_printable n h) refl)
    (λ n text h front. rw (list_all-append, front) (and_from _ _ (digit_printable (n % 10) (omega arith)) refl))
