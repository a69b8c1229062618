-- The text of a number is read as that number.
use Rattle.std.proofs.Common.{◌≡◌, ℕ, ◌<◌, ◌^◌, List, Option, Some, None, Result, Ok, Err, MatchResult, decimal, sym}
use Rattle.std.proofs.Common.{ap, ◌∙◌, subst}
use Rattle.std.specs.Prelude.{bytes_eq, Bool, true, false}
use Rattle.std.proofs.lemmas.Slice.Eq.{bytes_eq-Decides}
use Rattle.std.specs.Borrow.{Bor}
use Rattle.std.specs.Result.{result_ok, IsOk}
use Rattle.std.specs.Str.{IsUtf8}
use Rattle.std.specs.Str.Parse.{ParsesUnsigned}
use Rattle.std.proofs.lemmas.Fmt.{IsAscii-decimal, parse-decimal}
use Rattle.std.proofs.lemmas.Str.{IsUtf8-from_ascii}

pub no_text : {E : Type 0} (r : Result (Bor (List ℕ)) E) (P : Bor (List ℕ) → Type 0) (Q : E → Type 0) (word : List ℕ)
    (n : ℕ)
    → MatchResult r P (λ e. ¬ (IsUtf8 word) × Q e) → n < 2 ^ 64 → word ≡ decimal n → result_ok r ≡ None → ⊥
no_text (Ok x) P Q word n h small e none = cc
no_text (Err y) P Q word n h small e none = h.0
    (subst IsUtf8 (sym e) (IsUtf8-from_ascii (decimal n) (IsAscii-decimal n small)))

pub number_parsed : {E : Type 0} (r : Result ℕ E) (o : Option ℕ) (text : List ℕ) (n : ℕ) → ParsesUnsigned 64 10 text r
    → n < 2 ^ 64 → text ≡ decimal n
    → o ≡ result_ok r → o ≡ Some n
number_parsed r o text n h small e is = is ∙ ap result_ok (parse-decimal 64 n text r small small e h)

pub text_read : {E : Type 0} (r : Result (Bor (List ℕ)) E) (o : Option (Bor (List ℕ))) (text : Bor (List ℕ))
    (P : Type 0) (Q : E → Type 0) (word : List ℕ)
    → MatchResult r (λ s. (s.now ≡ word) × P) Q → o ≡ result_ok r → o ≡ Some text → text.now ≡ word
text_read (Ok x) o text P Q word h is was =
    let same : x ≡ text = cc in
    ap (λ (s : Bor (List ℕ)). s.now) (sym same) ∙ h.0
text_read (Err y) o text P Q word h is was = cc

pub none_some : {T : Type 0} {x : T} → None ≡ Some x → ⊥
none_some e = cc

pub some_equal : {T : Type 0} {x y : T} → Some x ≡ Some y → x ≡ y
some_equal e = cc

pub bytes_equal : (a b : List ℕ) → a ≡ b → bytes_eq a b ≡ true
bytes_equal a b e = (bytes_eq-Decides a b).1 e

pub bytes_not_equal : (a b : List ℕ) (r : Bool) → r ≡ bytes_eq a b → r ≡ false → a ≡ b → ⊥
bytes_not_equal a b r is differs e = let yes = bytes_equal a b e in cc

pub err_not_ok : {T E : Type 0} {e : E} {x : T} → Err e ≡ Ok x → ⊥
err_not_ok h = cc

pub ok_not_err : {T E : Type 0} (r : Result T E) (e : E) → IsOk r → r ≡ Err e → ⊥
ok_not_err (Ok x) e ok h = cc
ok_not_err (Err y) e ok h = cc

pub true_not_false : true ≡ false → ⊥
true_not_false h = cc
