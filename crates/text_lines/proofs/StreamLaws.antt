-- Writes and reads joined.
use Rattle.std.proofs.Common.{◌≡◌, ℕ, ◌-◌, subst, List, [], ◌++◌, length, take, drop, Option, Some, None, Result, Ok}
use Rattle.std.proofs.Common.{Err, IfSome, OnOk, OnErr, refl, sym, ap, ◌∙◌, append_assoc, append-nil, take-append-drop}
use Rattle.std.proofs.lemmas.List.{take_rest}
use Rattle.std.specs.Io.KnownBytes.{Appends}
use Rattle.std.proofs.KnownBytes.{Appends-nil, Appends-trans}
use Rattle.text_lines.specs.Streams.{AppendsBefore, AppendsFront, with_feed}

-- nothing is a front of any bytes
pub AppendsFront-none : (known : Option (List ℕ)) (bytes : List ℕ) → AppendsFront known known bytes
AppendsFront-none known bytes = (bytes, ([], refl, Appends-nil known))

-- so it is at every end
pub AppendsFront-any : {T E : Type 0} (r : Result T E) (known : Option (List ℕ)) (bytes : List ℕ)
    → OnErr r (AppendsFront known known bytes)
AppendsFront-any (Ok x) known bytes = tt
AppendsFront-any (Err e) known bytes = AppendsFront-none known bytes

pub AppendsFront-unwritten : {T E : Type 0} (r : Result T E) (text : Option (List ℕ)) (known : Option (List ℕ))
    → OnErr r (IfSome text (λ bytes. AppendsFront known known (with_feed bytes)))
AppendsFront-unwritten (Ok x) text known = tt
AppendsFront-unwritten (Err e) None known = tt
AppendsFront-unwritten (Err e) (Some bytes) known = AppendsFront-none known (with_feed bytes)

-- one more write takes its bytes off the rest
pub AppendsBefore-more : (old mid new : Option (List ℕ)) (bytes rest : List ℕ) (n : ℕ)
    → AppendsBefore rest old mid bytes → Appends mid new (take n rest)
    → AppendsBefore (take (length rest - n) (drop n rest)) old new bytes
AppendsBefore-more old mid new bytes rest n (front, e, grown) more =
    let P : List ℕ → Type 0 = λ xs. AppendsBefore xs old new bytes in
    subst P (sym (take_rest rest n)) (
      front ++ take n rest,
      e ∙ ap (λ xs. front ++ xs) (sym (take-append-drop n rest)) ∙ sym (append_assoc front (take n rest) (drop n rest)),
      Appends-trans old mid new front (take n rest) grown more,
    )

-- what known bytes became
pub Appends-known : (old new : Option (List ℕ)) (had more : List ℕ) → old ≡ Some had → Appends old new more
    → new ≡ Some (had ++ more)
Appends-known old new had more is h = at new (subst (λ known. Appends known new more) is h)
  where
    at : (known : Option (List ℕ)) → Appends (Some had) known more → known ≡ Some (had ++ more)
    at None k = absurd k
    at (Some xs) k = ap Some k

-- all bytes are written, or a front of them
pub AppendsFront-from_end : {T E : Type 0} (r : Result T E) (old new : Option (List ℕ)) (bytes : List ℕ)
    → OnOk r (Appends old new bytes) → OnErr r (AppendsFront old new bytes) → AppendsFront old new bytes
AppendsFront-from_end (Ok x) old new bytes all front = ([], (bytes, sym (append-nil bytes), all))
AppendsFront-from_end (Err e) old new bytes all front = front
