use Rattle.std.proofs.Common.{◌≡◌, List, [], ◌∷◌, ◌++◌, refl, ap, rules}
use Rattle.webhook_request.proofs.Printable.{decimal_printable, visible_printable}
use Rattle.webhook_request.proofs.outgoing.add_connection_headers.Goals as goal

-- one header after another
five : {X : Type 0} (xs : List X) (a b c d e : X)
    → ((((xs ++ (a ∷ [])) ++ (b ∷ [])) ++ (c ∷ [])) ++ (d ∷ [])) ++ (e ∷ []) ≡ xs ++ (a ∷ b ∷ c ∷ d ∷ e ∷ [])
five [] a b c d e = refl
five (x ∷ xs) a b c d e = ap (λ rest. x ∷ rest) (five xs a b c d e)

pub add-requires : goal.add-requires
add-requires c = visible_printable c.authority.result.now c.authority.ensures.visible

pub add-requires-4 : goal.add-requires-4
add-requires-4 c = rw (c.as_bytes-2.ensures.value, c.in_ok-length.ensures.ok) (decimal_printable _ (search rules))

pub returns : goal.returns
returns c =
    rw (
      c.in_ok-add-4.ensures,
      c.in_ok-add-3.ensures,
      c.in_ok-add-2.ensures,
      c.in_ok-add.ensures,
      five,
      c.authority.ensures.text,
      c.as_bytes-2.ensures.value,
      c.in_ok-length.ensures.ok,
      c.as_bytes.ensures.bytes,
    )
    at c.add-5.ensures
