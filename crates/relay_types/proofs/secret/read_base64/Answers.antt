use Rattle.std.proofs.Common.{◌∙◌, sym, inl, inr}
use Rattle.std.proofs.lemmas.Option.{IfSome_then}
use Rattle.relay_types.proofs.SecretLaws.{no_padding}
use Rattle.relay_types.proofs.secret.read_base64.Goals as goal

pub returns-in-Some-clause-value : goal.returns-in-Some-clause-value
returns-in-Some-clause-value c = let h = c.in-Some.ensures.value in (h.0, inl h.1)

pub returns-in-Some-clause-each : goal.returns-in-Some-clause-each
returns-in-Some-clause-each c = λ secret h. elim h.1 [
  | inl e ↦ c.in-Some.ensures.each secret h.0 e
  | inr e ↦ c.in-Some.ensures.each secret h.0
      (e ∙ no_padding c.in-Some.secret secret (sym c.in-Some.ensures.value.1 ∙ e))
]

pub returns-in-None-clause-value : goal.returns-in-None-clause-value
returns-in-None-clause-value c = IfSome_then c.decode-in-None.result c.decode-in-None.ensures.value
    (λ secret h. (h.0, inr h.1))

pub returns-in-None-clause-each : goal.returns-in-None-clause-each
returns-in-None-clause-each c = λ secret h. elim h.1 [
  | inl e ↦ cc (c.in-None.ensures.each secret h.0 e)
  | inr e ↦ c.decode-in-None.ensures.each secret h.0 e
]
