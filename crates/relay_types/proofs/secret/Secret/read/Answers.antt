use Rattle.std.proofs.Common.{◌∙◌, List, ℕ, Option, Some, None, sym, ap, subst, IfOk, IfSome}
use Rattle.std.specs.Option.{ok_or}
use Rattle.relay_types.specs.SecretText.{IsPaddedOrNot, ReadsSecret}
use Rattle.relay_types.specs.declared.fault.ReadFault.TheVariants.{BadSecret}
use Rattle.relay_types.proofs.SecretLaws.{IsBase64Part, base64_part, base64_reads, reads_secret}
use Rattle.relay_types.proofs.secret.Secret.read.Goals as goal

value : (text encoded : List ℕ) (r : Option (List ℕ)) → IsBase64Part text encoded
    → IfSome r (λ secret. IsPaddedOrNot encoded secret) → IfOk (ok_or r BadSecret) (λ secret. ReadsSecret text secret)
value text encoded None part h = tt
value text encoded (Some secret) part h = reads_secret text encoded secret part h

pub returns-clause-value : goal.returns-clause-value
returns-clause-value c =
    let part = base64_part c.strip_prefix.result c.args.text c.unwrap_or-encoded.result c.strip_prefix.ensures.cases
    c.unwrap_or-encoded.ensures in
    subst (λ r. IfOk r (λ secret. ReadsSecret c.args.text.now secret)) (sym c.ok_or.ensures.value)
    (value c.args.text.now c.unwrap_or-encoded.result.now c.read_base64.result part c.read_base64.ensures.value)

pub returns-clause-each : goal.returns-clause-each
returns-clause-each c = λ secret h.
    let part = base64_part c.strip_prefix.result c.args.text c.unwrap_or-encoded.result c.strip_prefix.ensures.cases
    c.unwrap_or-encoded.ensures in
    c.ok_or.ensures.value ∙ ap (λ o. ok_or o BadSecret)
    (c.read_base64.ensures.each secret (base64_reads c.args.text.now c.unwrap_or-encoded.result.now secret part h))
