use Rattle.std.proofs.Common.{◌≡◌, ℕ, List, Result, Ok, Err, String, IfOk, IsTrue}
use Rattle.std.specs.List.{list_all}
use Rattle.std.specs.String.{string_bytes}
use Rattle.relay_types.specs.Values.{is_between}
use Rattle.hmac_signer.specs.Signature.{signatures}
use Rattle.hmac_signer.proofs.Printable.{signatures_printable}
use Rattle.hmac_signer.proofs.header.signature_header.Goals as goal

printable_at_ok : {Z E : Type 0} (r : Result (String Z) E) (content : List ℕ) (secrets : List (List ℕ))
    → IfOk r (λ text. string_bytes text ≡ signatures content secrets)
    → IfOk r (λ text. IsTrue (list_all (is_between 32 126) (string_bytes text)))
printable_at_ok (Ok text) content secrets e = rw e (signatures_printable content secrets)
printable_at_ok (Err fault) content secrets e = e

pub returns-clause-printable : goal.returns-clause-printable
returns-clause-printable c = printable_at_ok c.signatures.result _ c.args.secrets.now c.signatures.ensures
