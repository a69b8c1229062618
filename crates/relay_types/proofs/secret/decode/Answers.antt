use Rattle.std.proofs.Common.{◌≡◌, ◌↔◌, ℕ, ◌++◌, ◌∙◌, List, length, take, slice_index, refl, sym, ap, subst, arith}
use Rattle.std.proofs.Common.{IsTrue, IsOk, IfOk, IfSome, Fits, w8}
use Rattle.std.specs.Result.{result_ok}
use Rattle.std.specs.declared.option.Option.TheVariants.{Some}
use Rattle.std.specs.declared.result.Result.{Result}
use Rattle.std.specs.declared.result.Result.TheVariants.{Ok, Err}
use Rattle.std.proofs.lemmas.List.{take_at}
use Rattle.base64.specs.GeneralPurpose.{IsStrict, decode_slice_of, decoded_bytes_of, encode_of}
use Rattle.base64.specs.declared.engine.general_purpose.GeneralPurpose.{GeneralPurpose}
use Rattle.relay_types.specs.Values.{is_secret}
use Rattle.relay_types.specs.declared.fault.ReadFault.{ReadFault}
use Rattle.relay_types.proofs.Base64Laws.{decodes_encoding, encoding_decodes}
use Rattle.relay_types.proofs.SecretLaws.{most_secret, secret_bytes}
use Rattle.relay_types.proofs.secret.decode.Goals as goal

-- the text of a secret decodes
known : (e : GeneralPurpose) (text secret : List ℕ) → IsStrict e → IsTrue (is_secret secret) → text ≡ encode_of e secret
    → (decode_slice_of e text 64 ≡ Ok (length secret)) × (decoded_bytes_of e text ≡ secret)
known e text secret strict h same =
    subst (λ t. (decode_slice_of e t 64 ≡ Ok (length secret)) × (decoded_bytes_of e t ≡ secret)) (sym same)
    (encoding_decodes e secret 64 strict (secret_bytes secret h) (most_secret secret h))

-- what was written is what the text encodes
written : (e : GeneralPurpose) (text rest new bytes : List ℕ) (len : ℕ) → IsStrict e
    → ((i : ℕ) → Fits w8 (slice_index text i)) → Ok len ≡ decode_slice_of e text 64
    → new ≡ decoded_bytes_of e text ++ rest → bytes ≡ take len new → (bytes ≡ decoded_bytes_of e text)
    × (text ≡ encode_of e bytes) × (length bytes ≡ len)
written e text rest new bytes len strict fits ok is taken =
    let parts = decodes_encoding e text 64 len strict (λ i. let f = fits i in omega arith) (sym ok) in
    let same : bytes ≡ decoded_bytes_of e text = taken ∙ ap (take len) is ∙ take_at (decoded_bytes_of e text) rest len
    parts.1 in
    (same, parts.0 ∙ ap (encode_of e) (sym same), ap length same ∙ parts.1)

-- what `Secret::of` makes of the bytes that the text encodes
the_secret : (e : GeneralPurpose) (text bytes : List ℕ) (r : Result (List ℕ) ReadFault)
    → (IsOk r ↔ IsTrue (is_secret bytes)) → IfOk r (λ secret. secret ≡ bytes)
    → text ≡ encode_of e bytes
    → IfSome (result_ok r) (λ secret. IsTrue (is_secret secret) × (text ≡ encode_of e secret))
the_secret e text bytes (Ok secret) valid same is =
    (subst (λ b. IsTrue (is_secret b)) (sym same) (valid.0 refl), is ∙ ap (encode_of e) (sym same))
the_secret e text bytes (Err fault) valid same is = tt

each_secret : (bytes secret : List ℕ) (r : Result (List ℕ) ReadFault) → (IsOk r ↔ IsTrue (is_secret bytes))
    → IfOk r (λ secret. secret ≡ bytes)
    → bytes ≡ secret → IsTrue (is_secret secret) → result_ok r ≡ Some secret
each_secret bytes secret (Ok s) valid same is h = ap Some (same ∙ is)
each_secret bytes secret (Err fault) valid same is h = cc (valid.1 (subst (λ b. IsTrue (is_secret b)) (sym is) h))

pub returns-in_default-clause-each : goal.returns-in_default-clause-each
returns-in_default-clause-each c = λ secret h same.
    let found = known c.args.engine.now c.args.text.now secret c.requires h same in
    absurd (c.in_default.not-Ok (length secret) (c.decode_slice.ensures.value ∙ found.0))

pub slice_bounds-bytes-end : goal.slice_bounds-bytes-end
slice_bounds-bytes-end c =
    let parts = decodes_encoding c.args.engine.now c.args.text.now 64 c.in-Ok.len c.requires
    (λ i. let f = c.type_inv.text i in omega arith) (sym c.in-Ok.ensures.value) in
    omega (arith, c.decode_slice.auto.output)

pub slice_bounds-of-end : goal.slice_bounds-of-end
slice_bounds-of-end c =
    let parts = written c.args.engine.now c.args.text.now _ c.decode_slice.new.output _ c.in-Ok.len c.requires
    c.type_inv.text c.in-Ok.ensures.value c.in-Ok.ensures.written refl in
    sym parts.2

pub returns-clause-value : goal.returns-clause-value
returns-clause-value c =
    let parts = written c.args.engine.now c.args.text.now _ c.decode_slice.new.output _ c.in-Ok.len c.requires
    c.type_inv.text c.in-Ok.ensures.value c.in-Ok.ensures.written refl in
    rw c.ok.ensures.value (the_secret c.args.engine.now c.args.text.now _ c.of.result c.of.ensures.valid
    c.of.ensures.value parts.1)

pub returns-clause-each : goal.returns-clause-each
returns-clause-each c = λ secret h same.
    let parts = written c.args.engine.now c.args.text.now _ c.decode_slice.new.output _ c.in-Ok.len c.requires
    c.type_inv.text c.in-Ok.ensures.value c.in-Ok.ensures.written refl in
    let found = known c.args.engine.now c.args.text.now secret c.requires h same in
    c.ok.ensures.value ∙ each_secret _ secret c.of.result c.of.ensures.valid c.of.ensures.value (parts.0 ∙ found.1) h
