use Rattle.std.proofs.Common.{append_assoc}
use Rattle.hmac_signer.specs.Signature.{signature}
use Rattle.hmac_signer.proofs.header.add_signature.Goals as goal

pub returns : goal.returns
unfolding signature
returns c = rw (c.in_ok-push_str.ensures.bytes, append_assoc, c.hmac.ensures) at c.encode_string.ensures.ok
