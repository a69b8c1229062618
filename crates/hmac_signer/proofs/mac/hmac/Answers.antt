use Rattle.std.proofs.Common.{append-nil}
use Rattle.hmac_signer.specs.Hmac.{hmac}
use Rattle.hmac_signer.proofs.mac.hmac.Goals as goal

pub returns : goal.returns
unfolding hmac
returns c = cc (append-nil c.pad_digest-inner.result)
