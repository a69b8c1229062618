use Rattle.std.proofs.Common.{refl}
use Rattle.spool.proofs.vault.Vault.create.Goals as goal

pub returns-in-Ok-clause-empty : goal.returns-in-Ok-clause-empty
returns-in-Ok-clause-empty g c clean begun =
    let rests = c.in-Ok.ensures.ends clean begun in
    (record { legal = refl; stands = rests.0; next = refl }, rests.1)
