use Rattle.spool.proofs.vault.Vault.adopt.Goals as goal

pub returns-in-Ok-clause-adopted : goal.returns-in-Ok-clause-adopted
returns-in-Ok-clause-adopted g c clean schema =
    let found = c.in-Ok.ensures.adopted clean schema in
    record { rows = found.rows; stand = found.stand; holds = found.holds }
