use Rattle.spool.proofs.vault.Vault.migrate.Goals as goal

pub returns-in-Ok-clause-migrated : goal.returns-in-Ok-clause-migrated
returns-in-Ok-clause-migrated g c clean own =
    let found = c.in-Ok.ensures.migrated clean own in
    record { rows = found.rows; stand = found.stand; holds = found.holds }
