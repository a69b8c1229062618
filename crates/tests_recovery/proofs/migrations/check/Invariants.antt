use Rattle.tests_recovery.proofs.migrations.check.Given as goal

abbrev pub ghosts-check_desk : goal.ghosts-check_desk
ghosts-check_desk g a = record { name = a.blank.name; parts = a.blank.parts }
