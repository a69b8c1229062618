use Rattle.tests_recovery.proofs.openings.check.Given as goal

abbrev pub ghosts-check_in : goal.ghosts-check_in
ghosts-check_in g a = record { name = a.blank.name; parts = a.blank.parts }
