use Rattle.tests_restarts.proofs.audits.closes_after.Given as goal

abbrev pub ghosts-closes : goal.ghosts-closes
ghosts-closes g a = record { name = a.blank.name; parts = a.blank.parts }
