use Rattle.tests_recovery.proofs.histories.after.Given as goal

abbrev pub ghosts-visit : goal.ghosts-visit
ghosts-visit g a = record { name = a.blank.name; parts = a.blank.parts }
