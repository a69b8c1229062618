use Rattle.tests_restarts.proofs.audits.left_by.Given as goal

abbrev pub ghosts-left : goal.ghosts-left
ghosts-left g a = record { name = a.blank.name; parts = a.blank.parts }
