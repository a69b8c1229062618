use Rattle.tests_restarts.proofs.migrations.check_left.Given as goal

abbrev pub ghosts-checked : goal.ghosts-checked
ghosts-checked g a = record { name = a.blank.name; parts = a.blank.parts }
