use Rattle.tests_values.proofs.pool.walk_through.Given as goal

abbrev pub ghosts-walk : goal.ghosts-walk
ghosts-walk g a = record { name = a.blank.name; parts = a.blank.parts }
