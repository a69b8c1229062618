use Rattle.tests_restarts.proofs.doubts.end_after.Given as goal

abbrev pub ghosts-end_of : goal.ghosts-end_of
ghosts-end_of g a = record { name = a.blank.name; parts = a.blank.parts }
