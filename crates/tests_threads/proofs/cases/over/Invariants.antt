use Rattle.tests_threads.proofs.cases.over.Given as goal

abbrev pub ghosts-open : goal.ghosts-open
ghosts-open g a = record { name = a.blank.name; parts = a.blank.parts }
