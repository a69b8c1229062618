use Rattle.tests_restarts.proofs.audits.found_in_memory.Given as goal

abbrev pub ghosts-found_on : goal.ghosts-found_on
ghosts-found_on g a = record { name = a.blank.name; parts = a.blank.parts }
