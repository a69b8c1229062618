use Rattle.bench.proofs.working.work_over.Given as goal

abbrev pub ghosts-work_with : goal.ghosts-work_with
ghosts-work_with g a = record { name = a.blank.name; parts = a.blank.parts }
