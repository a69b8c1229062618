use Rattle.bench.proofs.reopening.reopened.Given as goal

abbrev pub ghosts-seated : goal.ghosts-seated
ghosts-seated g a = record { name = a.blank.name; parts = a.blank.parts }
