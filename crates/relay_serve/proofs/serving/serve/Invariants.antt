use Rattle.relay_serve.proofs.serving.serve.Given as goal

abbrev pub ghosts-open_and_serve : goal.ghosts-open_and_serve
ghosts-open_and_serve g a = record { name = a.blank.name; parts = a.blank.parts }
