use Rattle.drill.proofs.scripts.replay.Given as goal

abbrev pub ghosts-replay_with : goal.ghosts-replay_with
ghosts-replay_with g a = record { name = a.blank.name; parts = a.blank.parts }
