use Rattle.tests_restarts.proofs.stops.stops_at.Given as goal

abbrev pub ghosts-stops : goal.ghosts-stops
ghosts-stops g a = record { name = a.blank.name; parts = a.blank.parts }
