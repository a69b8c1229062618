use Rattle.tests_desk.proofs.walk.session.Given as goal

abbrev pub ghosts-open : goal.ghosts-open
ghosts-open g a = record { name = a.blank.name; parts = a.blank.parts }
