use Rattle.tests_intake.proofs.pages.walk_over.Given as goal

abbrev pub ghosts-begin : goal.ghosts-begin
ghosts-begin g a = record { name = a.blank.name; parts = a.blank.parts }
