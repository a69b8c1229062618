use Rattle.driver.proofs.running.told_over.Given as goal

abbrev pub ghosts-told_of : goal.ghosts-told_of
ghosts-told_of g a = record { name = a.blank.name; parts = a.blank.parts }
