use Rattle.driver.proofs.opening.opened_at.Given as goal

abbrev pub ghosts-opened_file : goal.ghosts-opened_file
ghosts-opened_file a = record { name = a.blank.name; parts = a.blank.parts }
