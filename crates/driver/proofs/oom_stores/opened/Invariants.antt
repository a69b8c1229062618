use Rattle.driver.proofs.oom_stores.opened.Given as goal

abbrev pub ghosts-desk_over : goal.ghosts-desk_over
ghosts-desk_over g a = record { name = a.blank.name; parts = a.blank.parts }
