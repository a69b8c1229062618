use Rattle.driver.proofs.oom_makes.MakesRepeatableCall.attempt.Given as goal

abbrev pub ghosts-new_desk : goal.ghosts-new_desk
ghosts-new_desk a = record { name = a.blank.name; parts = a.blank.parts }

abbrev pub ghosts-new_pool : goal.ghosts-new_pool
ghosts-new_pool a = record { name = a.blank.name; parts = a.blank.parts }
