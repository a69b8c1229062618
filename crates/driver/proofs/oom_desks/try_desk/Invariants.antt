use Rattle.driver.proofs.oom_desks.try_desk.Given as goal

abbrev pub ghosts-with_blank : goal.ghosts-with_blank
ghosts-with_blank g a = record { name = a.blank.name; parts = a.blank.parts }
