use Rattle.tests_serve.proofs.confirmed.what_is_confirmed_is_in_the_log.Given as goal

abbrev pub ghosts-over : goal.ghosts-over
ghosts-over g a = record { name = a.blank.name; parts = a.blank.parts }
