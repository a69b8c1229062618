use Rattle.tests_serve.proofs.audits.a_desk_of_another_store_is_a_mismatch_at_the_end.Given as goal

abbrev pub ghosts-over : goal.ghosts-over
ghosts-over g a = record { name = a.blank.name; parts = a.blank.parts }
