use Rattle.tests_serve.proofs.outgoing.request_to.Given as goal

abbrev pub ghosts-request_over : goal.ghosts-request_over
ghosts-request_over g a = record { name = a.blank.name; parts = a.blank.parts }
