use Rattle.tests_serve.proofs.requests.worked_requests_are_answered_and_the_event_is_posted.Given as goal

abbrev pub ghosts-over : goal.ghosts-over
ghosts-over g a = record { name = a.blank.name; parts = a.blank.parts }
