use Rattle.driver.proofs.relay.answer_asks.Given as goal

abbrev pub ghosts-answer_over : goal.ghosts-answer_over
ghosts-answer_over g a = record { name = a.blank.name; parts = a.blank.parts }
