use Rattle.driver.proofs.oom_makes.new_log.Given as goal

-- the log goes on from no history
abbrev pub ghosts-end_log : goal.ghosts-end_log
ghosts-end_log a = record { table = a.new_log; is_base = λ _. ⊥; start = 0; staged = a.new_log }
