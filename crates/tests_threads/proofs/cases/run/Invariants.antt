use Rattle.tests_threads.proofs.cases.run.Given as goal

-- the log goes on from no history
abbrev pub ghosts-run_named : goal.ghosts-run_named
ghosts-run_named g a = record { table = a.new_log; is_base = λ _. ⊥; start = a.keeper.keeper.keeper.next; staged = a.new_staged }
