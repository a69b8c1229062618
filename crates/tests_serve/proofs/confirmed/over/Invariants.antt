use Rattle.tests_serve.proofs.confirmed.over.Given as goal

-- the log goes on from no history
abbrev pub ghosts-run : goal.ghosts-run
ghosts-run g a = record { table = a.new_log; is_base = λ _. ⊥; start = a.vault.next; staged = a.new_staged }
