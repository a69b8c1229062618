use Rattle.driver.proofs.oom_desks.share.Given as goal

-- the log goes on from no history
abbrev pub ghosts-share_named : goal.ghosts-share_named
ghosts-share_named g a = record { table = a.new_log; is_base = λ _. ⊥; start = 0; staged = a.new_staged }
