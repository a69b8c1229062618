use Rattle.tool_commands.proofs.check_command.check_store.Given as goal

abbrev pub ghosts-count : goal.ghosts-count
ghosts-count g a = record { name = a.blank.name; parts = a.blank.parts }
