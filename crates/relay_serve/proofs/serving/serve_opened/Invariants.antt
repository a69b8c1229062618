use Rattle.std.specs.Prelude.{◌≡◌, length}
use Rattle.desk.specs.Desks.{StandsFor}
use Rattle.desk.specs.World.{World, settled_records}
use Rattle.relay_serve.proofs.serving.serve_opened.Given as goal

-- the log goes on from whatever the desk has settled
abbrev pub ghosts-serve_named : goal.ghosts-serve_named
ghosts-serve_named g a = record {
  table = a.new_log;
  is_base = λ base. (length base ≡ a.vault.next) × ((w : World) × StandsFor a.desk w × (settled_records w ≡ base));
  start = a.vault.next;
  staged = a.new_staged;
}
