use Rattle.std.proofs.Common.{◌≡◌, ◌≤◌, ◌==◌, true, length, take}
use Rattle.std.specs.List.{enumerate_from, list_all}
use Rattle.sound_tables.specs.Places.{places_of}
use Rattle.sound_tables.proofs.places.has_places.Given as goal

abbrev pub invariant-loop-secret : goal.invariant-loop-secret
invariant-loop-secret l = record {
  counted : l.next ≡ length (places_of l.put (take l.secret-index l.secrets));
  within : l.next ≤ l.secret-index;
  placed : list_all (λ p. p.1 == p.0) (enumerate_from 0 (places_of l.put (take l.secret-index l.secrets))) ≡ true;
}
