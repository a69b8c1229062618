use Rattle.desk.proofs.Words.{◌≡◌, ◌≤◌, length, map, take, vec_capacity, vec_len, filter_map}
use Rattle.desk.proofs.OpeningLaws.{limiter_in}
use Rattle.desk.proofs.opening.limiters_of.Given as goal

abbrev pub invariant-loop-name : goal.invariant-loop-name
invariant-loop-name l = record {
  items : l.limiters.items ≡ filter_map (limiter_in l.endpoints)
      (take l.name-index (map (λ e. e.name) l.endpoints.entries));
  len : vec_len l.limiters ≤ l.name-index;
  room : length l.endpoints.entries ≤ vec_capacity l.limiters;
}
