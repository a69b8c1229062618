use Rattle.desk.proofs.Words.{map, take, AllByRecursion, SameEndpoint}
use Rattle.desk.proofs.comparing.SettledView.are_endpoints_in.Given as goal

abbrev pub invariant-loop-name : goal.invariant-loop-name
invariant-loop-name l = record {
  same : AllByRecursion (SameEndpoint l.self l.other)
      (take l.name-index (map (λ e. e.name) l.self.endpoints.now.entries));
}
