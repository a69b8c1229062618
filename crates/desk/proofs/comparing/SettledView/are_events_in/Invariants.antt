use Rattle.desk.proofs.Words.{take, AllByRecursion, SameEvent}
use Rattle.desk.proofs.ComparingLaws.{IfSettled}
use Rattle.desk.proofs.comparing.SettledView.are_events_in.Given as goal

abbrev pub invariant-loop-place : goal.invariant-loop-place
invariant-loop-place l = record {
  same : AllByRecursion (IfSettled l.self.deliveries.now.settled_seq (SameEvent l.self l.other))
      (take l.place l.self.deliveries.now.entries);
}
