use Rattle.desk.proofs.Words.{refl, arith, subst, find, AllByRecursion, take_all, Entry, is_settled_as, SameEvent}
use Rattle.desk.proofs.ComparingLaws.{IfSettled, event_among, event_next, event_passed, found_known}
use Rattle.desk.proofs.comparing.SettledView.are_events_in.Goals as goal
use Rattle.desk.proofs.comparing.SettledView.are_events_in.Goals.{in-Some+else-not-is_event_in, in_default}

pub loop-place-preserved : goal.loop-place-preserved
loop-place-preserved c =
    let book = c.args.self.now.deliveries.now in
    elim c.match-row_at.branch [
      | in-Some+else-not-is_event_in w ↦ record {
        same = event_next (SameEvent c.args.self.now c.args.other.now) book.settled_seq book.entries c.loop-place.place
            w.in-Some.row
            w.in-Some.ensures c.loop-place.invariant.same (w.if-not-is_event_in.ensures.0 refl);
      }
      | in_default w ↦ record {
        same = event_passed (SameEvent c.args.self.now c.args.other.now) book.settled_seq book.entries
            c.loop-place.place
            (omega (arith, c.loop-place-test.true, c.len-place-end.ensures.count)) w.in_default.ensures
            c.loop-place.invariant.same;
      }
    ]

pub returns-clause-same : goal.returns-clause-same
returns-clause-same c = λ done name id known.
    let book = c.args.self.now.deliveries.now in
    event_among (SameEvent c.args.self.now c.args.other.now) book.settled_seq book.entries name id
    (subst (AllByRecursion (IfSettled book.settled_seq (SameEvent c.args.self.now c.args.other.now)))
    (take_all c.loop-place.place book.entries (omega (arith, c.loop-place-test.false, c.len-place-end.ensures.count)))
    c.loop-place.invariant.same)
    (found_known (λ (e : Entry). e.seq) (find (is_settled_as name id book.settled_seq) book.entries) known)
