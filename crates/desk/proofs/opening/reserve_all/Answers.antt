use Rattle.desk.proofs.Words.{◌≡◌, ◌+◌, ◌∙◌, true, arith, ap, sym, subst, take, list_all, QueueValue, has_room_in}
use Rattle.desk.proofs.Words.{is_held}
use Rattle.desk.proofs.OpeningLaws.{all_more, has_all, no_row_there, places_all}
use Rattle.desk.proofs.RequestTies.{room_reserved}
use Rattle.desk.proofs.opening.reserve_all.Goals as goal
use Rattle.desk.proofs.opening.reserve_all.Goals.{in-Some+in_ok-reserve, in_default}

pub loop-place-preserved : goal.loop-place-preserved
loop-place-preserved c =
    let book = c.args.deliveries.now in
    let was = c.loop-place.invariant in
    elim c.match-row_at.branch [
      | in-Some+in_ok-reserve w ↦ record {
        pairs = λ pair. ap (λ (q : QueueValue). is_held q pair) w.queue-is ∙ w.in_ok-reserve.ensures.pairs pair
            ∙ was.pairs pair;
        rooms = λ name. ap (λ (q : QueueValue). has_room_in q.states name) w.queue-is
            ∙ room_reserved c.loop-place.queue w.reserve.new.self _ name _ w.in_ok-reserve.ensures.state
            ∙ was.rooms name;
        places = subst (λ (q : QueueValue). list_all (has_all book q) (take (c.loop-place.place + 1) book.entries)
            ≡ true) (sym w.queue-is)
            (all_more c.loop-place.queue w.reserve.new.self book c.loop-place.place w.pending-pending.result
            w.in-Some.row w.in-Some.ensures w.pending-pending.ensures.value
            w.in_ok-reserve.ensures.state was.places);
      }
      | in_default w ↦ absurd (no_row_there book c.loop-place.place c.len-place-end.ensures.in_step c.requires.settled
          (omega (arith, c.loop-place-test.true, c.len-place-end.ensures.count)) w.in_default.ensures)
    ]

pub returns-clause-places : goal.returns-clause-places
returns-clause-places c =
    places_all c.loop-place.queue c.args.deliveries.now c.loop-place.place
    (omega (arith, c.loop-place-test.false, c.len-place-end.ensures)) c.loop-place.invariant.places
