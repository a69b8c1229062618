use Rattle.desk.proofs.Words.{◌+◌, ◌∙◌, arith, ap, sym, subst, take, QueueValue, has_room_in, is_reserved, HasPlaces}
use Rattle.desk.proofs.OpeningLaws.{HoldsAmong, held_more, new_among, nothing_there}
use Rattle.desk.proofs.TieLaws.{holds_rooms}
use Rattle.desk.proofs.opening.enqueue_all.Goals as goal
use Rattle.desk.proofs.opening.enqueue_all.Goals.{in-Some, in_default}

pub enqueue-requires-clause-unheld : goal.enqueue-requires-clause-unheld
enqueue-requires-clause-unheld c =
    new_among c.loop-place.queue c.args.deliveries.now c.loop-place.place c.in-Some.delivery c.in-Some.ensures.once
    c.in-Some.ensures.value c.loop-place.invariant.held

pub loop-place-preserved : goal.loop-place-preserved
loop-place-preserved c =
    let book = c.args.deliveries.now in
    let was = c.loop-place.invariant in
    elim c.match-delivery.branch [
      | in-Some w ↦ let rooms = holds_rooms c.loop-place.queue w.enqueue.new.queue _ w.enqueue.ensures.held in record {
        held = subst (λ (q : QueueValue). HoldsAmong q book (take (c.loop-place.place + 1) book.entries))
            (sym w.queue-is)
            (held_more c.loop-place.queue w.enqueue.new.queue book c.loop-place.place w.in-Some.delivery
            w.in-Some.ensures.once w.in-Some.ensures.value was.held w.enqueue.ensures.held);
        places = subst (λ (q : QueueValue). HasPlaces q book) (sym w.queue-is) w.enqueue.ensures.places;
        rooms = record {
          reserved = λ name. ap (λ (q : QueueValue). is_reserved q name) w.queue-is ∙ rooms.reserved name
              ∙ was.rooms.reserved name;
          rooms = λ name. ap (λ (q : QueueValue). has_room_in q.states name) w.queue-is ∙ rooms.rooms name
              ∙ was.rooms.rooms name;
        };
      }
      | in_default w ↦ absurd (nothing_there (λ e. e.seq) book.entries c.loop-place.place
          (omega (arith, c.loop-place-test.true, c.len-place-end.ensures)) w.in_default.ensures.value)
    ]
