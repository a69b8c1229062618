use Rattle.desk.proofs.Words.{◌≡◌, ◌+◌, ◌-◌, ◌∙◌, arith, drop, refl, sym, ap, subst, Settles, HasWaiting, BookValue}
use Rattle.desk.proofs.SettleLaws.{names_further, next_within, none_left, one_further, settles_more, settles_none}
use Rattle.desk.proofs.queue_sync.settle_to.Goals as goal

pub loop-init : goal.loop-init
loop-init c = record {
  number = sym c.settled_seq-counter.ensures.value;
  within = omega (arith, c.settled_seq-counter.ensures.value, c.requires.above);
  next = omega (
    arith,
    c.settled_seq-counter.ensures.value,
    next_within c.args.queue.now c.args.deliveries.now
        c.requires.queued,
  );
  queued = λ live queued. queued;
  rooms = record { reserved = λ name. refl; rooms = λ name. refl };
  stands = settles_none c.args.deliveries.now c.settled_seq-counter.result c.settled_seq-counter.ensures.value;
  above = omega (arith, c.settled_seq-counter.ensures.value);
  waits = λ records waits. none_left c.args.deliveries.now c.args.deliveries.now.settled_seq
      c.settled_seq-counter.result records c.settled_seq-counter.ensures.value waits;
  names = λ delivery there. refl;
}

pub settle_next-requires : goal.settle_next-requires
settle_next-requires c = record {
  room = omega (arith, c.loop.invariant.number, c.loop-test.true, c.requires.within);
  queued = (c.requires.queued.0, c.loop.invariant.queued c.requires.queued.0 c.requires.queued.1);
}

pub loop-preserved : goal.loop-preserved
loop-preserved c =
    let was = c.loop.invariant in
    let made = c.settle_next.ensures in
    record {
      number = ap (λ (b : BookValue). b.settled_seq) made.value ∙ ap (λ n. n + 1) was.number;
      within = omega (arith, c.loop-test.true);
      next = omega (arith, ap (λ (b : BookValue). b.next_seq) made.value, was.number, was.next);
      queued = λ live queued. made.queued live (was.queued live queued);
      rooms = record {
        reserved = λ name. made.rooms.reserved name ∙ was.rooms.reserved name;
        rooms =
            λ name. made.rooms.rooms name ∙ was.rooms.rooms name;
      };
      stands = settles_more c.args.deliveries.now c.loop.deliveries c.settle_next.new.deliveries c.loop.counter
          c.loop.deliveries.settled_seq was.number was.stands made.stands;
      above = omega (arith, was.above);
      waits = λ records waits. one_further c.settle_next.new.deliveries c.args.deliveries.now.settled_seq c.loop.counter
          records was.above (made.waits _ (was.waits records waits));
      names = names_further c.args.deliveries.now c.loop.deliveries c.settle_next.new.deliveries was.names made.names;
    }

pub returns-clause-stands : goal.returns-clause-stands
returns-clause-stands c =
    let last : c.loop.counter ≡ c.args.seq = omega (arith, c.loop-test.false, c.loop.invariant.within) in
    subst (λ n. Settles c.args.deliveries.now n c.loop.deliveries) last c.loop.invariant.stands

pub returns-clause-waits : goal.returns-clause-waits
returns-clause-waits c = λ records waits.
    let last : c.loop.counter ≡ c.args.seq = omega (arith, c.loop-test.false, c.loop.invariant.within) in
    subst (λ n. HasWaiting c.loop.deliveries (drop (n - c.args.deliveries.now.settled_seq) records)) last
    (c.loop.invariant.waits records waits)
