use Rattle.std.proofs.Common.{rules, arith, ◌∷◌, [], length, length-append, ap}
use Rattle.drill.specs.Memory.{events_of}
use Rattle.drill.proofs.PreparedLaws.{prepared_more, tickets_more}
use Rattle.drill.proofs.ShownLaws.{events_more}
use Rattle.drill.proofs.runs.make_calls.Goals as goal

pub loop-call-preserved : goal.loop-call-preserved
loop-call-preserved g c = record {
  core = c.take-reply.ensures.core;
  runs = λ clean. rw (c.push_reserved.ensures.items, prepared_more c.loop-call.yielded c.in-Some.call)
      (events_more g.S.Store c.args.core.now c.loop-call.core c.take-reply.new.self c.args.vault.now c.loop-call.vault
      c.take-reply.new.vault (events_of c.loop-call.yielded) c.loop-call.replies.items c.in-Some.call.event
      c.take-reply.result (c.loop-call.invariant.runs (c.take-reply.ensures.clean clean))
      (c.take-reply.ensures.answers clean));
  clean = λ clean. c.loop-call.invariant.clean (c.take-reply.ensures.clean clean);
  told = omega (
    arith,
    ap length c.push_reserved.ensures.items,
    length-append c.loop-call.replies.items (c.take-reply.result ∷ []),
    length-append c.loop-call.yielded (c.in-Some.call ∷ []),
    c.loop-call.invariant.told,
  );
  places = search rules;
  tickets = omega (
    arith,
    tickets_more c.loop-call.yielded c.in-Some.call,
    c.loop-call.invariant.tickets,
    c.take-reply.ensures.room.tickets,
  );
  permits = omega (
    arith,
    length-append c.loop-call.yielded (c.in-Some.call ∷ []),
    c.loop-call.invariant.permits,
    c.take-reply.ensures.room.permits,
    c.take-reply.ensures.room.capacity,
  );
}
