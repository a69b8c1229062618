use Rattle.desk.proofs.Words.{◌∙◌, ap, arith, map, subst, length, take_all}
use Rattle.endpoint_book.specs.declared.entry.Entry.{Entry}
use Rattle.desk.proofs.OpeningLaws.{AreTold, marked_all, told_next, told_places}
use Rattle.desk.proofs.opening.update_rooms.Goals as goal

pub loop-name-preserved : goal.loop-name-preserved
loop-name-preserved g c = record {
  pairs = λ pair. c.update_room.ensures.pairs pair ∙ c.in_ok-reserve.ensures.pairs pair
      ∙ c.loop-name.invariant.pairs pair;
  places = λ name. omega (
    arith,
    c.loop-name.invariant.places name,
    told_places c.loop-name.queue c.reserve.new.self c.update_room.new.queue _ _ c.in_ok-reserve.ensures.state
        c.update_room.ensures.state name,
  );
  told = told_next c.loop-name.queue c.reserve.new.self c.update_room.new.queue c.args.endpoints.now c.args.limiters.now
      c.names-name-items.result.now c.loop-name.name-index _ c.args.pool.now
      c.requires.none_out c.names-name-items.ensures.value c.loop-name-test.true c.name-item.is
      c.in_ok-reserve.ensures.state c.update_room.ensures.state c.loop-name.invariant.told;
}

pub returns-clause-lanes : goal.returns-clause-lanes
returns-clause-lanes g c =
    let book = c.args.endpoints.now in
    marked_all c.loop-name.queue book c.args.limiters.now c.requires.limited
    (subst (λ done. AreTold c.loop-name.queue book c.args.limiters.now done)
    (take_all c.loop-name.name-index (map (λ (e : Entry). e.name) book.entries)
    (omega (arith, c.loop-name-test.false, ap length c.names-name-items.ensures.value))) c.loop-name.invariant.told)
