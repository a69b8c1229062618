use Rattle.std.proofs.Common.{◌+◌, ◌++◌, ◌∷◌, [], ◌∙◌, ap, arith, sym}
use Rattle.delivery_book.specs.Entries.{new_entry}
use Rattle.delivery_book.proofs.EventEntries.{made-more}
use Rattle.delivery_book.proofs.events.events_of.Goals as goal

pub loop-name-preserved : goal.loop-name-preserved
loop-name-preserved c =
    let a = c.args in
    let had = c.loop-name.invariant in
    record {
      items =
          c.push_reserved.ensures.items
          ∙ (λ t. had.items t ++ (c.new-in-loop-name.ensures
          ∙ (λ u. new_entry (a.seq + (c.len.ensures ∙ had.len) u) (c.in_ok-name.ensures u) (c.in_ok-id.ensures u)
          (c.in_ok-body.ensures u) a.at)) t ∷ [])
          ∙ sym (made-more a.id.now a.body.now a.at a.seq a.names.now c.loop-name.name-index c.name-item.result
          c.loop-name-test.true c.name-item.is);
      len = c.push_reserved.ensures.len ∙ ap (λ n. n + 1) had.len;
      room = omega (arith, c.push_reserved.ensures.capacity, had.room);
    }
