use Rattle.std.proofs.Common.{◌∙◌, ap, sym, subst}
use Rattle.std.specs.Prelude.{if◌then◌else◌}
use Rattle.std.specs.List.{insert, list_any}
use Rattle.claim_queue.specs.Queues.{same_pair}
use Rattle.claim_queue.specs.Lanes.{AreInOrder}
use Rattle.claim_queue.proofs.FirstLaws.{order_entered}
use Rattle.claim_queue.proofs.KeyLaws.{any_insert}
use Rattle.claim_queue.proofs.firsts.hold.Goals as goal

pub returns-clause-order : goal.returns-clause-order
returns-clause-order c =
    let place = c.place_of-place.result in
    let pairs = c.args.firsts.now.items in
    let items = c.insert.ensures.items ∙ ap (λ b. if b then insert pairs place c.args.pair else pairs)
    (c.insert.ensures.succeeds c.requires.place) in
    subst AreInOrder (sym items)
    (order_entered pairs c.deref.result.now place c.args.pair c.key.result c.deref.ensures.value c.key.ensures
    c.requires.order c.requires.unheld c.place_of-place.ensures.bound c.place_of-place.ensures.point)

pub returns-clause-pairs : goal.returns-clause-pairs
returns-clause-pairs c =
    let place = c.place_of-place.result in
    let pairs = c.args.firsts.now.items in
    let items = c.insert.ensures.items ∙ ap (λ b. if b then insert pairs place c.args.pair else pairs)
    (c.insert.ensures.succeeds c.requires.place) in
    λ other. ap (list_any (same_pair other)) items ∙ any_insert (same_pair other) pairs place c.args.pair
