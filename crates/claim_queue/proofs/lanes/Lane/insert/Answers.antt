use Rattle.std.proofs.Common.{◌∙◌, ap, arith, sym, subst}
use Rattle.std.specs.List.{list_any}
use Rattle.claim_queue.specs.Lanes.{IsInOrder, same_key}
use Rattle.claim_queue.proofs.KeyLaws.{any_insert, order_inserted}
use Rattle.claim_queue.proofs.lanes.Lane.insert.Goals as goal

pub returns-in-Ok-clause-sound : goal.returns-in-Ok-clause-sound
returns-in-Ok-clause-sound c =
    let keys = c.args.self.now.keys.items in
    record {
      order = subst IsInOrder (sym c.in-Ok.ensures.items)
          (order_inserted keys c.place_of_key-place.result c.args.key c.requires.sound.order
          c.place_of_key-place.ensures.bound
          c.place_of_key-place.ensures.before c.place_of_key-place.ensures.behind c.requires.unheld);
      within = omega (arith, c.requires.place, c.requires.sound.within, c.in-Ok.ensures.len, c.insert.ensures.capacity);
    }

pub returns-in-Ok-clause-keys : goal.returns-in-Ok-clause-keys
returns-in-Ok-clause-keys c =
    λ other. ap (list_any (same_key other)) c.in-Ok.ensures.items
    ∙ any_insert (same_key other) c.args.self.now.keys.items c.place_of_key-place.result c.args.key
