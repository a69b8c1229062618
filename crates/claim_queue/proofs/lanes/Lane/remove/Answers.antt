use Rattle.std.proofs.Common.{◌∙◌, ap, arith, sym, subst, IsTrue}
use Rattle.std.specs.Prelude.{is_some}
use Rattle.std.specs.List.{list_any}
use Rattle.std.proofs.lemmas.List.Quantifiers.{all_pairs_remove}
use Rattle.claim_queue.specs.Lanes.{IsInOrder, comes_before, same_key}
use Rattle.claim_queue.proofs.KeyLaws.{found, removed}
use Rattle.claim_queue.proofs.lanes.Lane.remove.Goals as goal

pub returns-in-Some-clause-sound : goal.returns-in-Some-clause-sound
returns-in-Some-clause-sound c =
    let keys = c.args.self.now.keys.items in
    let place = c.place_of_key-place.result in
    let at = found keys place c.args.key c.requires.sound.order c.place_of_key-place.ensures.before
    c.place_of_key-place.ensures.behind c.requires.held in
    record {
      order = subst IsInOrder (sym c.in-Some.ensures.items)
          (all_pairs_remove (λ a b. IsTrue (comes_before a b)) keys place at.0 c.requires.sound.order);
      within = omega (arith, c.requires.sound.within, c.in-Some.ensures.len, c.remove.ensures.capacity);
    }

pub returns-in-Some-clause-keys : goal.returns-in-Some-clause-keys
returns-in-Some-clause-keys c =
    let keys = c.args.self.now.keys.items in
    let place = c.place_of_key-place.result in
    let at = found keys place c.args.key c.requires.sound.order c.place_of_key-place.ensures.before
    c.place_of_key-place.ensures.behind c.requires.held in
    λ other. ap (list_any (same_key other)) c.in-Some.ensures.items
    ∙ removed keys place c.args.key other c.requires.sound.order at.0 at.1

pub returns-in_default : goal.returns-in_default
returns-in_default c =
    let keys = c.args.self.now.keys.items in
    let place = c.place_of_key-place.result in
    let at = found keys place c.args.key c.requires.sound.order c.place_of_key-place.ensures.before
    c.place_of_key-place.ensures.behind c.requires.held in
    absurd (let clash = sym (ap is_some c.in_default.is)
    ∙ c.remove.ensures.variant.1 (omega (arith, at.0, c.args.self.now.keys.ok.0)) in cc)
