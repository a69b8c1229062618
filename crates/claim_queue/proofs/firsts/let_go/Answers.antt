use Rattle.std.proofs.Common.{◌∙◌, ap, sym}
use Rattle.std.specs.Prelude.{position}
use Rattle.std.specs.List.{list_any}
use Rattle.claim_queue.specs.Queues.{same_pair}
use Rattle.claim_queue.proofs.FirstLaws.{found, is_found, lost}
use Rattle.claim_queue.proofs.firsts.let_go.Goals as goal

pub returns-in-Some-clause-pairs : goal.returns-in-Some-clause-pairs
returns-in-Some-clause-pairs c =
    let pairs = c.args.firsts.now.items in
    let at = found pairs c.in-Some.place c.args.pair
    (c.in-Some.ensures ∙ ap (position (same_pair c.args.pair)) c.deref.ensures.value) in
    λ other. ap (list_any (same_pair other)) c.remove.ensures.items
    ∙ lost pairs c.in-Some.place c.args.pair other c.requires.order at.0 at.1

pub returns-in_default-clause-pairs : goal.returns-in_default-clause-pairs
returns-in_default-clause-pairs c =
    absurd (is_found c.args.firsts.now.items c.args.pair c.requires.held (sym c.in_default.is ∙ c.position_of.ensures
    ∙ ap (position (same_pair c.args.pair)) c.deref.ensures.value))

pub returns-in_default-clause-len : goal.returns-in_default-clause-len
returns-in_default-clause-len c =
    absurd (is_found c.args.firsts.now.items c.args.pair c.requires.held (sym c.in_default.is ∙ c.position_of.ensures
    ∙ ap (position (same_pair c.args.pair)) c.deref.ensures.value))
