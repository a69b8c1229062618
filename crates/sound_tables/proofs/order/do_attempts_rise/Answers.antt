use Rattle.std.proofs.Common.{ltb, rules}
use Rattle.std.proofs.lemmas.List.Sorted.{answers_always}
use Rattle.sound_rows.specs.declared.numbers.Attempt.{Attempt}
use Rattle.sound_tables.proofs.OrderLemmas.{rises_so}
use Rattle.sound_tables.proofs.order.do_attempts_rise.Goals as goal

pub returns : goal.returns
returns c = rises_so (λ (x : Attempt). x.seq) c.args.attempts.now c.is_sorted_by.result
    (c.is_sorted_by.ensures.cases (λ x y. ltb x.seq y.seq) (answers_always _ _ _ (λ f a r g h. search rules)))
