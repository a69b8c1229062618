use Rattle.std.proofs.Common.{ltb, rules}
use Rattle.std.proofs.lemmas.List.Sorted.{answers_always}
use Rattle.sound_rows.specs.declared.numbers.Endpoint.{Endpoint}
use Rattle.sound_tables.proofs.OrderLemmas.{rises_so}
use Rattle.sound_tables.proofs.order.do_puts_rise.Goals as goal

pub returns : goal.returns
returns c = rises_so (λ (x : Endpoint). x.put) c.args.endpoints.now c.is_sorted_by.result
    (c.is_sorted_by.ensures.cases (λ x y. ltb x.put y.put) (answers_always _ _ _ (λ f a r g h. search rules)))
