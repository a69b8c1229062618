use Rattle.std.proofs.Common.{int_lt, rules}
use Rattle.std.proofs.lemmas.List.Sorted.{answers_always}
use Rattle.sound_tables.specs.declared.topic.Topic.{Topic}
use Rattle.sound_tables.proofs.OrderLemmas.{rowids_so}
use Rattle.sound_tables.proofs.order.do_topics_rise.Goals as goal

pub returns : goal.returns
returns c =
    rowids_so (λ (t : Topic). t.rowid) c.args.topics.now c.is_sorted_by.result
    (c.is_sorted_by.ensures.cases (λ s t. int_lt s.rowid t.rowid)
    (answers_always _ _ _ (λ f a r g h. search rules)))
