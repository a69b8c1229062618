use Rattle.std.proofs.Common.{rules}
use Rattle.std.proofs.lemmas.List.Sorted.{answers_always}
use Rattle.sound_rows.specs.declared.numbers.Topic.{Topic as Decided}
use Rattle.sound_tables.proofs.topic.numbers_in_turn.Goals as goal

pub returns : goal.returns
returns c = record {
  same = search rules;
  sorted = c.sort_unstable_by_key.ensures.sorted (λ (t : Decided). t.set_by)
      (answers_always _ _ _ (λ f a r g h. search rules));
}
