use Rattle.std.proofs.Common.{rules}
use Rattle.std.proofs.lemmas.List.Sorted.{answers_always}
use Rattle.sound_tables.specs.declared.secret.Secret.{Secret}
use Rattle.sound_tables.proofs.places.are_in_places.Goals as goal

pub returns-clause-sorted : goal.returns-clause-sorted
returns-clause-sorted c = c.sort_unstable_by_key.ensures.sorted (λ (s : Secret). (s.endpoint, s.place))
    (answers_always _ _ _ (λ f a r g h. search rules))
