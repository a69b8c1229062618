use Rattle.std.proofs.Common.{arith, rules, ltb, ltb-true, ltb-false}
use Rattle.std.proofs.lemmas.List.Sorted.{IsPartitionPoint-from_clause}
use Rattle.sound_rows.specs.declared.numbers.Attempt.{Attempt}
use Rattle.sound_rows.proofs.SearchLaws.{parted}
use Rattle.sound_rows.proofs.search.place_of_attempt.Goals as goal

pub returns-clause-below : goal.returns-clause-below
returns-clause-below c =
    let point = IsPartitionPoint-from_clause (λ (x : Attempt). ltb x.seq c.args.seq) _ _
    c.partition_point.ensures.partitioned (parted (λ (x : Attempt). x.seq) _ _ c.requires) (λ a r q k. search rules)
    in
    λ k d h. ltb-true _ _ (point.0 k d (omega arith) h)

pub returns-clause-above : goal.returns-clause-above
returns-clause-above c =
    let point = IsPartitionPoint-from_clause (λ (x : Attempt). ltb x.seq c.args.seq) _ _
    c.partition_point.ensures.partitioned (parted (λ (x : Attempt). x.seq) _ _ c.requires) (λ a r q k. search rules)
    in
    λ k d h l. ltb-false _ _ (point.1 k d h l)
