use Rattle.std.proofs.Common.{rules}
use Rattle.std.proofs.lemmas.List.Sorted.{IsPartitionPoint-from_clause}
use Rattle.claim_queue.specs.Lanes.{comes_before, key_of}
use Rattle.claim_queue.proofs.OrderLaws.{partitioned}
use Rattle.claim_queue.proofs.firsts.place_of.Goals as goal

pub returns-clause-point : goal.returns-clause-point
returns-clause-point c =
    IsPartitionPoint-from_clause (λ held. comes_before (key_of held) c.args.key) _ _
    c.partition_point.ensures.partitioned
    (partitioned key_of c.args.firsts.now c.args.key (λ i j d less within. (c.requires i j d less within).0))
    (λ a r q k. search rules)
