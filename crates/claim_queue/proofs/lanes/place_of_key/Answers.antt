use Rattle.std.proofs.Common.{◌≡◌, rules, slice_index_or, false}
use Rattle.std.specs.List.{AllPairs}
use Rattle.std.proofs.lemmas.List.Sorted.{IsPartitionPoint-from_clause}
use Rattle.claim_queue.specs.Lanes.{comes_before}
use Rattle.claim_queue.proofs.OrderLaws.{one_way, partitioned}
use Rattle.claim_queue.proofs.lanes.place_of_key.Goals as goal

pub returns-clause-before : goal.returns-clause-before
returns-clause-before c =
    let keys = c.args.keys.now.items in
    let weak : AllPairs (λ a b. comes_before b a ≡ false) keys = λ i j d less within. one_way
    (slice_index_or keys i d) (slice_index_or keys j d) (c.requires i j d less within) in
    let point = IsPartitionPoint-from_clause (λ t. comes_before t c.args.key) _ _ c.partition_point.ensures.partitioned
    (partitioned (λ t. t) keys c.args.key weak) (λ a r q k. search rules) in
    λ k d from below. point.0 k d from below

pub returns-clause-behind : goal.returns-clause-behind
returns-clause-behind c =
    let keys = c.args.keys.now.items in
    let weak : AllPairs (λ a b. comes_before b a ≡ false) keys = λ i j d less within. one_way
    (slice_index_or keys i d) (slice_index_or keys j d) (c.requires i j d less within) in
    let point = IsPartitionPoint-from_clause (λ t. comes_before t c.args.key) _ _ c.partition_point.ensures.partitioned
    (partitioned (λ t. t) keys c.args.key weak) (λ a r q k. search rules) in
    λ k d from below. point.1 k d from below
