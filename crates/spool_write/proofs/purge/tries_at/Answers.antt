use Rattle.std.proofs.Common.{ltb, leb, arith, rules}
use Rattle.std.proofs.lemmas.List.Sorted.{IsPartitionPoint-from_clause, IsPartitionedBy-ltb, IsPartitionedBy-leb}
use Rattle.std.proofs.lemmas.List.Sorted.{IsNonDecreasingBy-drop}
use Rattle.spool_sql.specs.declared.row.Tried.{Tried}
use Rattle.spool_write.proofs.CutLaws.{cut_at}
use Rattle.spool_write.proofs.purge.tries_at.Goals as goal

pub returns : goal.returns
returns c sorted =
    let number = λ (t : Tried). t.delivery in
    let tries = c.args.tries.now in
    let d = c.args.delivery in
    let from = IsPartitionPoint-from_clause (λ (t : Tried). ltb t.delivery d) _ _
    c.partition_point-from.ensures.partitioned (IsPartitionedBy-ltb number tries d sorted) (λ a r q k. search rules) in
    let rises = IsNonDecreasingBy-drop number c.partition_point-from.result tries sorted in
    let count = IsPartitionPoint-from_clause (λ (t : Tried). leb t.delivery d) _ _
    c.partition_point-count.ensures.partitioned
    (rw c.split_at.ensures.back (IsPartitionedBy-leb number _ d rises)) (λ a r q k. search rules) in
    rw (c.split_at-2.ensures.front, c.split_at.ensures.back)
    (cut_at number d tries c.partition_point-from.result c.partition_point-count.result
    (omega (arith, c.partition_point-from.ensures.bound)) from (rw c.split_at.ensures.back at count))
