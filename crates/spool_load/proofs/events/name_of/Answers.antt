use Rattle.std.proofs.Common.{ap, ◌∙◌, ltb, ltb-true, ltb-false, rules}
use Rattle.std.proofs.Common.{arith, lt-ltb}
use Rattle.std.proofs.lemmas.List.Sorted.{IsPartitionPoint-from_clause}
use Rattle.relay_types.specs.declared.limits.TheConstants.{MAX_RECORDS}
use Rattle.delivery_book.proofs.Entries.{get_or-any}
use Rattle.spool_load.specs.declared.endpoints.NamedPut.{NamedPut}
use Rattle.spool_sql.proofs.PageLaws.{rising_parted, none_there}
use Rattle.spool_load.proofs.events.name_of.Goals as goal
use Rattle.spool_load.proofs.events.name_of.Goals.{in_default-via-in-Some+else-known-put, in_default-via-in_default}

pub returns-in_default-clause-missing : goal.returns-in_default-clause-missing
returns-in_default-clause-missing c none rises =
    let number = λ (known : NamedPut). known.put in
    let names = c.args.names.now in
    let point = IsPartitionPoint-from_clause (λ (known : NamedPut). ltb known.put c.args.put) _ _
    c.partition_point-index.ensures.partitioned (rising_parted number 0 MAX_RECORDS c.args.put names rises)
    (λ a r q k. search rules) in
    none_there number 0 MAX_RECORDS c.args.put c.partition_point-index.result names rises
    (λ k d less l. ltb-true _ _ (point.0 k d (omega arith) less)) (λ k d le l. ltb-false _ _ (point.1 k d le l))
    (λ d l same. elim c.in_default.branch [
      | in_default-via-in-Some+else-known-put w ↦ w.if-known-put.false
          (ap number (w.in-Some.ensures.lookup.1 ∙ get_or-any names _ _ d l) ∙ same)
      | in_default-via-in_default w ↦
          absurd (let no = w.in_default.ensures.lookup.0 in let yes = lt-ltb _ _ l in cc)
    ])
