use Rattle.std.proofs.Common.{◌≡◌, List, map}
use Rattle.relay_types.specs.declared.record.Record.{Record}
use Rattle.relay_types.specs.Legal.{IsLegal}
use Rattle.spool_sql.specs.Stored.{topic_of}
use Rattle.spool_load.specs.Loading.{AreNames, Subscribes}
use Rattle.spool_load.proofs.topics.subscribe_page.Given as goal

abbrev pub invariant-loop-row : goal.invariant-loop-row
invariant-loop-row l = record {
  names : l.loaded.names ≡ l.fn.loaded.names;
  reads : (records : List Record) → IsLegal records → AreNames l.fn.loaded.names.items records
      → Subscribes l.fn.loaded l.loaded (map topic_of l.yielded) records;
}
