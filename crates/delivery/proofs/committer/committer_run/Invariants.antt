use Rattle.std.specs.Prelude.{List, ◌++◌}
use Rattle.relay_types.specs.declared.record.Record.{Record}
use Rattle.relay_types.specs.Records.{History}
use Rattle.delivery.specs.Keepers.{AppendsBatches, records_in}
use Rattle.delivery.proofs.committer.committer_run.Given as goal

abbrev pub invariant-loop : goal.invariant-loop
invariant-loop g l = record {
  next : (goal.iterator-loop g).can_next l.iterator';
  finite : (goal.iterator-loop g).is_finite l.iterator';
  clean : g.K.Keeper.is_clean l.logged.keeper → g.K.Keeper.is_clean l.initial.logged.keeper;
  adds : g.K.Keeper.is_clean l.logged.keeper → (records : List Record)
      → g.K.Keeper.holds l.initial.logged.keeper records
      → (batches : List History) × g.K.Keeper.holds l.logged.keeper (records ++ records_in batches);
  logs : g.K.Keeper.is_clean l.logged.keeper → (records : List Record)
      → g.K.Keeper.holds l.initial.logged.keeper (records ++ l.initial.logged.writer)
      → g.K.Keeper.holds l.logged.keeper (records ++ l.logged.writer);
  appended : AppendsBatches l.initial.logged.writer l.logged.writer;
}
