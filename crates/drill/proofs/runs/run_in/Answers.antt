use Rattle.std.proofs.Common.{refl}
use Rattle.drill.specs.Memory.{events_of}
use Rattle.drill.proofs.ShownLaws.{begun_core, idle_core, run_from}
use Rattle.drill.proofs.BatchLaws.{all_held, all_given}
use Rattle.drill.proofs.runs.run_in.Goals as goal

pub make_calls-requires-clause-core : goal.make_calls-requires-clause-core
make_calls-requires-clause-core g c = idle_core _ c.requires.out refl c.requires.empty.1

pub returns-clause-runs : goal.returns-clause-runs
returns-clause-runs g c = λ clean w opening on vault. run_from g.S.Store _ c.args.vault c.make_calls.new.core w
    (events_of c.args.memory.calls.items) _ opening (record {
      stands = begun_core _ w on opening refl c.requires.empty.1 c.requires.tickets;
      holds = vault;
      mark = c.requires.mark;
    }) (c.make_calls.ensures.runs clean) refl refl c.parts-receipt.ensures.receipt c.parts-receipt.ensures.given

pub returns-clause-permits : goal.returns-clause-permits
returns-clause-permits g c = all_given c.make_calls.new.core c.make_calls.ensures.core

pub returns-clause-out : goal.returns-clause-out
returns-clause-out g c = rw (c.parts-receipt.ensures.receipt, c.parts-receipt.ensures.given)
    (all_held c.make_calls.new.core c.make_calls.ensures.core)
