use Rattle.std.proofs.Common.{subst}
use Rattle.delivery_book.specs.Entries.{HasOneEach}
use Rattle.desk.specs.Desks.{DeskValue}
use Rattle.desk.proofs.DeskLaws.{is_core}
use Rattle.desk.proofs.desk.Desk.settled_records.Goals as goal

pub returns-clause-core : goal.returns-clause-core
returns-clause-core g c = is_core c.self.view_is c.self.invariant

pub returns-clause-once : goal.returns-clause-once
returns-clause-once g c = subst (λ (d : DeskValue). HasOneEach d.deliveries) c.self.view_is c.settled_seq.ensures.once
