use Rattle.std.proofs.Common.{sym, ◌∙◌, arith}
use mathlib.Core.Option.{none}
use Rattle.atomic_table.specs.Table.{step}
use Rattle.run_log.proofs.SeatLaws.{appends}
use Rattle.run_log.proofs.LogWriter.append_as.Goals as goal

pub store-requires : goal.store-requires
store-requires g c =
    let i = c.self.invariant in
    let slots = c.log.inside.table.shared.table_id.slots in (
      i.0 ∙ sym c.log.invariant.0,
      omega (arith, c.log.invariant.1),
      appends slots _ 0 (λ _. 0)
          (step slots 0 0 0 none) _ _ _ i.1,
    )
