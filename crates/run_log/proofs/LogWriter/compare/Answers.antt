use Rattle.std.proofs.Common.{sym, ◌∙◌, ap, arith}
use mathlib.Core.Option.{none}
use Rattle.atomic_table.specs.Table.{step}
use Rattle.run_log.proofs.SeatLaws.{hears, compares}
use Rattle.run_log.proofs.LogWriter.compare.Goals as goal

pub join_seat-requires : goal.join_seat-requires
join_seat-requires g c =
    let i = c.self.invariant in
    let f = c.prefix.invariant in
    let n = sym c.log.invariant.0 in
    (i.0 ∙ n, f.0 ∙ n, ap (λ m. m.1) f.1, omega (arith, c.log.invariant.1), hears _ _ _ _)

pub load-requires : goal.load-requires
load-requires g c =
    let i = c.self.invariant in
    let j = c.join_seat.ensures in
    let n = sym c.log.invariant.0 in (
      j.0 ∙ (i.0 ∙ n),
      omega (arith, c.log.invariant.1),
      compares _ _ _ (λ n. n)
          (step c.log.inside.table.shared.table_id.slots 0 0 0 none) _ (ap (λ m. m.1) j.2 ∙ ap (λ m. m.1) i.1),
    )
