use Rattle.std.proofs.Common.{sym, ◌∙◌, arith}
use Rattle.run_log.proofs.SeatLaws.{copies}
use Rattle.run_log.proofs.Prefix.copy.Goals as goal

pub split_seat-seat-requires : goal.split_seat-seat-requires
split_seat-seat-requires g c =
    let i = c.self.invariant in
    (i.0 ∙ sym c.log.invariant.0, omega (arith, c.log.invariant.1), copies _ _)
