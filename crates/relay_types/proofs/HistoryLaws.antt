-- Sound rows are those of a legal history.
use Rattle.std.proofs.Common.{◌≡◌, true}
use Rattle.relay_types.specs.Legal.{IsLegal}
use Rattle.relay_types.specs.Rows.{Rows, rows_of}
use Rattle.relay_types.specs.Sound.{AreKeyed, are_sound, history_from}
use Rattle.relay_types.proofs.FlagBackLaws.{rows_back}
use Rattle.relay_types.proofs.FollowLaws.{legal_from}

pub of_a_history : (rows : Rows) → AreKeyed rows → are_sound rows ≡ true → IsLegal (history_from rows)
    × (rows_of (history_from rows) ≡ rows)
of_a_history rows keyed sound = (legal_from rows keyed sound, rows_back rows keyed sound)
