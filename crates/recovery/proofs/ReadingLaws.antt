-- Desk and vault of what a store holds stand for its opening.
use Rattle.std.proofs.Common.{◌≡◌, false, inl, refl, sym, subst}
use Rattle.std.proofs.Math.Seq.{take-length}
use Rattle.sqlite.specs.Store.{Ghosts}
use Rattle.relay_types.specs.Records.{History, records_of}
use Rattle.spool.specs.declared.load.Books.{Books}
use Rattle.spool.specs.Books.{AreBooksOf, StillHolds}
use Rattle.spool.specs.Commits.{HoldsOnDisk}
use Rattle.spool.specs.Vaults.{VaultValue}
use Rattle.desk.specs.Desks.{DeskValue, StandsFor, Opens}
use Rattle.desk.specs.Moves.{opened}
use Rattle.recovery.specs.Left.{VaultStandsFor}
use Rattle.recovery.specs.Reopenings.{OpensHeld, opening_of}

vault_stands : {S : Type 0} (g : Ghosts S) (vault : VaultValue S) (history : History) → vault.closed ≡ false
    → HoldsOnDisk g vault (records_of history) → VaultStandsFor g vault (opening_of history)
vault_stands g vault history free holds = record {
  leaves = inl refl;
  holds = (free, subst (λ (steps : History). HoldsOnDisk g vault (records_of steps)) (sym (take-length history)) holds);
}

pub opens_held : {S : Type 0} (g : Ghosts S) (old new : VaultValue S) (books : Books) (desk : DeskValue) → new.closed
    ≡ false → AreBooksOf g old books → StillHolds g old new → Opens books desk → OpensHeld g old desk new
opens_held g old new books desk free are still opens history holds = (
  subst (λ clock. StandsFor desk (opened history clock)) (are (records_of history) holds).clock
      (opens history (are (records_of history) holds)),
  vault_stands g new history free (still (records_of history) holds),
)
