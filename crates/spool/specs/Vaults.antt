-- What a vault is, and which history it holds.
use Rattle.std.specs.Prelude.{◌≡◌, ℕ, Bool, List, length, refl}
use Rattle.std.specs.Coded.{Coded, code_by, coded×, coded_ℕ, coded_bool}
use Rattle.sqlite.specs.State.{State}
use Rattle.sqlite.specs.Held.{Held, held_code, state}
use Rattle.sqlite_trees.specs.declared.store.Store.{Ghosts}
use Rattle.relay_types.specs.declared.record.Record.{Record}
use Rattle.relay_types.specs.Legal.{IsLegal}
use Rattle.relay_types.specs.Rows.{rows_of}
use Rattle.spool_sql.specs.Steps.{Stands}

-- the connection, the mark of the opening, the number of the next record, and whether a commit was doubtful
pub record VaultValue (S : Type 0) : Type 0 where
  pub conn : Held S
  pub mark : ℕ
  pub next : ℕ
  pub closed : Bool

abbrev pub vault_code : {S : Type 0} → Coded S → Coded (VaultValue S)
vault_code {S} store =
    code_by (Held S × (ℕ × (ℕ × Bool))) (coded× (held_code store) (coded× coded_ℕ (coded× coded_ℕ coded_bool)))
    (λ v. (v.conn, (v.mark, (v.next, v.closed))))
    (λ p. record { conn = p.0; mark = p.1.0; next = p.1.1.0; closed = p.1.1.1 }) (λ _. refl)

-- the store is open, outside a transaction, and has the rows of this legal history, of so many records
pub record HoldsAt (s : State) (count : ℕ) (records : List Record) : Type 0 where
  pub legal : IsLegal records
  pub stands : Stands s (rows_of records)
  pub next : count ≡ length records

-- the vault's store has the rows of this legal history, and its next record is the one after it
abbrev pub Holds : {S : Type 0} → Ghosts S → VaultValue S → List Record → Type 0
Holds g v records = HoldsAt (state g v.conn) v.next records
