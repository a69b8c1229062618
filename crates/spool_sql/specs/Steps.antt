-- What a statement of the relay leaves of a connection.
use Rattle.std.specs.Prelude.{◌≡◌, ℕ, Bool, true, false, not, IsTrue, List, [], Result, Err, IfOk, IfErr, OnOk}
use Rattle.std.specs.List.{AllByRecursion}
use Rattle.std.specs.Borrow.{MutBor}
use Rattle.sqlite.specs.Tree.{Trees}
use Rattle.sqlite.specs.Effect.{Database}
use Rattle.sqlite.specs.Order.{Row}
use Rattle.sqlite.specs.Schema.{Schema}
use Rattle.sqlite.specs.Table.{Table}
use Rattle.sqlite.specs.State.{State, HasCleanDisk, Opens, Shows, Fails, IsUnchanged, KeepsCommit, Survives}
use Rattle.sqlite.specs.State.{ExecutesInside}
use Rattle.sqlite.specs.declared.error.Error.{Error}
use Rattle.sqlite.specs.Held.{Held, state}
use Rattle.sqlite_trees.specs.declared.store.Store.{Ghosts}
use Rattle.sqlite_catalog.specs.Change.{created}
use Rattle.relay_types.specs.Rows.{Rows, DeliveryRow}
use Rattle.spool_sql.specs.Stored.{IsFirstTables, IsSixTables, IsTables, AreTablesOf, first_rows, has_id, with_delivery}

-- ---- inside a transaction

-- the transaction goes on, and the last commit stays
abbrev pub GoesOn : State → State → Type 0
GoesOn old new = Shows old new new.now old.committed true

-- whatever rows the tables showed, they show these of them now
abbrev pub Makes : State → State → (Rows → Rows) → Type 0
Makes old new change = (rows : Rows) → IsTables old.now rows → IsTables new.now (change rows)

-- the change is made, inside a transaction that goes on
pub record Alters (old new : State) (change : Rows → Rows) : Type 0 where
  pub on : GoesOn old new
  pub makes : Makes old new change

-- The change is made of rows of which so much is known.
pub record AltersWhere (old new : State) (known : Rows → Type 0) (change : Rows → Rows) : Type 0 where
  pub on : GoesOn old new
  pub makes : (rows : Rows) → known rows → IsTables old.now rows → IsTables new.now (change rows)

-- Inside a transaction that goes on, an event is added unless its endpoint has one of its id. If it has, nothing is
-- changed.
pub record AddsUnlessKnown (d : DeliveryRow) (old new : State) (made : Bool) : Type 0 where
  pub on : GoesOn old new
  pub judges : (rows : Rows) → IsTables old.now rows → made ≡ not (has_id rows d.endpoint d.id)
  pub makes : IsTrue made → Makes old new (with_delivery d)
  pub leaves : made ≡ false → IsUnchanged old new

-- Whatever came of it, the last commit stands, and a crash leaves no more than it left before.
pub record Spares (old new : State) : Type 0 where
  pub kept : HasCleanDisk new → KeepsCommit old new
  pub survives : Survives old new (λ _. ⊥)

-- ---- a connection between transactions

-- the connection is open, in no transaction, and the tables have these rows
pub record Stands (s : State) (rows : Rows) : Type 0 where
  pub is_open : IsTrue s.is_open
  pub autocommit : s.in_transaction ≡ false
  pub now : IsTables s.now rows
  pub committed : IsTables s.committed rows

-- what an open after a crash at this moment may find
abbrev pub MayLeave : State → (Rows → Type 0) → Type 0
MayLeave s P = (db : Trees) → s.may_leave db → (rows : Rows) × P rows × AreTablesOf db rows

-- An open of trees that are the relay's tables of some rows stands on these rows, whatever else it finds.
abbrev pub Reopens : State → Type 0
Reopens s = (rows : Rows) → Opens s → AreTablesOf s.committed.trees rows → Stands s rows

-- ---- the tables as they are made

-- the database has the tables of the schema, and they are empty
pub record IsBegun (schema : Schema) (db : Database) : Type 0 where
  pub schema_is : db.schema ≡ schema
  pub empty : AllByRecursion (λ (t : Table). db.trees t.tree ≡ []) schema.tables

-- inside a transaction, the tables of a schema become those of another, and are empty still
pub record Grows (before after : Schema) (old new : State) : Type 0 where
  pub on : GoesOn old new
  pub begins : IsBegun before old.now → IsBegun after new.now

-- inside a transaction, a table is added
abbrev pub Adds : Schema → Table → State → State → Type 0
Adds schema table = Grows schema (created schema table)

-- inside a transaction, empty tables of a schema become those of the history with no record
pub record Founds (schema : Schema) (old new : State) : Type 0 where
  pub on : GoesOn old new
  pub founds : IsBegun schema old.now → IsTables new.now first_rows

-- ---- the tables of version 1, as they become those of version 2

-- inside a transaction, tables of one kind become tables of another, of the same rows
pub record Becomes (before after : Database → Rows → Type 0) (old new : State) : Type 0 where
  pub on : GoesOn old new
  pub makes : (rows : Rows) → before old.now rows → after new.now rows

-- a table of topics is added, and meta still tells version 1
abbrev pub AddsTopics : State → State → Type 0
AddsTopics = Becomes IsFirstTables (IsSixTables 1)

-- meta tells version 2
abbrev pub SetsVersion : State → State → Type 0
SetsVersion = Becomes (IsSixTables 1) IsTables

-- both
abbrev pub Migrates : State → State → Type 0
Migrates = Becomes IsFirstTables IsTables

-- ---- the clauses that the functions share

-- a transaction is still one of the same connection
abbrev pub IsOfSame : {X : Type 0} → MutBor X → MutBor X → Type 0
IsOfSame old new = new.ghost_name ≡ old.ghost_name

module _ {S : Type 0} (g : Ghosts S) (old new : Held S) where
  -- while the disk has returned what was written, so much is known of the two states
  abbrev pub IfClean : (State → State → Type 0) → Type 0
  IfClean P = HasCleanDisk (state g new) → P (state g old) (state g new)

  -- and inside a transaction so much
  abbrev pub IfInside : (State → State → Type 0) → Type 0
  IfInside P = HasCleanDisk (state g new) → IsTrue (state g old).in_transaction → P (state g old) (state g new)

  -- whatever came of it, the last commit stands
  abbrev pub SparesCommit : Type 0
  SparesCommit = Spares (state g old) (state g new)

  -- a crash leaves what it left before, or what is committed
  abbrev pub SurvivesAs : (State → Trees → Type 0) → Type 0
  SurvivesAs commits = Survives (state g old) (state g new) (commits (state g old))

module _ {S X E : Type 0} (g : Ghosts S) (old new : Held S) (result : Result X E) where
  -- inside a transaction, and while the disk has returned what was written, an Ok says so much of the two states
  abbrev pub Achieves : (State → State → Type 0) → Type 0
  Achieves P = IfInside g old new (λ a b. OnOk result (P a b))

  -- inside a transaction an answer says so much of the two states
  abbrev pub Answers : (State → State → X → Type 0) → Type 0
  Answers P = IfInside g old new (λ a b. IfOk result (P a b))

  -- an Ok says that the rows were changed so
  abbrev pub Changes : (Rows → Rows) → Type 0
  Changes change = Achieves (λ a b. Alters a b change)

  -- the same of rows of which so much is known
  abbrev pub ChangesWhere : (Rows → Type 0) → (Rows → Rows) → Type 0
  ChangesWhere known change = Achieves (λ a b. AltersWhere a b known change)

  -- an Ok changed nothing
  abbrev pub LeavesAll : Type 0
  LeavesAll = IfClean g old new (λ a b. OnOk result (IsUnchanged a b))

  -- an answer says so much of the rows
  abbrev pub LooksUp : (X → Rows → Type 0) → Type 0
  LooksUp P = HasCleanDisk (state g new) → IfOk result (λ found. (rows : Rows) → IsTables (state g old).now rows
      → P found rows)

-- an error is a failure of the store, under its name
abbrev pub FailsAsStore : {S X : Type 0} → Ghosts S → Held S → Held S → Result X Error → Type 0
FailsAsStore g old new result = IfClean g old new (λ a b. IfErr result (Fails a b ⊥))

-- inside a transaction, an error is one for which this statement is refused with these values
abbrev pub IsRefusedOf : {S X : Type 0} → Ghosts S → Held S → Held S → Result X Error → (sql : List ℕ) → Row → Type 0
IsRefusedOf g old new result sql values =
    IfInside g old new (λ a b. IfErr result (λ e. ExecutesInside 0 sql values a b (Err e)))
