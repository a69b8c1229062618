-- What is read of a table row by row, and why it isn't.
use Rattle.std.specs.Prelude.{◌≡◌, ◌⊎◌, ◌≤◌, ℕ, length, Bool, true, false, List, [], Vec, Option, Some, None, Ok}
use Rattle.std.specs.Prelude.{Result, IsSome, IsTrue, IfOk, IfErr, OnOk}
use Rattle.std.specs.declared.alloc.Global.{Global}
use Rattle.std.specs.List.{AllZip}
use Rattle.sqlite_resolve.specs.declared.compiled.Compiled.{Compiled}
use Rattle.sqlite.specs.Order.{Row}
use Rattle.sqlite.specs.Schema.{Schema}
use Rattle.sqlite.specs.Effect.{Database, RefusesToRead}
use Rattle.sqlite.specs.Listing.{understood, reads_listing}
use Rattle.sqlite.specs.declared.error.Error.{Error}
use Rattle.sqlite.specs.declared.error.Error.TheVariants.{SqliteFailure}
use Rattle.sqlite.specs.declared.error.ErrorCode.TheVariants.{OperationInterrupted}
use Rattle.sqlite.specs.Held.{Held, state}
use Rattle.sqlite.specs.Given.{HasGiven}
use Rattle.sqlite_trees.specs.declared.store.Store.{Ghosts}
use Rattle.sqlite.specs.State.{State, HasCleanDisk, Shown, Begins, IsUnchanged, IsRolledBack, Survives}
use Rattle.spool_sql.specs.Readable.{IsRefusal}
use Rattle.spool_sql.specs.Steps.{IfClean}

-- whatever the schema is, the text has no RETURNING
abbrev pub IsPlainText : List ℕ → Type 0
IsPlainText text = (schema : Schema) (c : Compiled) → understood schema text ≡ Ok c → c.returning ≡ None

-- which values a row shows
abbrev pub Shows : Type 0 → Type 1
Shows X = Row → X → Type 0

-- this value is shown, or none is
abbrev pub IsReadAs : {X : Type 0} → Shows X → Row → Option X → Type 0
IsReadAs shows row (Some x) = shows row x
IsReadAs shows row None = (x : _) → ¬ shows row x

-- nothing is changed, and all rows of the answer show these values in turn, or it begins with rows that show no values
abbrev pub Fits : {X : Type 0} → Shows X → (sql : List ℕ) → State → State → List X → Bool → Type 0
Fits shows sql a b xs true = IsUnchanged a b × ((rows : List Row) × Shown sql [] a b rows × AllZip shows rows xs)
Fits shows sql a b xs false = IsUnchanged a b
    × ((rows : List Row) × Begins sql [] a rows × ((ys : List _) → ¬ AllZip shows rows ys))

-- all rows of the answer show the values that were found, or it begins with rows that show none
abbrev pub Finds : {X : Type 0} → Shows X → (sql : List ℕ) → State → State → Option (Vec X Global) → Type 0
Finds shows sql a b (Some xs) = Fits shows sql a b xs.items true
Finds shows sql a b None = Fits shows sql a b [] false

-- Under the schema of the database the text is one query without parameters, which no row makes fail.
pub record IsAnswerable (db : Database) (sql : List ℕ) : Type 0 where
  pub compiled : Compiled
  pub is : understood db.schema sql ≡ Ok compiled
  pub alone : length sql ≤ compiled.tail
  pub bare : compiled.names ≡ []
  pub timeless : compiled.formats ≡ []
  pub unlisted : reads_listing db.schema sql ≡ false
  pub taken : (limit : Option ℕ) (e : Error) → RefusesToRead limit compiled.command db [] e
      → (e ≡ SqliteFailure OperationInterrupted) × IsSome limit

-- a query that can be answered is refused only for memory or by the store
abbrev pub IsFault : (sql : List ℕ) → (old new : State) → Error → Type 0
IsFault sql old new e = IsAnswerable old.now sql → IsRefusal old new e

module _ {S : Type 0} (g : Ghosts S) where
  -- a query is under way, and the rows that it gave show these values
  pub record HasTaken {X : Type 0} (shows : Shows X) (sql : List ℕ) (h : Held S) (xs : List X) : Type 0 where
    pub plain : IsPlainText sql
    pub given : List Row
    pub has : HasGiven g sql [] h given
    pub shown : AllZip shows given xs

  -- a look at the database, which writes nothing, but may find the store failing
  pub record Looks (old new : Held S) : Type 0 where
    pub mode : old.in_transaction ≡ false → new.in_transaction ≡ false
    pub survives : Survives (state g old) (state g new) (λ _. ⊥)
    pub left : HasCleanDisk (state g new) → IsTrue (state g new).is_open → IsUnchanged (state g old) (state g new)
        ⊎ IsRolledBack (state g old) (state g new)

  -- A look that tells so much of a database whose schema is known, and changes nothing. It is refused only for memory
  -- or by the store.
  pub record Reads {X : Type 0} (Known : Schema → Type 0) (Told : Database → X → Type 0) (old new : Held S)
      (result : Result X Error) : Type 0 where
    pub looks : Looks old new
    pub found : IfClean g old new (λ a _. Known a.now.schema → IfOk result (Told a.now))
    pub same : IfClean g old new (λ a b. OnOk result (IsUnchanged a b))
    pub fault : IfClean g old new (λ a b. Known a.now.schema → IfErr result (IsRefusal a b))
