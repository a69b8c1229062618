-- Why a row gives nothing, carried up.
use Rattle.std.proofs.Common.{◌≡◌, inl, ℕ, Result, Ok, Err, IfErr, sym, subst}
use Rattle.std.specs.Result.{IsErrAnd}
use Rattle.sqlite.specs.declared.types.Value.{Value}
use Rattle.sqlite.specs.Order.{Row}
use Rattle.sqlite.specs.State.{State}
use Rattle.spool_sql.specs.declared.row.RowFault.{RowFault}
use Rattle.spool_sql.specs.declared.row.RowFault.TheVariants.{Failed, Unreadable}
use Rattle.spool_sql.specs.Readable.{IsAt, IsMemoryFault, IsRowRefusal}

-- an error that is handed on
pub handed_on : {A E : Type 0} (r : Result A E) (e : E) (P : E → Type 0) → IsErrAnd r (λ x. x ≡ e) → P e → IfErr r P
handed_on (Ok a) e P same p = tt
handed_on (Err x) e P same p = subst P (sym same) p

-- a row that shows values has each at its place
pub at_row : (row shown : Row) (at : ℕ) (value : Value) → row ≡ shown → IsAt shown at value → IsAt row at value
at_row row shown at value is it = subst (λ (r : Row). IsAt r at value) (sym is) it

pub err_then : {A E : Type 0} (r : Result A E) (P Q : E → Type 0) → IfErr r P → ((e : E) → P e → Q e) → IfErr r Q
err_then (Ok a) P Q h f = tt
err_then (Err e) P Q h f = f e h

pub row_memory : (a b : State) (fault : RowFault) → IsMemoryFault fault → IsRowRefusal a b fault
row_memory a b (Failed e) h = inl h
row_memory a b Unreadable h = absurd h
