-- What a write makes of a vault.
use Rattle.std.proofs.Common.{◌≡◌, ◌⊎◌, inl, inr, ℕ, ◌+◌, List, ◌++◌, length, subst, ◌∙◌, arith, length-append}
use Rattle.sqlite.specs.State.{State}
use Rattle.relay_types.specs.declared.record.Record.{Record}
use Rattle.relay_types.specs.Rows.{Rows, rows_of, put_rows}
use Rattle.spool_sql.specs.Steps.{Stands, MayLeave}
use Rattle.spool.specs.Writing.{Rests, RestsInDoubt, WriteEndsAs}
use Rattle.spool.specs.Vaults.{HoldsAt}
use Rattle.spool.specs.declared.transaction.WriteEnd.TheVariants.{Committed}
use Rattle.relay_types.proofs.RowLaws.{rows_of-all}

-- what is said of the history tells of the rows

pub rows_made : (old new : State) (count next : ℕ) (entries : List Record)
    → ((records : List Record) → HoldsAt old count records → HoldsAt new next (records ++ entries)
    × MayLeave new (λ r. r ≡ rows_of (records ++ entries)))
    → (records : List Record) → HoldsAt old count records → Rests new (put_rows (rows_of records) entries)
rows_made old new count next entries over records on =
    let kept = over records on in
    subst (Rests new) (rows_of-all records entries kept.0.legal) (kept.0.stands, kept.1)

pub rows_doubted : (old new : State) (count : ℕ) (entries : List Record)
    → ((records : List Record) → HoldsAt old count records → RestsInDoubt new records entries)
    → (records : List Record) → HoldsAt old count records
    → MayLeave new (λ r. (r ≡ rows_of records) ⊎ (r ≡ put_rows (rows_of records) entries))
rows_doubted old new count entries over records on db may =
    let left = (over records on).leaves db may in (
      left.0,
      elim left.1 [ inl was ↦ inl was | inr new ↦ inr (new.1 ∙ rows_of-all records entries new.0) ],
      left.2,
    )

-- what is said of the write tells of the history

pub history_made : (old new : State) (count next : ℕ) (entries : List Record) → next ≡ count + length entries
    → WriteEndsAs old new count entries Committed
    → (records : List Record) → HoldsAt old count records → HoldsAt new next (records ++ entries)
    × MayLeave new (λ r. r ≡ rows_of (records ++ entries))
history_made old new count next entries is ends records on =
    let made = ends records on in (
      record { legal = made.0; stands = made.1.0; next = omega (arith, is, on.next, length-append records entries) },
      made.1.1,
    )

pub history_unwritten : (old new : State) (count next : ℕ) → next ≡ count
    → ((rows : Rows) → Stands old rows → Rests new rows)
    → (records : List Record) → HoldsAt old count records → HoldsAt new next records
    × MayLeave new (λ r. r ≡ rows_of records)
history_unwritten old new count next is ends records on = let made = ends (rows_of records) on.stands
    in (record { legal = on.legal; stands = made.0; next = is ∙ on.next }, made.1)
