-- A query whose text has no RETURNING writes nothing, whatever the schema is.
use Rattle.std.proofs.Common.{◌≡◌, ◌⊎◌, inl, inr, ℕ, List, Bool, true, false, if◌then◌else◌, Option, None, Some, Ok}
use Rattle.std.proofs.Common.{Err, Result, IfOk, IfErr, OnOk, sym, ap, subst}
use Rattle.sqlite_syntax.specs.declared.statement.Parsed.{Parsed}
use Rattle.sqlite_schema.specs.declared.command.Returning.{Returning}
use Rattle.sqlite_resolve.specs.declared.compiled.Compiled.{Compiled}
use Rattle.sqlite_resolve.specs.declared.error.CompileError.TheVariants.{NoSuchTable}
use Rattle.sqlite_resolve.specs.Compile.{compiled, first, planned, meaning, with_command}
use Rattle.sqlite_resolve.specs.Lowering.{Checked, and_then}
use Rattle.sqlite.specs.declared.error.Error.{Error}
use Rattle.sqlite.specs.Command.{Command}
use Rattle.sqlite.specs.Order.{Row}
use Rattle.sqlite.specs.Schema.{Schema}
use Rattle.sqlite.specs.Listing.{understood, reads_listing, if_select, is_select, listing_schema}
use Rattle.sqlite.specs.State.{State, Shown, ShowsRows, FailsToQuery, FailsToShow, IsTooLate, IsNotRun, IsUnchanged}
use Rattle.sqlite.specs.State.{KeepsCommit, HasCleanDisk, Survives}
use Rattle.sqlite.specs.Clock.{timed}
use Rattle.spool_sql.specs.Steps.{Spares}
use Rattle.spool_sql.specs.Queries.{IsBare, returning_of}
use Rattle.spool_sql.proofs.InsertLemmas.{same_value}
use Rattle.spool_sql.proofs.StepLemmas.{keeps_if}

abbrev plan_of : List (List ℕ) → Checked (Option Returning) → Checked Command
    → Checked (List (List ℕ) × (Command × Option Returning))
plan_of formats shown k = and_then (and_then shown (λ s. and_then k (λ c. Ok (c, s)))) (λ found. Ok (formats, found))

planned_bare : (p : Parsed) (formats : List (List ℕ)) (shown : Checked (Option Returning)) (k : Checked Command)
    (c : Compiled) → shown ≡ Ok None
    → and_then (plan_of formats shown k) (λ plan. Ok (with_command p plan)) ≡ Ok c → c.returning ≡ None
planned_bare p formats (Ok None) (Ok k) c e h = sym (ap (λ (x : Compiled). x.returning) (same_value h))
planned_bare p formats (Ok None) (Err f) c e h = absurd (let g = h in cc)
planned_bare p formats (Ok (Some s)) k c e h = absurd (let g = e in cc)
planned_bare p formats (Err f) k c e h = absurd (let g = e in cc)

parsed_bare : (schema : Schema) (r : Checked Parsed) → ((base : ℕ) → returning_of r schema base ≡ Ok None)
    → (c : Compiled) → and_then r (λ p. and_then (planned schema p) (λ plan. Ok (with_command p plan))) ≡ Ok c
    → c.returning ≡ None
unfolding planned meaning
parsed_bare schema (Ok p) bare c h = planned_bare p _ _ _ c (bare _) h
parsed_bare schema (Err e) bare c h = absurd (let f = h in cc)

compiled_bare : (text : List ℕ) → IsBare text → (schema : Schema) (c : Compiled) → compiled schema text ≡ Ok c
    → c.returning ≡ None
unfolding compiled
compiled_bare text bare schema c h = parsed_bare schema (first text) (bare schema) c h

select_is : (r : Checked Compiled) (c : Compiled) → if_select r ≡ Ok c → r ≡ Ok c
select_is (Ok x) c h = tested (is_select x.command) h
  where
    tested : (b : Bool) → ◌≡◌ {A = Checked Compiled} (if b then Ok x else Err NoSuchTable) (Ok c)
        → ◌≡◌ {A = Checked Compiled} (Ok x) (Ok c)
    tested true e = e
    tested false e = absurd (let f = e in cc)
select_is (Err e) c h = absurd (let f = h in cc)

pub understood_bare : (text : List ℕ) → IsBare text → (schema : Schema) (c : Compiled) → understood schema text ≡ Ok c
    → c.returning ≡ None
unfolding understood
understood_bare text bare schema c h = by_test (reads_listing schema text) h
  where
    by_test : (b : Bool) → (if b then if_select (compiled listing_schema text) else compiled schema text) ≡ Ok c
        → c.returning ≡ None
    by_test true e = compiled_bare text bare listing_schema c (select_is _ c e)
    by_test false e = compiled_bare text bare schema c e

pub unchanged_by : (text : List ℕ) → IsBare text → (params : Row) (old new : State) (rows : List Row)
    → Shown text params old new rows → IsUnchanged old new
unfolding Shown
unchanged_by text bare params old new rows h =
    let none = understood_bare text bare old.now.schema h.0 h.1.is in
    (subst (ShowsRows old new text h.0 (timed params h.0.formats h.1.now) rows) none h.2).3

pub not_run_keeps : (text : List ℕ) (params : Row) (old new : State) (e : Error) → IsNotRun old new text params e
    → KeepsCommit old new
unfolding IsNotRun
not_run_keeps text params old new e (inl h) = keeps_if old new (inl h.1)
not_run_keeps text params old new e (inr h) = keeps_if old new (inr h.3)

failed_keeps : (text : List ℕ) → IsBare text → (params : Row) (old new : State) (e : Error)
    → FailsToQuery text params old new e ⊎ IsTooLate text params old new e → KeepsCommit old new
unfolding FailsToQuery
failed_keeps text bare params old new e (inl (inl h)) = not_run_keeps text params old new e h
failed_keeps text bare params old new e (inl (inr h)) =
    let none = understood_bare text bare old.now.schema h.0 h.1.is in
    keeps_if old new (inl (subst (FailsToShow old new text h.0 (timed params h.0.formats h.1.now) e) none h.2).3)
failed_keeps text bare params old new e (inr h) = keeps_if old new (inl h.5)

-- a look, however it ends
module _ {X : Type 0} (text : List ℕ) (bare : IsBare text) (params : Row) (old new : State) (items : X → List Row) where
  pub look_unchanged : (r : Result X Error) → IfOk r (λ x. Shown text params old new (items x))
      → OnOk r (IsUnchanged old new)
  look_unchanged (Ok x) shown = unchanged_by text bare params old new (items x) shown
  look_unchanged (Err e) shown = tt

  pub look_spares : (r : Result X Error) → (HasCleanDisk new → IfOk r (λ x. Shown text params old new (items x)))
      → (HasCleanDisk new → IfErr r (λ e. FailsToQuery text params old new e ⊎ IsTooLate text params old new e))
      → Survives old new (λ _. ⊥) → Spares old new
  look_spares (Ok x) shown failed survives = record {
    kept = λ clean. keeps_if old new (inl (unchanged_by text bare params old new (items x) (shown clean)));
    survives = survives;
  }
  look_spares (Err e) shown failed survives = record {
    kept = λ clean. failed_keeps text bare params old new e (failed clean);
    survives = survives;
  }
