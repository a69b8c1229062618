-- One look at the database after another.
use Rattle.std.proofs.Common.{◌≡◌, ℕ, Result, Ok, Err, IfOk, IfErr, OnOk, MatchResult, IsTrue, sym, subst, arith}
use Rattle.std.specs.Result.{IsErrAnd}
use Rattle.sqlite_trees.specs.declared.store.Store.{Ghosts}
use Rattle.sqlite.specs.Held.{Held, state}
use Rattle.sqlite.specs.Effect.{Database}
use Rattle.sqlite.specs.State.{HasCleanDisk, IsLive, IsUnchanged}
use Rattle.sqlite.proofs.Callers.{unchanged_then}
use Rattle.sqlite.specs.declared.error.Error.{Error}
use Rattle.spool_sql.specs.Readable.{IsRefusal}
use Rattle.spool_sql.specs.Steps.{IfClean}
use Rattle.sqlite.specs.Schema.{Schema}
use Rattle.sound_tables.specs.Checks.{AreRead, AreShown, HasRecords}
use Rattle.sound_tables.specs.declared.stored.StoredRows.{StoredRows}
use Rattle.sound_tables.specs.Reading.{Looks, Reads}
use Rattle.sound_tables.specs.Versions.{number_of}
use Rattle.sound_tables.specs.declared.version.Version.{Version}
use Rattle.spool_sql.proofs.BothRefused.{refusal_since}
use Rattle.sound_tables.proofs.ReadingLemmas.{IsStill, looks_failed}

-- the first look changed nothing
module _ {S : Type 0} (g : Ghosts S) (a m b : Held S) (first : Looks g a m) (same : HasCleanDisk (state g m)
    → IsUnchanged (state g a) (state g m)) (second : Looks g m b) where
  still : IsStill g a m
  still = record {
    mode = first.mode;
    survives = first.survives;
    was_open = λ clean is_open. (same clean).0.was_open;
    same = λ clean is_open. same clean;
  }

  pub looks_both : Looks g a b
  looks_both = looks_failed g a m b still second.mode second.survives second.left

  pub clean_early : HasCleanDisk (state g b) → HasCleanDisk (state g m)
  clean_early clean = omega (arith, clean, second.survives.clean)

  pub same_now : HasCleanDisk (state g b) → (state g m).now ≡ (state g a).now
  same_now clean = (same (clean_early clean)).0.now_is

  -- what is so of the schema is so of it still
  pub schema_still : (P : Schema → Type 0) → HasCleanDisk (state g b) → P (state g a).now.schema
      → P (state g m).now.schema
  schema_still P clean has = subst (λ (db : Database). P db.schema) (sym (same_now clean)) has

  pub same_both : HasCleanDisk (state g b) → IsUnchanged (state g m) (state g b) → IsUnchanged (state g a) (state g b)
  same_both clean later = unchanged_then _ _ _ (same (clean_early clean)) later

  -- what the second look was refused for, both were
  pub refused_since : (e : Error) → HasCleanDisk (state g b) → IsRefusal (state g m) (state g b) e
      → IsRefusal (state g a) (state g b) e
  refused_since e clean = refusal_since (state g a) (state g m) (state g b) first.survives second.survives clean e

  pub are_read : (v : Version) (records : ℕ) (rows : StoredRows) → IsLive (state g a) → HasCleanDisk (state g b)
      → HasRecords (number_of v) (state g a).now records → AreShown v (state g m).now rows
      → AreRead v (state g a).now records rows
  are_read v records rows live clean meta shown = record {
    obeys = (live (same (clean_early clean)).0.was_open).0;
    meta = meta;
    shown = subst (λ (db : Database). AreShown v db rows) (same_now clean) shown;
  }

-- one that fails tells whatever is wanted
pub reads_first : {S X Z : Type 0} (g : Ghosts S) {First Known : Schema → Type 0} {P : Database → X → Type 0}
    (a b : Held S) {e : Error} → ((s : Schema) → Known s → First s) → Reads g First P a b (Err e)
    → (R : Database → Z → Type 0) (r : Result Z Error) → IsErrAnd r (λ x. x ≡ e) → Reads g Known R a b r
reads_first g a b weaker first R (Ok z) told = absurd told
reads_first g a b weaker first R (Err e) told = record {
  looks = first.looks;
  found = λ _ _. tt;
  same = λ _. tt;
  fault = λ clean known. subst (IsRefusal (state g a) (state g b)) (sym told) (first.fault clean (weaker _ known));
}

-- a look that read so much, and another
module _ {S X : Type 0} (g : Ghosts S) {First Known : Schema → Type 0} {P : Database → X → Type 0} {x : X}
    (a m b : Held S) (weaker : (s : Schema) → Known s → First s) (first : Reads g First P a m (Ok x)) where
  -- it left the store open
  pub since : {Y : Type 0} (Q : Database → Y → Type 0) (r : Result Y Error) → Looks g m b
      → IfClean g m b (λ s _. Known s.now.schema → IfOk r (Q s.now))
      → IfClean g m b (λ s t. IsTrue s.is_open → OnOk r (IsUnchanged s t))
      → IfClean g m b (λ s t. Known s.now.schema → IfErr r (IsRefusal s t)) → Reads g Known Q m b r
  since Q r looks found same fault = record {
    looks = looks;
    found = found;
    same = λ clean. same clean (first.same (clean_early g a m b first.looks first.same looks clean)).0.is_open;
    fault = fault;
  }

  pub reads_failed : {Y Z : Type 0} {Q : Database → Y → Type 0} {e : Error} → Reads g Known Q m b (Err e)
      → (R : Database → Z → Type 0) (r : Result Z Error) → IsErrAnd r (λ x. x ≡ e) → Reads g Known R a b r
  reads_failed later R (Ok z) told = absurd told
  reads_failed later R (Err e) told = record {
    looks = looks_both g a m b first.looks first.same later.looks;
    found = λ _ _. tt;
    same = λ _. tt;
    fault = λ clean known.
        let still = schema_still g a m b first.looks first.same later.looks Known clean known in
        subst (IsRefusal (state g a) (state g b)) (sym told)
        (refused_since g a m b first.looks first.same later.looks _ clean (later.fault clean still));
  }

  -- what each read is so of the database as it was
  pub reads_both : {Y Z : Type 0} {Q : Database → Y → Type 0} {y : Y} → Reads g Known Q m b (Ok y)
      → (R : Database → Z → Type 0) (z : Z) → ((db : Database) → P db x → Q db y → R db z)
      → Reads g Known R a b (Ok z)
  reads_both {Q = Q} {y = y} later R z both = record {
    looks = looks_both g a m b first.looks first.same later.looks;
    found = λ clean known.
        both _ (first.found (clean_early g a m b first.looks first.same later.looks clean) (weaker _ known))
        (subst (λ (db : Database). Q db y) (same_now g a m b first.looks first.same later.looks clean)
        (later.found clean (schema_still g a m b first.looks first.same later.looks Known clean known)));
    same = λ clean. same_both g a m b first.looks first.same later.looks clean (later.same clean);
    fault = λ _ _. tt;
  }

pub told_ok : {A E : Type 0} (r : Result A E) (P : A → Type 0) (Q : E → Type 0) → MatchResult r P Q → IfOk r P
told_ok (Ok x) P Q h = h
told_ok (Err e) P Q h = tt

pub told_err : {A E : Type 0} (r : Result A E) (P : A → Type 0) (Q : E → Type 0) → MatchResult r P Q → IfErr r Q
told_err (Ok x) P Q h = tt
told_err (Err e) P Q h = h
