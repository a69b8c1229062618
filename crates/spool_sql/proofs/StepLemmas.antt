-- One statement after another.
use Rattle.std.proofs.Common.{◌≡◌, ◌⊎◌, inl, inr, ℕ, false, List, Ok, Err, Result, IfOk, OnOk, IsTrue, refl, sym, subst}
use Rattle.std.proofs.Common.{◌∙◌, arith}
use Rattle.std.proofs.lemmas.Bool.{cases_Bool}
use Rattle.sqlite.specs.declared.error.Error.{Error}
use Rattle.sqlite.specs.Tree.{Trees}
use Rattle.sqlite.specs.Order.{Row}
use Rattle.sqlite.specs.State.{State, HasCleanDisk, IsLive, IsUnchanged, IsRolledBack, KeepsCommit, Survives}
use Rattle.sqlite.specs.State.{ExecutesInside}
use Rattle.sqlite.proofs.StateLemmas.{survives_then}
use Rattle.sqlite_catalog.proofs.ReadLemmas.{lists_once}
use Rattle.relay_types.specs.Rows.{Rows}
use Rattle.spool_sql.specs.Stored.{AreFirstTablesOf, IsFirstTables, IsTables, AreTablesOf, first_rows}
use Rattle.sqlite.specs.Effect.{Database, IsDatabase}
use Rattle.sqlite.specs.Schema.{Schema}
use Rattle.spool_sql.specs.Steps.{GoesOn, Alters, Becomes, Spares, Stands, MayLeave, Reopens, Grows, Founds}
use Rattle.spool_sql.specs.Tables.{first_schema, relay_schema}

pub keeps_if : (a b : State) → IsUnchanged a b ⊎ IsRolledBack a b → KeepsCommit a b
keeps_if a b (inl same) = record { was_open = λ _. same.0.was_open; committed = λ _. same.0.committed_is }
keeps_if a b (inr back) = record { was_open = back.was_open; committed = λ is_open. (back.undone is_open).1 }

-- a statement inside a transaction keeps the commit
pub kept_inside : (sql : List ℕ) (params : Row) (a b : State) (r : Result ℕ Error) → ExecutesInside 0 sql params a b r
    → KeepsCommit a b
kept_inside sql params a b (Ok count) h = record { was_open = λ _. h.1.was_open; committed = λ _. h.1.committed_is }
kept_inside sql params a b (Err e) (inl h) = keeps_if a b h.1
kept_inside sql params a b (Err e) (inr h) = keeps_if a b (inl h.2)

-- and so does one that is refused where there is no transaction
pub spares_inside : (sql : List ℕ) (params : Row) (a b : State) (r : Result ℕ Error)
    → (a.in_transaction ≡ false → KeepsCommit a b)
    → (HasCleanDisk b → IsTrue a.in_transaction → ExecutesInside 0 sql params a b r) → Survives a b (λ _. ⊥)
    → Spares a b
spares_inside sql params a b r outside inside survives = record {
  kept = λ clean. elim (cases_Bool a.in_transaction) [
    | inl is ↦ kept_inside sql params a b r (inside clean is)
    | inr out ↦ outside out
  ];
  survives = survives;
}

keeps_then : (a b c : State) → KeepsCommit a b → KeepsCommit b c → KeepsCommit a c
keeps_then a b c p q = record {
  was_open = λ is_open. p.was_open (q.was_open is_open);
  committed =
      λ is_open. q.committed is_open ∙ p.committed (q.was_open is_open);
}

pub spares_then : (a b c : State) → Spares a b → Spares b c → Spares a c
spares_then a b c p q = record {
  kept = λ clean. keeps_then a b c (p.kept (omega (arith, q.survives.clean))) (q.kept clean);
  survives = survives_then a b c _ _ (λ _. ⊥) (λ _ db none. none) (λ _ db none. none) p.survives q.survives;
}

goes_on_then : (a b c : State) → GoesOn a b → GoesOn b c → GoesOn a c
goes_on_then a b c p q = record {
  was_open = p.was_open;
  is_open = q.is_open;
  now_is = refl;
  committed_is =
      q.committed_is ∙ p.committed_is;
  mode = q.mode;
}

goes_on_same : (a b c : State) → GoesOn a b → IsUnchanged b c → GoesOn a c
goes_on_same a b c p same = record {
  was_open = p.was_open;
  is_open = same.0.is_open;
  now_is = refl;
  committed_is =
      same.0.committed_is ∙ p.committed_is;
  mode = same.0.mode ∙ p.mode;
}

pub alters_then : (a b c : State) (f g : Rows → Rows) → Alters a b f → Alters b c g → Alters a c (λ rows. g (f rows))
alters_then a b c f g p q = record {
  on = goes_on_then a b c p.on q.on;
  makes = λ rows t. q.makes (f rows) (p.makes rows t);
}

pub becomes_then : {X Y Z : Database → Rows → Type 0} (a b c : State) → Becomes X Y a b → Becomes Y Z b c
    → Becomes X Z a c
becomes_then a b c p q = record { on = goes_on_then a b c p.on q.on; makes = λ rows t. q.makes rows (p.makes rows t) }

pub becomes_same : {X Y : Database → Rows → Type 0} (a b c : State) → Becomes X Y a b → IsUnchanged b c
    → Becomes X Y a c
becomes_same {X} {Y} a b c p same = record {
  on = goes_on_same a b c p.on same;
  makes = λ rows t. subst (λ d. Y d rows)
      (sym same.0.now_is) (p.makes rows t);
}

pub alters_last : (a b c : State) (f g : Rows → Rows) (r : Result (Unit {0}) Error) → Alters a b f
    → OnOk r (Alters b c g) → OnOk r (Alters a c (λ rows. g (f rows)))
alters_last a b c f g (Ok done) p q = alters_then a b c f g p q
alters_last a b c f g (Err e) p q = tt

-- a list of objects lists one schema
pub opened_tables : (d : Database) (rows : Rows) → IsDatabase d → AreTablesOf d.trees rows → IsTables d rows
opened_tables d rows sound t = record {
  schema_is = lists_once _ d.schema relay_schema sound.lists t.five.sound.lists;
  tables = t;
}

pub opened_first : (d : Database) (rows : Rows) → IsDatabase d → AreFirstTablesOf d.trees rows → IsFirstTables d rows
opened_first d rows sound t = record {
  schema_is = lists_once _ d.schema first_schema sound.lists t.five.sound.lists;
  tables = t;
}

pub reopens : (s : State) → IsLive s → Reopens s
reopens s live rows opened t =
    let tables = opened_tables s.committed rows (live opened.is_open).1 t in
    record {
      is_open = opened.is_open;
      autocommit = opened.autocommit;
      now =
          subst (λ d. IsTables d rows) (sym opened.clean) tables;
      committed = tables;
    }

pub stands_along : (a b : State) (rows : Rows) → Stands a rows → IsUnchanged a b → Stands b rows
stands_along a b rows s same = record {
  is_open = same.0.is_open;
  autocommit = same.0.mode ∙ s.autocommit;
  now = subst (λ d. IsTables d rows) (sym same.0.now_is) s.now;
  committed = subst (λ d. IsTables d rows) (sym same.0.committed_is) s.committed;
}

-- while the store is open, a crash leaves the last commit
pub leaves_commit : (s : State) (rows : Rows) → Stands s rows
    → ((db : Trees) → IsTrue s.is_open → s.may_leave db → db ≡ s.committed.trees) → MayLeave s (λ r. r ≡ rows)
leaves_commit s rows at settled db may = (rows, refl, rw (settled db at.is_open may) at.committed.tables)

-- what a call left that commits nothing
pub leaves_along : (a b : State) (P : Rows → Type 0) → Survives a b (λ _. ⊥) → HasCleanDisk b → MayLeave a P
    → MayLeave b P
leaves_along a b P s clean before db may =
    elim (s.crash clean db may) [ inl was ↦ before db was | inr none ↦ absurd none ]

pub ok_then : {X E : Type 0} (r : Result X E) (P Q : X → Type 0) → IfOk r P → ((x : X) → P x → Q x) → IfOk r Q
ok_then (Ok x) P Q h f = f x h
ok_then (Err e) P Q h f = tt

pub on_ok : {X E : Type 0} (r : Result X E) (P Q : Type 0) → OnOk r P → (P → Q) → OnOk r Q
on_ok (Ok x) P Q h f = f h
on_ok (Err e) P Q h f = tt

pub grows_then : (s t u : Schema) (a b c : State) → Grows s t a b → Grows t u b c → Grows s u a c
grows_then s t u a b c p q = record { on = goes_on_then a b c p.on q.on; begins = λ begun. q.begins (p.begins begun) }

pub founds_then : (s t : Schema) (a b c : State) → Grows s t a b → Founds t b c → Founds s a c
founds_then s t a b c p q = record { on = goes_on_then a b c p.on q.on; founds = λ begun. q.founds (p.begins begun) }

pub founds_same : (s : Schema) (a b c : State) → Founds s a b → IsUnchanged b c → Founds s a c
founds_same s a b c p same =
    record {
      on = goes_on_same a b c p.on same;
      founds = λ begun. subst (λ d. IsTables d first_rows) (sym same.0.now_is)
          (p.founds begun);
    }

-- nothing is done
pub spares_none : (s : State) → Spares s s
spares_none s = record {
  kept = λ _. record { was_open = λ is_open. is_open; committed = λ _. refl };
  survives = record {
    clean = omega arith;
    shield = λ it. it;
    counts = omega arith;
    limit = refl;
    closes =
        λ _ is_open. inl is_open;
    crash = λ _ db may. inl may;
  };
}
