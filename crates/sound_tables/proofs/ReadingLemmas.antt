-- A query whose rows are read one at a time.
use Rattle.std.proofs.Common.{◌≡◌, ◌≤◌, ◌⊎◌, inl, inr, ℕ, List, [], ◌∷◌, ◌++◌, length, Bool, true, false, None, Ok, Err}
use Rattle.std.proofs.Common.{IsTrue, refl, sym, ap, subst, ◌∙◌, arith}
use Rattle.std.specs.List.{AllZip}
use Rattle.sqlite_trees.specs.declared.store.Store.{Ghosts}
use Rattle.sqlite_resolve.specs.declared.compiled.Compiled.{Compiled}
use Rattle.sqlite_resolve.specs.Lowering.{Checked}
use Rattle.sqlite.specs.declared.error.Error.{Error}
use Rattle.sqlite.specs.Effect.{Database, RefusesToRead}
use Rattle.sqlite.specs.Order.{Row}
use Rattle.sqlite.specs.Clock.{timed}
use Rattle.sqlite.specs.Listing.{understood, reads_listing, IsSourceOf}
use Rattle.sqlite.specs.Held.{Held, state}
use Rattle.sqlite.specs.Given.{HasGiven, HasBegun, Returns}
use Rattle.sqlite.specs.State.{State, HasCleanDisk, Shown, ShowsRows, Begins, FailsToQuery, FailsToShow, IsNotRun}
use Rattle.sqlite.specs.State.{IsNoStatement, IsUnchanged, IsRolledBack, Survives, CommitsShowing}
use Rattle.sqlite.proofs.Callers.{unchanged_then}
use Rattle.sqlite.proofs.StateLemmas.{unchanged, survives_then, survives_weaker}
use Rattle.spool_sql.proofs.RefusalLemmas.{of_failure}
use Rattle.spool_sql.proofs.BothRefused.{refusal_since}
use Rattle.sound_tables.specs.Reading.{Shows, Fits, IsPlainText, IsAnswerable, IsFault, HasTaken, Looks}

-- ---- what a query that reads tells, of each database that is the same

pub begins_from : (sql : List ℕ) (params : Row) (m a : State) (rows : List Row) → m.now ≡ a.now
    → Begins sql params m rows → Begins sql params a rows
unfolding Begins
begins_from sql params m a rows e h = (
  h.0,
  record {
    is = subst (λ (d : Database). understood d.schema sql ≡ Ok h.0) e h.1.is;
    whole = h.1.whole;
    given =
        h.1.given;
    now = h.1.now;
  },
  h.2,
  h.3,
  subst (λ (d : Database). IsSourceOf (reads_listing d.schema sql) d h.3) e h.4,
  h.5,
)

pub shown_from : (sql : List ℕ) (params : Row) (m a b : State) (rows : List Row) → IsPlainText sql → m.now ≡ a.now
    → IsUnchanged a b → Shown sql params m b rows → Shown sql params a b rows
unfolding Shown
shown_from sql params m a b rows plain e same h =
    let none = plain m.now.schema h.0 h.1.is in
    let full = timed params h.0.formats h.1.now in
    let it = subst (ShowsRows m b sql h.0 full rows) none h.2 in (
      h.0,
      record {
        is = subst (λ (d : Database). understood d.schema sql ≡ Ok h.0) e h.1.is;
        whole = h.1.whole;
        given =
            h.1.given;
        now = h.1.now;
      },
      subst (ShowsRows a b sql h.0 full rows) (sym none)
          (it.0, subst (λ (d : Database). IsSourceOf (reads_listing d.schema sql) d it.0) e it.1, it.2, same),
    )

never_returns : (r : Checked Compiled) → ((c : Compiled) → r ≡ Ok c → c.returning ≡ None) → ¬ Returns r
never_returns (Ok c) plain some = absurd (let none = rw (plain c refl) at some in cc)
never_returns (Err e) plain some = some

pub begun_text : {S : Type 0} (g : Ghosts S) (sql : List ℕ) (params : Row) (old new : Held S) → IsPlainText sql
    → HasBegun g sql params old new → HasGiven g sql params new [] × IsUnchanged (state g old) (state g new)
begun_text g sql params old new plain (inl h) = h
begun_text g sql params old new plain (inr h) = absurd (never_returns _ (plain old.schema) h.0)

pub commits_nothing : (sql : List ℕ) (params : Row) (old new : State) → IsPlainText sql
    → Survives old new (CommitsShowing sql params old) → Survives old new (λ _. ⊥)
unfolding CommitsShowing
commits_nothing sql params old new plain =
    survives_weaker old new _ _ (λ _ db h. never_returns (Ok h.0) (λ c same. let one : h.0 ≡ c = let e = same in cc in
    subst (λ (x : Compiled). x.returning ≡ None) one (plain old.now.schema h.0 h.1.is)) h.2)

-- ---- why a query that reads fails

pub failed_left : (sql : List ℕ) (params : Row) (m b : State) (e : Error) → IsPlainText sql
    → FailsToQuery sql params m b e → IsUnchanged m b ⊎ IsRolledBack m b
unfolding FailsToQuery IsNotRun
failed_left sql params m b e plain (inl (inl h)) = inl h.1
failed_left sql params m b e plain (inl (inr h)) = inr h.3
failed_left sql params m b e plain (inr h) =
    let none = plain m.now.schema h.0 h.1.is in
    inl (subst (FailsToShow m b sql h.0 (timed params h.0.formats h.1.now) e) none h.2).3

same_compiled : (db : Database) (sql : List ℕ) (c : Compiled) (it : IsAnswerable db sql)
    → understood db.schema sql ≡ Ok c → it.compiled ≡ c
same_compiled db sql c it is = let both : Ok it.compiled ≡ Ok c = sym it.is ∙ is in cc

no_statement : (s : State) (sql : List ℕ) (e : Error) → IsAnswerable s.now sql → ¬ IsNoStatement s sql [] e
no_statement s sql e it (inl h) = absurd (let both : Ok it.compiled ≡ Err h.0 = sym it.is ∙ h.1 in cc)
no_statement s sql e it (inr h) =
    let same = same_compiled s.now sql h.0 it h.1 in
    elim h.2 [
      | inl several ↦ several.0 (subst (λ (c : Compiled). length sql ≤ c.tail) same it.alone)
      | inr (inl counts) ↦ counts.0 (ap length (sym (subst (λ (c : Compiled). c.names ≡ []) same it.bare)))
      | inr (inr clock) ↦ clock.0 (subst (λ (c : Compiled). c.formats ≡ []) same it.timeless)
    ]

pub fault_at : (sql : List ℕ) (m b : State) (e : Error) → IsPlainText sql → FailsToQuery sql [] m b e
    → IsFault sql m b e
unfolding FailsToQuery IsNotRun
fault_at sql m b e plain (inl (inl n)) it = absurd (no_statement m sql e it n.0)
fault_at sql m b e plain (inl (inr f)) it = of_failure m b e f
fault_at sql m b e plain (inr q) it =
    let none = plain m.now.schema q.0 q.1.is in
    let told = subst (FailsToShow m b sql q.0 (timed [] q.0.formats q.1.now) e) none q.2 in
    let compiled = same_compiled m.now sql q.0 it q.1.is in
    let formats = subst (λ (c : Compiled). c.formats ≡ []) compiled it.timeless in
    let db : told.0 ≡ m.now = subst (λ b. IsSourceOf b m.now told.0) it.unlisted told.1 in
    let on_db = subst (λ (d : Database). RefusesToRead m.step_limit q.0.command d (timed [] q.0.formats q.1.now) e) db
    told.2 in
    let timeless = subst (λ (f : List (List ℕ)). RefusesToRead m.step_limit q.0.command m.now (timed [] f q.1.now) e)
    formats on_db in
    inr (inr (it.taken m.step_limit e (subst (λ (c : Compiled). RefusesToRead m.step_limit c.command m.now [] e)
    (sym compiled) timeless)))

pub fault_since : (sql : List ℕ) (a m b : State) (e : Error) → m.now ≡ a.now → Survives a m (λ _. ⊥)
    → Survives m b (λ _. ⊥) → HasCleanDisk b → IsFault sql m b e → IsFault sql a b e
fault_since sql a m b e same early late clean fault it =
    refusal_since a m b early late clean e (fault (subst (λ (d : Database). IsAnswerable d sql) (sym same) it))

-- ---- one look after another

pub record IsStill {S : Type 0} (g : Ghosts S) (a b : Held S) : Type 0 where
  pub mode : a.in_transaction ≡ false → b.in_transaction ≡ false
  pub survives : Survives (state g a) (state g b) (λ _. ⊥)
  pub was_open : HasCleanDisk (state g b) → IsTrue (state g b).is_open → IsTrue (state g a).is_open
  pub same : HasCleanDisk (state g b) → IsTrue (state g a).is_open → IsUnchanged (state g a) (state g b)

rolled_after : (a m b : State) → IsUnchanged a m → IsRolledBack m b → IsRolledBack a b
rolled_after a m b same back = record {
  was_open = λ _. same.0.was_open;
  undone = λ is_open. ((back.undone is_open).0 ∙ same.0.committed_is, (back.undone is_open).1 ∙ same.0.committed_is);
  autocommit = back.autocommit;
  unmarked = back.unmarked;
  counts = record {
    changes = back.counts.changes ∙ same.1.changes;
    last_rowid = back.counts.last_rowid
        ∙ same.1.last_rowid;
  };
}

module _ {S : Type 0} (g : Ghosts S) where
  pub still_none : (a : Held S) → IsStill g a a
  still_none a = record {
    mode = λ e. e;
    survives = record {
      clean = omega arith;
      shield = λ it. it;
      counts = omega arith;
      limit = refl;
      closes =
          λ _ is_open. inl is_open;
      crash = λ _ db may. inl may;
    };
    was_open = λ _ is_open. is_open;
    same = λ _ is_open. unchanged (state g a) is_open;
  }

  pub still_then : (a m b : Held S) → IsStill g a m → (m.in_transaction ≡ false → b.in_transaction ≡ false)
      → Survives (state g m) (state g b) (λ _. ⊥)
      → (HasCleanDisk (state g b) → IsUnchanged (state g m) (state g b)) → IsStill g a b
  still_then a m b so_far mode survives same = record {
    mode = λ e. mode (so_far.mode e);
    survives = survives_then (state g a) (state g m) (state g b) _ _ (λ _. ⊥) (λ _ db none. none) (λ _ db none. none)
        so_far.survives survives;
    was_open = λ clean is_open. so_far.was_open (omega (arith, clean, survives.clean)) (same clean).0.was_open;
    same = λ clean is_open. unchanged_then _ _ _ (so_far.same (omega (arith, clean, survives.clean)) is_open)
        (same clean);
  }

  pub looks_still : (a b : Held S) → IsStill g a b → Looks g a b
  looks_still a b still = record {
    mode = still.mode;
    survives = still.survives;
    left = λ clean is_open. inl
        (still.same clean (still.was_open clean is_open));
  }

  pub looks_failed : (a m b : Held S) → IsStill g a m → (m.in_transaction ≡ false → b.in_transaction ≡ false)
      → Survives (state g m) (state g b) (λ _. ⊥)
      → (HasCleanDisk (state g b) → IsTrue (state g b).is_open → IsUnchanged (state g m) (state g b)
      ⊎ IsRolledBack (state g m) (state g b)) → Looks g a b
  looks_failed a m b so_far mode survives left = record {
    mode = λ e. mode (so_far.mode e);
    survives = survives_then (state g a) (state g m) (state g b) _ _ (λ _. ⊥) (λ _ db none. none) (λ _ db none. none)
        so_far.survives survives;
    left = λ clean is_open.
        let early : HasCleanDisk (state g m) = omega (arith, clean, survives.clean) in
        elim (left clean is_open) [
          | inl same ↦ inl (unchanged_then _ _ _ (so_far.same early (so_far.was_open early same.0.was_open)) same)
          | inr back ↦ inr (rolled_after _ _ _ (so_far.same early (so_far.was_open early (back.was_open is_open))) back)
        ];
  }

-- ---- the values that rows show

pub zip_push : {A B : Type 0} (R : A → B → Type 0) (xs : List A) (ys : List B) (x : A) (y : B) → AllZip R xs ys → R x y
    → AllZip R (xs ++ x ∷ []) (ys ++ y ∷ [])
zip_push R [] [] x y h r = (r, tt)
zip_push R [] (z ∷ ys) x y h r = absurd h
zip_push R (z ∷ xs) [] x y h r = absurd h
zip_push R (z ∷ xs) (w ∷ ys) x y h r = (h.0, zip_push R xs ys x y h.1 r)

pub zip_last : {A B : Type 0} (R : A → B → Type 0) (xs : List A) (x : A) (ys : List B) → AllZip R (xs ++ x ∷ []) ys
    → (y : B) × R x y
zip_last R [] x [] h = absurd h
zip_last R [] x (y ∷ ys) h = (y, h.0)
zip_last R (z ∷ xs) x [] h = absurd h
zip_last R (z ∷ xs) x (w ∷ ys) h = zip_last R xs x ys h.1

-- ---- a query under way

pub given_open : {S : Type 0} (g : Ghosts S) (sql : List ℕ) (params : Row) (h : Held S) (given : List Row)
    → HasGiven g sql params h given → IsTrue (state g h).is_open
unfolding HasGiven
given_open g sql params h given it = it.0.is_open

pub fits_from : {X : Type 0} (shows : Shows X) (sql : List ℕ) (a m b : State) (xs : List X) (all : Bool)
    → IsPlainText sql → IsUnchanged a m → Fits shows sql m b xs all → Fits shows sql a b xs all
fits_from shows sql a m b xs true plain same h =
    let both = unchanged_then a m b same h.0 in
    (both, (h.1.0, shown_from sql [] m a b h.1.0 plain same.0.now_is both h.1.1, h.1.2))
fits_from shows sql a m b xs false plain same h =
    (unchanged_then a m b same h.0, (h.1.0, begins_from sql [] m a h.1.0 same.0.now_is h.1.1, h.1.2))

pub still_begun : {S : Type 0} (g : Ghosts S) (sql : List ℕ) (a m : Held S) → IsPlainText sql
    → (a.in_transaction ≡ false → m.in_transaction ≡ false)
    → Survives (state g a) (state g m) (CommitsShowing sql [] (state g a))
    → (HasCleanDisk (state g m) → HasBegun g sql [] a m) → IsStill g a m
still_begun g sql a m plain mode survives begun = record {
  mode = mode;
  survives = commits_nothing sql [] (state g a) (state g m) plain survives;
  was_open = λ clean is_open. (begun_text g sql [] a m plain (begun clean)).1.0.was_open;
  same = λ clean is_open. (begun_text g sql [] a m plain (begun clean)).1;
}

pub taken_begun : {S X : Type 0} (g : Ghosts S) (shows : Shows X) (sql : List ℕ) (a m : Held S) (xs : List X)
    → IsPlainText sql → HasBegun g sql [] a m → xs ≡ [] → HasTaken g shows sql m xs
taken_begun g shows sql a m xs plain begun none =
    record {
      plain = plain;
      given = [];
      has = (begun_text g sql [] a m plain begun).0;
      shown = subst (AllZip shows [])
          (sym none) tt;
    }
