-- Why a query of the relay's tables is refused, whatever its parameters are.
use Rattle.std.proofs.Common.{◌≡◌, ◌≤◌, ◌==◌, ◌&&◌, ◌⊎◌, inl, inr, ℕ, List, [], length, Bool, true, false, nat_le}
use Rattle.std.proofs.Common.{Option, None, Ok, Err, refl, sym, ap, subst, ◌∙◌, arith, append-nil}
use Rattle.std.specs.Prelude.{IsSome}
use Rattle.std.proofs.lemmas.Bool.Decides.{nat_tests}
use Rattle.sqlite_trees.specs.Tree.{Trees}
use Rattle.sqlite_trees.specs.View.{Tells}
use Rattle.sqlite_trees.specs.declared.error.StoreError.{StoreError}
use Rattle.sqlite_trees.specs.declared.error.StoreError.TheVariants as store
use Rattle.sqlite_sql.specs.Program.{ProgramOverflows}
use Rattle.sqlite_resolve.specs.declared.compiled.Compiled.{Compiled}
use Rattle.sqlite_resolve.specs.Lowering.{Checked}
use Rattle.sqlite_typing.specs.Types.{accepts_program}
use Rattle.sqlite.specs.declared.error.Error.{Error}
use Rattle.sqlite.specs.Command.{Command}
use Rattle.sqlite.specs.Command.TheVariants.{Select}
use Rattle.sqlite.specs.Query.{Query, inner, end}
use Rattle.sqlite.specs.Order.{Row}
use Rattle.sqlite.specs.Clock.{timed}
use Rattle.sqlite.specs.Effect.{Database, RefusesToRead}
use Rattle.sqlite.specs.Listing.{understood, reads_listing, IsSourceOf}
use Rattle.sqlite.specs.State.{State, FailsToQuery, FailsToShow, IsTooLate, IsNotRun, IsNoStatement, Fails, HasCause}
use Rattle.sqlite.specs.State.{store_error}
use Rattle.spool_sql.specs.Tables.{relay_schema}
use Rattle.spool_sql.specs.Readable.{HasFailed, HasFault, IsRefusal, WasRefusal}
use Rattle.spool_sql.specs.Queries.{IsBare}
use Rattle.spool_sql.proofs.BareLemmas.{understood_bare}
use Rattle.spool_sql.proofs.SelectLemmas.{Asks}
use Rattle.sqlite.proofs.Callers.{command_of, IsPlain}

-- the text is one statement with so many parameters
abbrev pub is_one : ℕ → ℕ → Checked Compiled → Bool
is_one size count (Ok c) = nat_le size c.tail && (count == length c.names)
is_one size count (Err e) = false

-- the store failed, or memory was refused
of_cause : (a b : State) (kind : StoreError) → HasCause a b ⊥ kind → Tells b.blamed kind → (e : Error)
    → e ≡ store_error kind → IsRefusal a b e
of_cause a b store.OutOfMemory h told e is = inl is
of_cause a b store.Io h told e is = inr (inl (store.Io, is, h, told))
of_cause a b store.Corrupt h told e is = inr (inl (store.Corrupt, is, h, told))
of_cause a b store.Full h told e is = inr (inl (store.Full, is, h, told))
of_cause a b store.Broken h told e is = inr (inl (store.Broken, is, inr h, told))
of_cause a b store.Unstorable h told e is = absurd h

pub of_failure : (a b : State) (e : Error) → Fails a b ⊥ e → IsRefusal a b e
of_failure a b e f = of_cause a b f.0 f.2 f.4 e f.1

-- whatever is told of the store later
pub was_refusal : (a b : State) (e : Error) → IsRefusal a b e → WasRefusal a b e
was_refusal a b e (inl memory) = inl memory
was_refusal a b e (inr (inl (fault, is, has, told))) = inr (inl (fault, is, has))
was_refusal a b e (inr (inr stopped)) = inr (inr stopped)

-- a store that has a fault has failed, or it was shut
pub has_failed : (a b : State) (kind : StoreError) → HasFault a b kind → HasFailed a b
has_failed a b store.OutOfMemory none = absurd none
has_failed a b store.Io h = inl h
has_failed a b store.Corrupt h = inl h
has_failed a b store.Full h = inl h
has_failed a b store.Broken h = h
has_failed a b store.Unstorable none = absurd none

both : (x y : Bool) → x && y ≡ true → (x ≡ true) × (y ≡ true)
both true y e = (refl, e)
both false y e = absurd (let f = e in cc)

within : (m n : ℕ) → nat_le m n ≡ true → m ≤ n
within m n e = grind (arith, nat_tests, e)

equal : (m n : ℕ) → (m == n) ≡ true → m ≡ n
equal m n e = grind (arith, nat_tests, e)

not_one : (sql : List ℕ) (params : Row) (s : State) (e : Error)
    → is_one (length sql) (length params) (understood s.now.schema sql) ≡ true → IsPlain (understood s.now.schema sql)
    → ¬ IsNoStatement s sql params e
not_one sql params s e one plain (inl h) = absurd (let f = rw h.1 at one in cc)
not_one sql params s e one plain (inr h) =
    let here : nat_le (length sql) h.0.tail && (length params == length h.0.names) ≡ true = rw h.1 at one in
    elim h.2 [
      | inl several ↦ several.0 (within (length sql) h.0.tail (both _ _ here).0)
      | inr (inl counts) ↦ counts.0 (equal (length params) (length h.0.names) (both _ _ here).1)
      | inr (inr clock) ↦ clock.0 (subst IsPlain h.1 plain).1
    ]

-- a query over one table that groups nothing sums nothing
sums_nothing : (q : Query) (t : ℕ) → q.from ≡ inner t end → q.group ≡ None → (params : Row) (db : Trees)
    → ¬ ProgramOverflows db params [] [] q
sums_nothing q t from group params db (inl h) = absurd (rw group at h)
sums_nothing q t from group params db (inr h) = let fold = rw from at h in absurd fold.4

module _ (sql : List ℕ) (bare : IsBare sql) (q : Query) (names : List (List ℕ)) (asks : Asks relay_schema sql q names)
    (params : Row)
    (one : is_one (length sql) (length params) (understood relay_schema sql) ≡ true)
    (typed : accepts_program relay_schema [] q params ≡ true)
    (t : ℕ) (from : q.from ≡ inner t end) (group : q.group ≡ None) where
  stopped : (a b : State) (db : Database) (limit : Option ℕ) (e : Error) → db.schema ≡ relay_schema
      → limit ≡ a.step_limit → RefusesToRead limit (Select (record { lets = []; body = q }) names) db params e
      → IsRefusal a b e
  stopped a b db limit e has same (inl mismatch) =
      absurd (let no = mismatch.1 in let yes = ap (λ schema. accepts_program schema [] q params) has ∙ typed in cc)
  stopped a b db limit e has same (inr (inl over)) = absurd (sums_nothing q t from group params db.trees over.1)
  stopped a b db limit e has same (inr (inr h)) = inr (inr (h.0, subst IsSome same h.1))

  pub refused_for : (a b : State) (e : Error) → a.now.schema ≡ relay_schema → FailsToQuery sql params a b e
      ⊎ IsTooLate sql params a b e → IsRefusal a b e
  unfolding FailsToQuery IsNotRun
  refused_for a b e has (inl (inl (inl n))) =
      absurd (not_one sql params a e (ap (λ s. is_one (length sql) (length params) (understood s sql)) has ∙ one)
      (subst (λ s. IsPlain (understood s sql)) (sym has) asks.means.plain) n.0)
  refused_for a b e has (inl (inl (inr f))) = of_failure a b e f
  refused_for a b e has (inl (inr h)) =
      let known = sym h.1.is ∙ ap (λ s. understood s sql) has in
      let plain = subst IsPlain (sym known) asks.means.plain in
      let none = understood_bare sql bare a.now.schema h.0 h.1.is in
      let told = subst (FailsToShow a b sql h.0 (timed params h.0.formats h.1.now) e) none h.2 in
      let unlisted = ap (λ s. reads_listing s sql) has ∙ asks.unlisted in
      let db : told.0 ≡ a.now = subst (λ listed. IsSourceOf listed a.now told.0) unlisted told.1 in
      let full : timed params h.0.formats h.1.now ≡ params = ap (λ (f : List (List ℕ)). timed params f h.1.now) plain.1
      ∙ append-nil params in
      let refused = subst (λ (p : Row). RefusesToRead a.step_limit h.0.command told.0 p e) full told.2 in
      stopped a b told.0 a.step_limit e (ap (λ (d : Database). d.schema) db ∙ has) refl
      (subst (λ (k : Command). RefusesToRead a.step_limit k told.0 params e) (ap command_of known
      ∙ asks.means.is) refused)
  refused_for a b e has (inr late) =
      absurd (let none = understood_bare sql bare a.now.schema late.0 late.1.is in let some = rw none at late.2 in cc)
