-- What a whole table shows.
use Rattle.std.proofs.Common.{◌≡◌, inl, inr, ℕ, List, [], ◌∷◌, ◌++◌, map, filter, true, false, Option}
use Rattle.std.proofs.Common.{None, Some, Result, Ok, Err, IfOk, IfErr, OnOk, refl, sym, ap, subst, arith}
use Rattle.std.specs.List.{AllByRecursion, AllZip}
use Rattle.std.specs.Prelude.{IsSome, Vec}
use Rattle.std.specs.declared.alloc.Global.{Global}
use Rattle.std.specs.List.Sorted.{IsPermutation}
use Rattle.sqlite_trees.specs.declared.store.Store.{Ghosts}
use Rattle.sqlite_trees.proofs.ListLemmas.{all-permutation}
use Rattle.sqlite.specs.Order.{Row}
use Rattle.sqlite.specs.Term.{Term}
use Rattle.sqlite.specs.Command.TheVariants.{Select}
use Rattle.sqlite.specs.Effect.{Answers, RefusesToRead}
use Rattle.sqlite.specs.declared.error.Error.{Error}
use Rattle.sqlite.specs.Held.{Held, state}
use Rattle.sqlite.specs.Listing.{understood}
use Rattle.sqlite.specs.State.{State, Shown, Begins, IsUnchanged}
use Rattle.sqlite.proofs.Callers.{command_of, IsPlain, reads_as, begins_as}
use Rattle.spool_sql.specs.Readable.{IsRefusal}
use Rattle.spool_sql.specs.Steps.{IfClean}
use Rattle.sqlite.specs.Schema.{Schema}
use Rattle.spool_sql.proofs.BareLemmas.{understood_bare}
use Rattle.spool_sql.proofs.UpdateLemmas.{scanned_by, shows, passes}
use Rattle.sqlite.specs.declared.error.Error.TheVariants.{SqliteFailure}
use Rattle.sqlite.specs.declared.error.ErrorCode.TheVariants.{OperationInterrupted}
use Rattle.sound_tables.specs.Reading.{Shows, Fits, Finds, IsFault, IsAnswerable, IsPlainText, Looks, Reads}
use Rattle.sound_tables.specs.Tables.{AreByFirst, HasShown, LacksShown, Yields}
use Rattle.sound_tables.proofs.Texts.{ReadsTree, ReadsUnder, compiled_as, whole, in_order}
use Rattle.sound_tables.proofs.KeyOrder.{ShowsKey, by_first}

every_row : (rows : List Row) → filter (passes [] []) rows ≡ rows
every_row [] = refl
every_row (r ∷ rows) = ap (λ rest. r ∷ rest) (every_row rows)

module _ (Known : Schema → Type 0) (text : List ℕ) (t : ℕ) (shown : List Term) (names : List (List ℕ))
    (reads : ReadsTree Known text (whole t shown) names) (s : State) (known : Known s.now.schema) where
  abbrev schema : Schema
  schema = s.now.schema

  under : ReadsUnder schema text (whole t shown) names
  under = reads.under schema known

  is_select : command_of (understood schema text) ≡ Select (record { lets = []; body = whole t shown }) names
  is_select = ap command_of under.is

  is_plain : IsPlain (understood schema text)
  is_plain = subst IsPlain (sym under.is) (refl, refl)

  answered : (rows : List Row) → Answers s.now (record { lets = []; body = whole t shown }) [] rows
      → IsPermutation (map (shows [] shown) (s.now.trees t)) rows
  answered rows h =
      subst (λ tree. IsPermutation (map (shows [] shown) tree) rows) (every_row (s.now.trees t))
      (scanned_by in_order t [] shown schema s.now.trees [] rows h)

  pub shown_whole : (b : State) (rows : List Row) → Shown text [] s b rows
      → IsPermutation (map (shows [] shown) (s.now.trees t)) rows
  shown_whole b rows h = answered rows (reads_as text [] s b schema refl _ is_select is_plain under.unlisted rows h)

  pub shown_by_first : ShowsKey shown → (b : State) (rows : List Row) → Shown text [] s b rows → AreByFirst rows
  shown_by_first first b rows h = by_first t shown first schema s.now.trees rows
      (reads_as text [] s b schema refl _ is_select is_plain under.unlisted rows h)

  pub begun_whole : (rows : List Row) → Begins text [] s rows → (tail : List Row)
      × IsPermutation (map (shows [] shown) (s.now.trees t)) (rows ++ tail)
  begun_whole rows h =
      let it = begins_as text [] s s schema refl _ is_select is_plain under.unlisted rows h in
      (it.1.0, answered (rows ++ it.1.0) (record { typed = it.0; answer = it.1.1 }))

  pub answerable : IsAnswerable s.now text
  answerable = record {
    compiled = compiled_as text (whole t shown) names;
    is = under.is;
    alone = omega arith;
    bare = refl;
    timeless = refl;
    unlisted = under.unlisted;
    taken = λ limit e. taken_by limit e;
  }
    where
      taken_by : (limit : Option ℕ) (e : Error)
          → RefusesToRead limit (Select (record { lets = []; body = whole t shown }) names) s.now [] e
          → (e ≡ SqliteFailure OperationInterrupted) × IsSome limit
      taken_by limit e (inl mismatch) = absurd (let no = mismatch.1 in let yes = under.typed in cc)
      taken_by limit e (inr (inl (_, inl none))) = absurd none
      taken_by limit e (inr (inl (_, inr fold))) = absurd fold.4
      taken_by limit e (inr (inr stopped)) = (stopped.0, stopped.1)

-- ---- rows that each show a value, or one that shows none

all_shown : {X : Type 0} (is_shown : Shows X) (of : Row → Row) (tree : List Row)
    → AllByRecursion (λ r. (x : X) × is_shown (of r) x) tree
    → AllByRecursion (λ r. (x : X) × is_shown r x) (map of tree)
all_shown is_shown of [] all = tt
all_shown is_shown of (r ∷ tree) all = (all.0, all_shown is_shown of tree all.1)

chosen : {X : Type 0} (is_shown : Shows X) (rows tail : List Row)
    → AllByRecursion (λ r. (x : X) × is_shown r x) (rows ++ tail) → (xs : List X) × AllZip is_shown rows xs
chosen is_shown [] tail all = ([], tt)
chosen is_shown (r ∷ rows) tail all = let rest = chosen is_shown rows tail all.1 in
    (all.0.0 ∷ rest.0, (all.0.1, rest.1))

module _ {X : Type 0} (is_shown : Shows X) (Known : Schema → Type 0) (text : List ℕ) (t : ℕ) (shown : List Term)
    (names : List (List ℕ)) (reads : ReadsTree Known text (whole t shown) names) (first : ShowsKey shown) (a b : State)
    (has : Known a.now.schema) where
  has_shown : (xs : List X) → Fits is_shown text a b xs true → HasShown is_shown (shows [] shown) (a.now.trees t) xs
  has_shown xs h = (
    h.1.0,
    shown_whole Known text t shown names reads a has b h.1.0 h.1.1,
    h.1.2,
    shown_by_first Known
        text t shown names reads a has first b h.1.0 h.1.1,
  )

  lacks_shown : (xs : List X) → Fits is_shown text a b xs false
      → LacksShown is_shown (shows [] shown) (a.now.trees t)
  lacks_shown xs h all =
      let it = begun_whole Known text t shown names reads a has h.1.0 h.1.1 in
      let each = all-permutation (λ r. (x : X) × is_shown r x) _ _ it.1
      (all_shown is_shown (shows [] shown) (a.now.trees t) all) in
      let some = chosen is_shown h.1.0 it.0 each in
      h.1.2 some.0 some.1

  tells : (r : Result (Option (Vec X Global)) Error) → IfOk r (Finds is_shown text a b)
      → IfOk r (Yields is_shown (shows [] shown) (a.now.trees t))
  tells (Ok (Some xs)) h = has_shown xs.items h
  tells (Ok None) h = lacks_shown [] h
  tells (Err e) h = tt

unchanged_by : {X : Type 0} (is_shown : Shows X) (text : List ℕ) (a b : State)
    (r : Result (Option (Vec X Global)) Error) → IfOk r (Finds is_shown text a b) → OnOk r (IsUnchanged a b)
unchanged_by is_shown text a b (Ok (Some xs)) h = h.0
unchanged_by is_shown text a b (Ok None) h = h.0
unchanged_by is_shown text a b (Err e) h = tt

module _ (Known : Schema → Type 0) (text : List ℕ) (t : ℕ) (shown : List Term) (names : List (List ℕ))
    (reads : ReadsTree Known text (whole t shown) names) where
  pub plain_text : IsPlainText text
  plain_text = understood_bare text reads.bare

  refused_only : (a b : State) → Known a.now.schema → {A : Type 0} (r : Result A Error) → IfErr r (IsFault text a b)
      → IfErr r (IsRefusal a b)
  refused_only a b known (Ok x) h = tt
  refused_only a b known (Err e) h = h (answerable Known text t shown names reads a known)

  -- what is told of the text is told of the table
  pub reads_whole : {S X : Type 0} (g : Ghosts S) (is_shown : Shows X) → ShowsKey shown → (old new : Held S)
      (r : Result (Option (Vec X Global)) Error) → Looks g old new
      → IfClean g old new (λ a b. IfOk r (Finds is_shown text a b))
      → IfClean g old new (λ a b. IfErr r (IsFault text a b))
      → Reads g Known (λ db. Yields is_shown (shows [] shown) (db.trees t)) old new r
  reads_whole g is_shown first old new r looks taken fault = record {
    looks = looks;
    found = λ clean known. tells is_shown Known text t shown names reads first (state g old) (state g new) known r
        (taken clean);
    same = λ clean. unchanged_by is_shown text (state g old) (state g new) r (taken clean);
    fault = λ clean known. refused_only (state g old) (state g new) known r (fault clean);
  }
