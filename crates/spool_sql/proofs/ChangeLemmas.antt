-- What an UPDATE or a DELETE with WHERE leaves of a table.
use Rattle.std.proofs.Common.{◌≡◌, ◌≤◌, ◌⊎◌, inl, inr, ℕ, ℤ, length, arith, List, [], ◌∷◌, ◌++◌, map, filter, drop}
use Rattle.std.proofs.Common.{Bool, true, false, cond, not, ◌||◌, ◌&&◌, if◌then◌else◌, slice_get, Some, None, Ok, refl}
use Rattle.std.proofs.Common.{sym, ap, ap₂, subst, subst₂, ◌∙◌, append_assoc, append-nil}
use Rattle.std.specs.declared.cmp.Ordering.{Ordering}
use Rattle.std.specs.declared.cmp.Ordering.TheVariants.{Less, Equal, Greater}
use Rattle.std.specs.Ordering.{is_eq}
use Rattle.std.specs.List.{list_any}
use Rattle.std.proofs.lemmas.Cmp.{tied_itself}
use Rattle.std.proofs.lemmas.List.Elements.{filter-append}
use Rattle.std.specs.FinMap.{int_cmp-IsAntisymmetric}
use Rattle.std.specs.List.Sorted.{IsPermutation}
use Rattle.std.proofs.lemmas.Bool.{cases_Bool, false_from_ne_true}
use Rattle.std.proofs.lemmas.List.Sorted.{IsPermutation-refl, IsPermutation-sym, IsPermutation-trans}
use Rattle.std.proofs.lemmas.List.Sorted.{IsPermutation-cons, IsPermutation-map, IsPermutation-append}
use Rattle.std.proofs.lemmas.List.Sorted.{IsPermutation-middle, length_permutation, list_any-IsPermutation}
use Rattle.sqlite_trees.proofs.ListLemmas.{IsPermutation-same, IsPermutation-filter, all-filter, filter_same, pull_back}
use Rattle.sqlite.specs.Order.{Row}
use Rattle.sqlite.specs.declared.types.Value.TheVariants.{Int}
use Rattle.sqlite.specs.Term.{Term}
use Rattle.sqlite.specs.Table.{Table}
use Rattle.sqlite_value.specs.Order.{value_cmp}
use Rattle.sqlite_value.proofs.OrderLemmas.{value_cmp_total, value_cmp-Int}
use Rattle.sqlite_trees.proofs.TreeLemmas.{all-put_row}
use Rattle.sqlite_rules.proofs.TableLemmas.{int_is}
use Rattle.sqlite.specs.Tree.{Trees, rowid, has_rowid, put_row, without_rowid}
use Rattle.sqlite_rules.specs.Lists.{Has}
use Rattle.sqlite_rules.specs.Cast.{cast_row}
use Rattle.sqlite_rules.specs.Edit.{id_in, without_all, put_all, is_taken, are_fresh, edit_of, left_by, edited}
use Rattle.sqlite_rules.specs.Edit.{taken_by}
use Rattle.sqlite_rules.specs.Calls.{ids_of}
use Rattle.sqlite_rules.proofs.ListLemmas.{all_has, all_from, has_filtered, has_kept, some_has, some_from}
use Rattle.sqlite_rules.proofs.ProbeLemmas.{mapped_has}
use Rattle.sqlite_rules.proofs.PlaceLemmas.{given}
use Rattle.sqlite.specs.Rowids.TheVariants.{Given}
use Rattle.sqlite_rules.specs.Action.{works, Writes as Goes}
use Rattle.sqlite_schema.specs.declared.program.Program.{Program}
use Rattle.sqlite_schema.specs.declared.schema.Keys.TheVariants.{Enforced}
use Rattle.sqlite.specs.Command.TheVariants.{Delete}
use Rattle.sqlite.specs.Does.{Does, OnRows}
use Rattle.sqlite.specs.Rows.{Written, Task, Deletes}
use Rattle.sqlite.specs.Effect.{Answers}
use Rattle.sqlite.specs.Schema.{Schema}
use Rattle.sqlite.specs.Listing.{understood}
use Rattle.sqlite.specs.State.{State, mode_of, Executes}
use Rattle.sqlite.proofs.Callers.{statement_of, runs_as, one_step}
use Rattle.spool_sql.proofs.InsertLemmas.{Means, Wrote, left_as, went, same_value}
use Rattle.spool_sql.specs.Stored.{HasRowids}
use Rattle.spool_sql.proofs.SelectLemmas.{map_map}
use Rattle.spool_sql.proofs.TypedLemmas.{put_fresh}
use Rattle.spool_sql.proofs.UpdateLemmas.{shows, passes, IsPutIn, wrote_by}

-- ---- the rows that are taken out

abbrev has_one : List ℤ → Row → Bool
has_one ids r = list_any (λ id. has_rowid id r) ids

all_left : (rows : List Row) → rows ≡ filter (λ r. not (has_one [] r)) rows
all_left [] = refl
all_left (r ∷ rows) = ap (λ xs. r ∷ xs) (all_left rows)

left_twice : (id : ℤ) (ids : List ℤ) (rows : List Row) → filter (λ r. not (has_one ids r)) (without_rowid id rows)
    ≡ filter (λ r. not (has_one (id ∷ ids) r)) rows
left_twice id ids [] = refl
left_twice id ids (r ∷ rows) = tested (has_rowid id r) (has_one ids r) refl (left_twice id ids rows)
  where
    tested : (a b : Bool) → has_one ids r ≡ b → filter (λ x. not (has_one ids x)) (without_rowid id rows) ≡ filter
        (λ x. not (has_one (id ∷ ids) x)) rows
        → filter (λ x. not (has_one ids x)) (cond (not a) (r ∷ without_rowid id rows) (without_rowid id rows))
        ≡ cond (not (a || b)) (r ∷ filter (λ x. not (has_one (id ∷ ids) x)) rows)
        (filter (λ x. not (has_one (id ∷ ids) x)) rows)
    tested true b is rest = rest
    tested false true is rest = rw is rest
    tested false false is rest = rw is (ap (λ xs. r ∷ xs) rest)

left_of : (ids : List ℤ) (rows : List Row) → without_all rows ids ≡ filter (λ r. not (has_one ids r)) rows
left_of [] rows = all_left rows
left_of (id ∷ ids) rows = left_of ids (without_rowid id rows) ∙ left_twice id ids rows

pub has_image : {X Y : Type 0} (f : X → Y) (xs : List X) (y : Y) → Has (map f xs) y → (x : X) × Has xs x × (y ≡ f x)
has_image f [] y h = absurd h
has_image f (x ∷ xs) y (inl same) = (x, inl refl, same)
has_image f (x ∷ xs) y (inr later) = let found = has_image f xs y later in (found.0, inr found.1, found.2)

-- Where no other row has the rowid of one that passes, taking out these rowids takes out those that pass.
pub left_over : (p : Row → Bool) (rows : List Row) (ids : List ℤ)
    → IsPermutation (map (λ r. id_in (rowid r)) (filter p rows)) ids
    → ((r : Row) → Has rows r → p r ≡ true → has_rowid (id_in (rowid r)) r ≡ true)
    → ((r s : Row) → Has rows r → Has rows s → p s ≡ true → has_rowid (id_in (rowid s)) r ≡ true → p r ≡ true)
    → without_all rows ids ≡ filter (λ r. not (p r)) rows
left_over p rows ids these own alone =
    left_of ids rows ∙ filter_same (λ r. not (has_one ids r)) (λ r. not (p r)) rows
    (all_from _ rows (λ r there. ap not (both r there (cases_Bool (p r)))))
  where
    f : Row → ℤ
    f r = id_in (rowid r)

    same_test : (r : Row) → has_one ids r ≡ list_any (λ id. has_rowid id r) (map f (filter p rows))
    same_test r = sym (list_any-IsPermutation (λ id. has_rowid id r) (map f (filter p rows)) ids these)

    both : (r : Row) → Has rows r → (p r ≡ true) ⊎ (p r ≡ false) → has_one ids r ≡ p r
    both r there (inl passes) =
        same_test r ∙ some_from (λ id. has_rowid id r) (map f (filter p rows)) (f r)
        (mapped_has f (filter p rows) r (has_kept p rows r there passes)) (own r there passes) ∙ sym passes
    both r there (inr fails) = same_test r ∙ false_from_ne_true _ (λ some.
        let id = some_has (λ i. has_rowid i r) (map f (filter p rows)) some in
        let s = has_image f (filter p rows) id.0 id.1 in
        let was = has_filtered p rows s.0 s.1 in
        let here = alone r s.0 there was.0 was.1 (subst (λ i. has_rowid i r ≡ true) s.2 id.2) in cc) ∙ sym fails

equal_is : (o : Ordering) → is_eq o ≡ true → o ≡ Equal
equal_is Equal h = refl
equal_is Less h = absurd (let e = h in cc)
equal_is Greater h = absurd (let e = h in cc)

same_int : (m n : ℤ) → is_eq (value_cmp (Int m) (Int n)) ≡ true → n ≡ m
same_int m n e = sym (int_cmp-IsAntisymmetric m n (sym (value_cmp-Int m n) ∙ equal_is _ e))

pub one_at_most : {X : Type 0} (xs : List X) (x y : X) → length xs ≤ 1 → Has xs x → Has xs y → x ≡ y
one_at_most [] x y few h k = absurd h
one_at_most (z ∷ []) x y few (inl a) (inl b) = a ∙ sym b
one_at_most (z ∷ []) x y few (inl a) (inr k) = absurd k
one_at_most (z ∷ []) x y few (inr h) k = absurd h
one_at_most (z ∷ w ∷ zs) x y few h k = absurd (omega (arith, few))

-- in a tree of a table each row has a rowid of its own
module _ (tree : List Row) (rowids : HasRowids tree) (p : Row → Bool) where
  own_rowid : (r : Row) → Has tree r → has_rowid (id_in (rowid r)) r ≡ true
  own_rowid r there =
      let keyed = int_is (rowid r) (all_has _ tree r rowids.numbered there) in
      subst (λ v. is_eq (value_cmp (rowid r) v) ≡ true) keyed (ap is_eq (tied_itself value_cmp_total (rowid r)))

  pub left_in_table : (ids : List ℤ) → IsPermutation (map (λ r. id_in (rowid r)) (filter p tree)) ids
      → without_all tree ids ≡ filter (λ r. not (p r)) tree
  left_in_table ids these =
      left_over p tree ids these (λ r there here. own_rowid r there)
      (λ r s there other here tie.
      let one = has_rowid (id_in (rowid s)) in
      let same = one_at_most (filter one tree) r s (rowids.once (id_in (rowid s))) (has_kept one tree r there tie)
      (has_kept one tree s other (own_rowid s other)) in
      subst (λ x. p x ≡ true) (sym same) here)

fewer : (p q : Row → Bool) (rows : List Row) → length (filter p (filter q rows)) ≤ length (filter p rows)
fewer p q [] = omega arith
fewer p q (r ∷ rows) = at (q r) (p r) refl (fewer p q rows)
  where
    at : (a b : Bool) → p r ≡ b → length (filter p (filter q rows)) ≤ length (filter p rows)
        → length (filter p (cond a (r ∷ filter q rows) (filter q rows))) ≤ length
        (cond b (r ∷ filter p rows) (filter p rows))
    at true true is less = rw is (omega (arith, less))
    at true false is less = rw is less
    at false true is less = omega (arith, less)
    at false false is less = less

pub left_rowids : (ids : List ℤ) (tree : List Row) → HasRowids tree → HasRowids (without_all tree ids)
left_rowids [] tree rowids = rowids
left_rowids (id ∷ ids) tree rowids = left_rowids ids (without_rowid id tree) (record {
  numbered = all-filter _ (λ r. not (has_rowid id r)) tree rowids.numbered;
  once = λ other. omega (arith, fewer (has_rowid other) (λ r. not (has_rowid id r)) tree, rowids.once other);
})

none_kept : {X : Type 0} (p : X → Bool) (xs : List X) → list_any p xs ≡ false → filter p xs ≡ []
none_kept p [] e = refl
none_kept p (x ∷ xs) e = at (p x) e (none_kept p xs)
  where
    at : (b : Bool) → b || list_any p xs ≡ false → (list_any p xs ≡ false → filter p xs ≡ [])
        → cond b (x ∷ filter p xs) (filter p xs) ≡ []
    at true e rest = absurd (let f = e in cc)
    at false e rest = rest e

-- a row whose rowid is free
module _ (id : ℤ) (rest : Row) (rows : List Row) (free : are_fresh rows ((Int id ∷ rest) ∷ []) ≡ true)
    (rowids : HasRowids rows) where
  abbrev put : Row
  put = Int id ∷ rest

  none_with : filter (has_rowid id) rows ≡ []
  none_with = none_kept (has_rowid id) rows (untaken _ free)
    where
      untaken : (b : Bool) → not b && true ≡ true → b ≡ false
      untaken false e = refl
      untaken true e = absurd (let f = e in cc)

  few : (other : ℤ) (b : Bool) → is_eq (value_cmp (Int id) (Int other)) ≡ b
      → length (filter (has_rowid other) rows ++ cond b (put ∷ []) []) ≤ 1
  few other false e = rw (append-nil (filter (has_rowid other) rows)) (rowids.once other)
  few other true e = rw (ap (λ n. filter (has_rowid n) rows) (same_int id other e) ∙ none_with) (omega arith)

  pub put_rowids : HasRowids (put_row put rows)
  put_rowids = record {
    numbered = all-put_row _ put rows refl rowids.numbered;
    once = λ other.
        let long = length_permutation _ _ (IsPermutation-filter (has_rowid other) _ _ (put_fresh put rows free)) in
        omega (
          arith,
          long,
          ap length (filter-append (has_rowid other) rows (put ∷ [])),
          few other (has_rowid other put)
              refl,
        );
  }

-- ---- the rows that are put in

fresh_first : (a b : Bool) → not a && b ≡ true → (not a && true ≡ true) × (b ≡ true)
fresh_first false b e = (refl, e)
fresh_first true b e = absurd (let f = e in cc)

pub put_all_fresh : (rows news : List Row) → are_fresh rows news ≡ true
    → IsPermutation (put_all rows news) (rows ++ news)
put_all_fresh rows [] free = subst (IsPermutation rows) (sym (append-nil rows)) (IsPermutation-refl rows)
put_all_fresh rows (n ∷ news) free =
    let both = fresh_first (is_taken rows n) _ free in
    let rest = put_all_fresh (put_row n rows) news both.1 in
    subst (IsPermutation (put_all (put_row n rows) news)) (append_assoc rows (n ∷ []) news)
    (IsPermutation-trans _ _ _ rest (IsPermutation-append _ _ news news (put_fresh n rows both.0)
    (IsPermutation-refl news)))

-- the rows that don't pass, and the others changed
changed_where : (p : Row → Bool) (f : Row → Row) (rows : List Row)
    → IsPermutation (filter (λ r. not (p r)) rows ++ map f (filter p rows)) (map (λ r. cond (p r) (f r) r) rows)
changed_where p f [] = IsPermutation-refl []
changed_where p f (r ∷ rows) = tested (p r) (changed_where p f rows)
  where
    tested : (b : Bool) → IsPermutation (filter (λ x. not (p x)) rows ++ map f (filter p rows))
        (map (λ x. cond (p x) (f x) x) rows)
        → IsPermutation (cond (not b) (r ∷ filter (λ x. not (p x)) rows) (filter (λ x. not (p x)) rows) ++ map f
        (cond b (r ∷ filter p rows) (filter p rows)))
        (cond b (f r) r ∷ map (λ x. cond (p x) (f x) x) rows)
    tested true rest = IsPermutation-trans _ _ _ (IsPermutation-middle (filter (λ x. not (p x)) rows) (f r)
        (map f (filter p rows))) (IsPermutation-cons (f r) _ _ rest)
    tested false rest = IsPermutation-cons r _ _ rest

-- ---- what an UPDATE makes of typed rows

module _ {X : Type 0} (row : X → Row) (table : Table) (params : Row) (tests shown : List Term) (test : X → Bool)
    (edit : X → X)
    (passed : (x : X) → passes params tests (row x) ≡ test x)
    (changed : (x : X) → cast_row table (drop 1 (shows params shown (row x))) ≡ row (edit x))
    (first : (r : Row) → rowid (shows params shown r) ≡ rowid r)
    (own : (x : X) → has_rowid (id_in (rowid (row x))) (row x) ≡ true)
    (alone : (x y : X) → test y ≡ true → has_rowid (id_in (rowid (row y))) (row x) ≡ true → test x ≡ true) where
  -- a row as it is written
  abbrev made : Row → Row
  made r = cast_row table (drop 1 (shows params shown r))

  abbrev pub change : X → X
  change x = if test x then edit x else x

  change_is : (x : X) → cond (passes params tests (row x)) (made (row x)) (row x) ≡ row (change x)
  change_is x = rw (passed x) (tested (test x))
    where
      tested : (b : Bool) → cond b (made (row x)) (row x) ≡ row (cond b (edit x) x)
      tested true = changed x
      tested false = refl

  map_same : (xs : List X) → map (λ r. cond (passes params tests r) (made r) r) (map row xs) ≡ map row (map change xs)
  map_same [] = refl
  map_same (x ∷ xs) = ap₂ ◌∷◌ (change_is x) (map_same xs)

  left_typed : (xs : List X) (found : List Row)
      → IsPermutation (map (shows params shown) (filter (passes params tests) (map row xs))) found
      → without_all (map row xs) (ids_of found) ≡ filter (λ r. not (passes params tests r)) (map row xs)
  left_typed xs found all =
      let p = passes params tests in
      let ids : IsPermutation (map (λ r. id_in (rowid r)) (filter p (map row xs))) (ids_of found) =
      subst (λ l. IsPermutation l (ids_of found))
      (map_map (shows params shown) (λ r. id_in (rowid r)) (filter p (map row xs))
      ∙ id_same (filter p (map row xs))) (IsPermutation-map (λ r. id_in (rowid r)) _ _ all) in
      left_over p (map row xs) (ids_of found) ids
      (λ r there here. let x = has_image row xs r there in subst (λ s. has_rowid (id_in (rowid s)) s ≡ true) (sym x.2)
      (own x.0))
      (λ r s there other here tie.
      let x = has_image row xs r there in
      let y = has_image row xs s other in
      let y_passes : test y.0 ≡ true = sym (passed y.0) ∙ subst (λ z. p z ≡ true) y.2 here in
      let tied : has_rowid (id_in (rowid (row y.0))) (row x.0) ≡ true = subst₂
      (λ a b. has_rowid (id_in (rowid a)) b ≡ true) y.2 x.2 tie in
      ap p x.2 ∙ passed x.0 ∙ alone x.0 y.0 y_passes tied)
    where
      id_same : (rs : List Row) → map (λ r. id_in (rowid (shows params shown r))) rs ≡ map (λ r. id_in (rowid r)) rs
      id_same [] = refl
      id_same (r ∷ rs) = ap₂ ◌∷◌ (ap id_in (first r)) (id_same rs)

  changes_all : (db : Trees) (xs : List X) (found : List Row) → db table.tree ≡ map row xs
      → IsPermutation (map (shows params shown) (filter (passes params tests) (map row xs))) found
      → IsPutIn db (edit_of db table (ids_of found) Given 1 found)
      → IsPermutation (edited db (edit_of db table (ids_of found) Given 1 found)) (map row (map change xs))
  changes_all db xs found is all fresh =
      let p = passes params tests in
      let the = edit_of db table (ids_of found) Given 1 found in
      let left : left_by db the ≡ filter (λ r. not (p r)) (map row xs) = ap (λ rows. without_all rows (ids_of found))
      is ∙ left_typed xs found all in
      let news : the.news ≡ map (λ s. cast_row table (drop 1 s)) found = given _ _ in
      let moved : IsPermutation (map (λ s. cast_row table (drop 1 s)) found) (map made (filter p (map row xs))) =
      subst (IsPermutation (map (λ s. cast_row table (drop 1 s)) found))
      (map_map (shows params shown) (λ s. cast_row table (drop 1 s)) (filter p (map row xs)))
      (IsPermutation-sym _ _ (IsPermutation-map (λ s. cast_row table (drop 1 s)) _ _ all)) in
      let put = put_all_fresh (left_by db the) the.news fresh in
      let both : IsPermutation (left_by db the ++ the.news)
      (filter (λ r. not (p r)) (map row xs) ++ map made (filter p (map row xs))) =
      IsPermutation-append _ _ _ _ (IsPermutation-same _ _ left)
      (subst (λ l. IsPermutation l (map made (filter p (map row xs)))) (sym news) moved) in
      subst (IsPermutation (edited db the)) (map_same xs)
      (IsPermutation-trans _ _ _ put (IsPermutation-trans _ _ _ both (changed_where p made (map row xs))))

  pub updated_typed : (db : Trees) (xs : List X) (found : List Row) → IsPermutation (db table.tree) (map row xs)
      → IsPermutation (map (shows params shown) (filter (passes params tests) (db table.tree))) found
      → IsPutIn db (edit_of db table (ids_of found) Given 1 found)
      → IsPermutation (edited db (edit_of db table (ids_of found) Given 1 found)) (map row (map change xs))
  updated_typed db xs found are all fresh =
      let from = pull_back row (map row xs) (db table.tree) (IsPermutation-sym _ _ are) xs refl in
      let here = changes_all db from.0 found from.2
      (subst (λ rows. IsPermutation (map (shows params shown) (filter (passes params tests) rows)) found) from.2
      all) fresh in
      IsPermutation-trans _ _ _ here
      (IsPermutation-map row _ _ (IsPermutation-map change _ _ (IsPermutation-sym _ _ from.1)))

-- ---- what a DELETE does to a database of the relay

deleted_by : (task : Task) (q : Program) (db : Trees) (w : Written) → Deletes task q db (Ok w)
    → (rows : List Row) × Answers (record { schema = task.schema; trees = db }) q task.params rows
    × Goes task.schema task.keys db (edit_of db task.table (ids_of rows) Given 0 []) (Ok w.trees)
deleted_by task q db w h =
    let found = went h in
    let made = went found.2 in (
      found.0,
      found.1,
      subst (λ t. Goes task.schema task.keys db (edit_of db task.table (ids_of found.0) Given 0 [])
          (Ok t)) (sym (ap (λ (it : Written). it.trees) (same_value made.2))) made.1,
    )

module _ (schema : Schema) (sql : List ℕ) (params : Row) (at : ℕ) (q : Program) (table : Table)
    (means : Means schema sql (Delete at q)) (listed : slice_get schema.tables at ≡ Some table)
    (idle : (tree : ℕ) (olds news : List Row) → works schema Enforced 0 tree olds news ≡ []) where
  pub deletes : (old new : State) (count : ℕ) → old.now.schema ≡ schema → Executes sql params old new (Ok count)
      → (rows : List Row) × Answers (record { schema = schema; trees = old.now.trees }) q params rows
      × Wrote schema old new table.tree (without_all (old.now.trees table.tree) (ids_of rows))
  deletes old new count has h =
      let db = old.now.trees in
      let w = runs_as sql params old new schema has (Delete at q) means.is means.plain count h in
      let text = statement_of sql (understood schema sql) in
      let task : Task = record {
        limit = old.step_limit;
        keys = Enforced;
        schema = schema;
        table = table;
        params =
            params;
      } in
      let on : OnRows task (mode_of old) None (Delete at q) db (Ok (w.tally, new.now)) =
      rw listed at
      (subst (λ s. Does old.step_limit (mode_of old) params (record old.now { schema = s }) text None (Delete at q)
      (Ok (w.tally, new.now))) has w.changed) in
      let made = left_as task (mode_of old) (Delete at q) db w.tally new.now on in
      let edit = deleted_by task q db made.0 made.1 in
      let the = edit_of db table (ids_of edit.0) Given 0 [] in
      let it = one_step schema Enforced db made.0.trees the (idle table.tree (taken_by db the) the.news) edit.2 in
      (edit.0, edit.1, wrote_by schema old new the made.0.trees w.sound made.2 it)
