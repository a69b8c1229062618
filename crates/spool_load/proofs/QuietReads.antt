-- Reads that change nothing, one after another, and the rows that they read.
use Rattle.std.proofs.Common.{◌≡◌, ◌≤◌, true, false, List, [], ◌∷◌, ◌++◌, map, drop, IsTrue, sym, ap, subst, ◌∙◌}
use Rattle.std.proofs.Common.{arith, append-nil, append_assoc}
use Rattle.std.specs.Prelude.{nat_lt}
use Rattle.std.specs.Option.{option_map_or}
use Rattle.std.proofs.lemmas.List.{map-append}
use Rattle.sqlite.specs.State.{State, HasCleanDisk, IsUnchanged}
use Rattle.sqlite.proofs.Callers.{unchanged_then}
use Rattle.sqlite.proofs.StateLemmas.{unchanged}
use Rattle.relay_types.specs.declared.limits.TheConstants.{MAX_RECORDS}
use Rattle.relay_types.specs.Values.{Seq}
use Rattle.relay_types.specs.Rows.{Rows}
use Rattle.spool_sql.specs.Stored.{IsPage, IsTables, page_rows}
use Rattle.spool_sql.specs.Steps.{Spares}
use Rattle.spool_sql.proofs.StepLemmas.{spares_then}
use Rattle.spool_sql.specs.Reading.{IsRising, IsLeft, ComeNext, ReadsOn}
use Rattle.spool_sql.proofs.StepLemmas.{spares_none}
use Rattle.spool_sql.proofs.PageLaws.{behind_page, last_number, left_all, next_from, none_left, page_is, parted_page}
use Rattle.spool_sql.proofs.PageLaws.{rises_on}

-- What the reads leave

-- nothing is changed, as far as an open store tells
pub record IsQuiet (a b : State) : Type 0 where
  pub spares : Spares a b
  pub unchanged : HasCleanDisk b → IsTrue a.is_open → IsUnchanged a b

pub quiet_none : (a : State) → IsQuiet a a
quiet_none a = record { spares = spares_none a; unchanged = λ clean is_open. unchanged a is_open }

pub quiet_look : (a b : State) → Spares a b → (HasCleanDisk b → IsUnchanged a b) → IsQuiet a b
quiet_look a b spares same = record { spares = spares; unchanged = λ clean is_open. same clean }

pub clean_before : (a b : State) → Spares a b → HasCleanDisk b → HasCleanDisk a
clean_before a b spares clean = omega (arith, clean, spares.survives.clean)

pub quiet_then : (a b c : State) → IsQuiet a b → IsQuiet b c → IsQuiet a c
quiet_then a b c p q = record {
  spares = spares_then a b c p.spares q.spares;
  unchanged = λ clean is_open.
      let same = p.unchanged (clean_before b c q.spares clean) is_open in
      unchanged_then a b c same (q.unchanged clean same.0.is_open);
}

-- the tables of an open store are those of before
pub tables_along : (a b : State) (rows : Rows) → IsQuiet a b → HasCleanDisk b → IsTrue b.is_open → IsTables a.now rows
    → IsTables b.now rows
tables_along a b rows quiet clean is_open = subst (λ d. IsTables d rows)
    (sym (quiet.unchanged clean ((quiet.spares.kept clean).was_open is_open)).0.now_is)

-- What is read

module _ {X : Type 0} (number : X → Seq) (table : List X) where
  -- the rows with numbers below this one were read, and so much is known of them
  abbrev pub IsReadTo : (List X → Type 0) → Seq → Type 0
  IsReadTo P from = (read : List X) × (left : List X) × IsLeft number from table read left × P read

  pub read_none : (P : List X → Type 0) → IsRising number 0 MAX_RECORDS table → P [] → IsReadTo P 0
  read_none P rises none = ([], table, left_all number table rises, none)

  read_page : (P Q : List X → Type 0) (from : Seq) (page : List X) → ReadsOn table P Q page → from ≤ MAX_RECORDS
      → IsPage number from table page → IsReadTo P from → IsReadTo Q (next_from number page)
  read_page P Q from page reads bound is (read, left, h, so_far) =
      let after = behind_page number from table read left page bound h is in
      (read ++ page, after.0, after.2, reads read after.0 (h.parted ∙ ap (λ rest. read ++ rest) after.1) so_far)

  -- one page more, looked up after the reads before, and taken in
  pub page_then : (a b m z : State) (rows : Rows) (P Q : List X → Type 0) (from next : Seq) (page : List X)
      → IsQuiet a b → Spares b m → (HasCleanDisk m → IsUnchanged b m) → Spares m z
      → (HasCleanDisk b → IsTables a.now rows → IsReadTo P from)
      → (HasCleanDisk m → IsTables b.now rows → IsPage number from table page)
      → (HasCleanDisk z → IsTables m.now rows → ReadsOn table P Q page)
      → from ≤ MAX_RECORDS → next ≡ next_from number page → HasCleanDisk z → IsTables a.now rows → IsReadTo Q next
  page_then a b m z rows P Q from next page quiet look same step so_far found reads bound is clean tables =
      let at_m = clean_before m z step clean in
      let at_b = clean_before b m look at_m in
      let unchanged = same at_m in
      let there = tables_along a b rows quiet at_b unchanged.0.was_open tables in
      let here = subst (λ d. IsTables d rows) (sym unchanged.0.now_is) there in
      subst (IsReadTo Q) (sym is)
      (read_page P Q from page (reads clean here) bound (found at_m there) (so_far at_b tables))

  -- a page from there on comes next
  pub comes_next : (P : List X → Type 0) (from : Seq) (page : List X) → IsReadTo P from → IsPage number from table page
      → ComeNext table P page
  comes_next P from page (read, left, h, so_far) is =
      let parted = parted_page number from table read left page h (page_is number from table read left page h is) in
      (read, drop page_rows left, h.parted ∙ ap (λ rest. read ++ rest) parted, so_far)

  -- and the last of its rows isn't below that number
  pub page_rises : (P : List X → Type 0) (from : Seq) (page : List X) → IsReadTo P from → IsPage number from table page
      → option_map_or (λ last. nat_lt last from) (last_number number page) false ≡ true → ⊥
  page_rises P from page (read, left, h, so_far) is = rises_on number from table read left page h is

  pub read_whole : (P : List X → Type 0) (from : Seq) → MAX_RECORDS ≤ from → IsReadTo P from → P table
  read_whole P from l (read, left, h, so_far) =
      let none = none_left number from table read left l h in
      subst P (sym (h.parted ∙ ap (λ rest. read ++ rest) none ∙ append-nil read)) so_far

module _ {X : Type 0} (table : List X) where
  pub reads_none : (P : List X → Type 0) → ReadsOn table P P []
  reads_none P before after is h = subst P (sym (append-nil before)) h

  -- some rows, and then more
  pub reads_then : (P Q R : List X → Type 0) (some more : List X) → ReadsOn table P Q some → ReadsOn table Q R more
      → ReadsOn table P R (some ++ more)
  reads_then P Q R some more p q before after is h =
      let whole = is ∙ ap (λ rest. before ++ rest) (append_assoc some more after) in
      subst R (append_assoc before some more)
      (q (before ++ some) after (whole ∙ sym (append_assoc before some (more ++ after)))
      (p before (more ++ after) whole h))

  -- the next rows, of which some were read already
  pub next_then : (P Q : List X → Type 0) (some more : List X) → ReadsOn table P Q some
      → ComeNext table P (some ++ more) → ComeNext table Q more
  next_then P Q some more p (before, after, is, h) =
      let whole = is ∙ ap (λ rest. before ++ rest) (append_assoc some more after) in
      (before ++ some, after, whole ∙ sym (append_assoc before some (more ++ after)), p before (more ++ after) whole h)

  -- the first of the next rows
  pub next_first : (P : List X → Type 0) (x : X) (more : List X) → ComeNext table P (x ∷ more)
      → ComeNext table P (x ∷ [])
  next_first P x more (before, after, is, h) = (before, more ++ after, is, h)

  -- the one that is reached, among rows that come next
  pub next_row : {Y : Type 0} (f : Y → X) (P Q : List X → Type 0) (some items : List Y) (row : Y)
      → ((rest : List Y) × (items ≡ some ++ (row ∷ rest)))
      → ReadsOn table P Q (map f some) → ComeNext table P (map f items) → ComeNext table Q (f row ∷ [])
  next_row f P Q some items row (rest, is) reads next =
      next_first Q (f row) (map f rest)
      (next_then P Q (map f some) (f row ∷ map f rest) reads
      (subst (ComeNext table P) (ap (map f) is ∙ map-append f some (row ∷ rest)) next))
