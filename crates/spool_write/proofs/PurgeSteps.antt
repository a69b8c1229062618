-- The statements of a Purge, one after another, inside its transaction.
use Rattle.std.proofs.Common.{◌≡◌, ◌<◌, ◌≤◌, ℕ, zero, suc, ◌+◌, ◌==◌, Bool, true, false, ◌||◌, nat_lt, List, [], ◌∷◌}
use Rattle.std.proofs.Common.{◌++◌}
use Rattle.std.proofs.Common.{◌&&◌, filter, slice_get, length, map, take, Option, Some, None, IsTrue, refl, sym, ap}
use Rattle.std.proofs.Common.{subst, ◌∙◌, arith, add-one}
use Rattle.std.specs.Prelude.{get_or}
use Rattle.std.specs.Option.{option_map_or}
use Rattle.std.specs.List.Sorted.{IsNonDecreasingBy}
use Rattle.std.proofs.lemmas.Bool.{le-leb}
use Rattle.sqlite.specs.State.{State, IsUnchanged}
use Rattle.relay_types.specs.declared.limits.TheConstants.{MAX_MOMENT, MAX_RECORDS}
use Rattle.relay_types.specs.declared.record.Record.{Record}
use Rattle.relay_types.specs.declared.record.Record.TheVariants.{Purge}
use Rattle.relay_types.specs.Legal.{is_legal}
use Rattle.relay_types.specs.Lists.{last_of}
use Rattle.relay_types.specs.Rows.{Rows, DeliveryRow, is_past_in, rows_of}
use Rattle.relay_types.specs.Sound.{IsRisingFrom}
use Rattle.relay_types.proofs.KnownLaws.{legal_more}
use Rattle.relay_types.proofs.RowLaws.{rows_of-more}
use Rattle.spool_sql.specs.declared.row.Tried.{Tried}
use Rattle.spool_sql.specs.Stored.{IsTables, IsPage, AreTriesBetween, HaveOwnNumbers, with_records, without_attempts}
use Rattle.spool_sql.specs.Stored.{without_delivery}
use Rattle.spool_sql.specs.Steps.{Alters, AltersWhere}
use Rattle.spool_write.specs.Entering.{AreInTurn, AreWalkable, Enters, HasRows, are_past, is_past_by, without_events}
use Rattle.spool_write.specs.Entering.{without_past}
use Rattle.spool_write.proofs.EntryLemmas.{goes_then, goes_if_same}
use Rattle.spool_write.proofs.PurgeLemmas.{gone_twice, is_listed, kept_event, legal_walkable, none_gone, none_past}
use Rattle.spool_write.proofs.PurgeLemmas.{own_numbers, page_past, taken_event, tries_rise, turn_left, walk_ends}
use Rattle.spool_write.proofs.PurgeLemmas.{walk_none, walk_rises, walk_some, walk_starts}

-- the tables of a state that changed nothing
along : (a b : State) (rows : Rows) → IsUnchanged a b → IsTables a.now rows → IsTables b.now rows
along a b rows same t = subst (λ d. IsTables d rows) (sym same.0.now_is) t

-- ---- one event

-- nothing is done, and nothing is taken out
pub stays : (s : State) (known : Rows → Type 0) (gone : ℕ → Bool) → IsTrue s.in_transaction → IsTrue s.is_open
    → ((rows : Rows) → known rows → rows ≡ without_events gone rows) → AltersWhere s s known (without_events gone)
stays s known gone inside is_open none = record {
  on = record { was_open = is_open; is_open = is_open; now_is = refl; committed_is = refl; mode = inside };
  makes = λ rows is t. subst (IsTables s.now) (none rows is) t;
}

abbrev pub AreByEvent : List Tried → Type 0
AreByEvent = IsNonDecreasingBy (λ (t : Tried). t.delivery)

abbrev pub IsTaken : (before delivery : ℕ) (tries : List Tried) → ℕ → Bool
IsTaken before delivery tries d = (delivery == d) && is_past_by before tries d

module _ (before delivery : ℕ) (tries these : List Tried)
    (at : AreByEvent tries → these ≡ filter (λ (t : Tried). t.delivery == delivery) tries) where
  told : (ended : Bool) → are_past before these ≡ ended → AreByEvent tries → is_past_by before tries delivery ≡ ended
  told ended is rise = sym (ap (are_past before) (at rise)) ∙ is

  pub event_kept : (s : State) → IsTrue s.in_transaction → IsTrue s.is_open → are_past before these ≡ false
      → AltersWhere s s (λ rows. HaveOwnNumbers rows.attempts × AreByEvent tries)
      (without_events (IsTaken before delivery tries))
  event_kept s inside is_open left =
      stays s (λ rows. HaveOwnNumbers rows.attempts × AreByEvent tries) (IsTaken before delivery tries) inside is_open
      (λ rows is. kept_event (is_past_by before tries) delivery rows (told false left is.1))

  pub event_taken : (a b z : State) → are_past before these ≡ true
      → AltersWhere a b (λ rows. HaveOwnNumbers rows.attempts) (without_attempts delivery)
      → Alters b z (without_delivery delivery)
      → AltersWhere a z (λ rows. HaveOwnNumbers rows.attempts × AreByEvent tries)
      (without_events (IsTaken before delivery tries))
  event_taken a b z ended first second = record {
    on = goes_then a b z first.on second.on;
    makes = λ rows is t.
        subst (IsTables z.now) (taken_event (is_past_by before tries) delivery rows (told true ended is.1))
        (second.makes (without_attempts delivery rows) (first.makes rows is.0 t));
  }

-- ---- the events of a page

or_false : (b : Bool) → b || false ≡ b
or_false true = refl
or_false false = refl

or_assoc : (a b c : Bool) → a || (b || c) ≡ (a || b) || c
or_assoc true b c = refl
or_assoc false b c = refl

listed_more : (k : ℕ) (page : List ℕ) (x d : ℕ) → k < length page → x ≡ get_or page k x
    → is_listed (take (k + 1) page) d ≡ is_listed (take k page) d || (x == d)
listed_more k page x d below is = ap (λ n. is_listed (take n page) d) (add-one k) ∙ at k page below is
  where
    at : (k : ℕ) (page : List ℕ) → k < length page → x ≡ get_or page k x
        → is_listed (take (suc k) page) d ≡ is_listed (take k page) d || (x == d)
    at k [] below is = absurd (omega (arith, below))
    at zero (y ∷ ys) below is = or_false (y == d) ∙ ap (λ n. n == d) (sym is)
    at (suc k) (y ∷ ys) below is =
        ap (λ b. (y == d) || b) (at k ys (omega (arith, below)) is)
        ∙ or_assoc (y == d) (is_listed (take k ys) d) (x == d)

-- the events of a page that these attempts ended
abbrev pub are_taken : (before : ℕ) (page : List ℕ) (tries : List Tried) → ℕ → Bool
are_taken before page tries d = is_listed page d && is_past_by before tries d

pub page_begun : (s : State) (before : ℕ) (tries : List Tried) → IsTrue s.in_transaction → IsTrue s.is_open
    → AltersWhere s s (λ rows. AreInTurn rows × AreByEvent tries) (without_events (are_taken before [] tries))
page_begun s before tries inside is_open =
    stays s (λ rows. AreInTurn rows × AreByEvent tries) (are_taken before [] tries) inside is_open
    (λ rows is. none_gone (are_taken before [] tries) rows (λ d. refl))

and_either : (a b p : Bool) → (a || b) && p ≡ (a && p) || (b && p)
and_either true true true = refl
and_either true true false = refl
and_either true false true = refl
and_either true false false = refl
and_either false b p = refl

pub page_more : (a b z : State) (before k : ℕ) (page : List ℕ) (tries : List Tried) (x : ℕ) → k < length page
    → x ≡ get_or page k x
    → AltersWhere a b (λ rows. AreInTurn rows × AreByEvent tries)
    (without_events (are_taken before (take k page) tries))
    → AltersWhere b z (λ rows. HaveOwnNumbers rows.attempts × AreByEvent tries)
    (without_events (IsTaken before x tries))
    → AltersWhere a z (λ rows. AreInTurn rows × AreByEvent tries)
    (without_events (are_taken before (take (k + 1) page) tries))
page_more a b z before k page tries x below is p q = record {
  on = goes_then a b z p.on q.on;
  makes = λ rows known t.
      let here = without_events (are_taken before (take k page) tries) rows in
      let turn : AreInTurn here = turn_left (are_taken before (take k page) tries) rows known.0 in
      subst (IsTables z.now)
      (gone_twice (are_taken before (take k page) tries) (IsTaken before x tries)
      (are_taken before (take (k + 1) page) tries) rows
      (λ d. ap (λ b. b && is_past_by before tries d) (listed_more k page x d below is)
      ∙ and_either (is_listed (take k page) d) (x == d) (is_past_by before tries d)))
      (q.makes here (own_numbers here turn, known.1) (p.makes rows known t));
}

-- the attempts at the events of a page tell which of them ended
pub page_told : (a b z : State) (before first last : ℕ) (page : List ℕ) (tries : List Tried) → IsTrue a.in_transaction
    → IsUnchanged a b → ((rows : Rows) → IsTables a.now rows → AreTriesBetween first last rows tries)
    → slice_get page 0 ≡ Some first → last_of page ≡ Some last
    → AltersWhere b z (λ rows. AreInTurn rows × AreByEvent tries) (without_events (are_taken before page tries))
    → AltersWhere a z (λ rows. AreInTurn rows × IsRisingFrom (λ (n : ℕ). n) 0 page)
    (without_past before (is_listed page))
page_told a b z before first last page tries inside same told starts ends q = record {
  on = goes_then a b z (goes_if_same a b inside same) q.on;
  makes = λ rows known t.
      let tells = told rows t in
      subst (IsTables z.now) (page_past before first last page rows tries known.0 known.1 starts ends tells)
      (q.makes rows (known.0, tries_rise first last rows tries tells) (along a b rows same t));
}

none_first : {X : Type 0} (xs : List X) → slice_get xs 0 ≡ None → xs ≡ []
none_first [] e = refl
none_first (x ∷ xs) e = absurd (let no = e in cc)

-- a page of no event
pub page_empty : (s : State) (before : ℕ) (page : List ℕ) → IsTrue s.in_transaction → IsTrue s.is_open
    → slice_get page 0 ≡ None
    → AltersWhere s s (λ rows. AreInTurn rows × IsRisingFrom (λ (n : ℕ). n) 0 page)
    (without_past before (is_listed page))
page_empty s before page inside is_open none = record {
  on = record { was_open = is_open; is_open = is_open; now_is = refl; committed_is = refl; mode = inside };
  makes = λ rows known t.
      subst (IsTables s.now)
      (none_past before (is_listed page) rows
      (λ d. ap (λ l. is_listed l d && is_past_in rows before d) (none_first page none))) t;
}

-- ---- all pages

last_none : {X : Type 0} (xs : List X) → last_of xs ≡ None → xs ≡ []
last_none [] e = refl
last_none (x ∷ []) e = absurd (let no = e in cc)
last_none (x ∷ y ∷ xs) e = absurd (let no = last_none (y ∷ xs) e in cc)

pub walk_begun : (s : State) (before upto : ℕ) → IsTrue s.in_transaction → IsTrue s.is_open
    → AltersWhere s s (AreWalkable upto) (without_past before (λ d. nat_lt d 0))
walk_begun s before upto inside is_open = record {
  on = record { was_open = is_open; is_open = is_open; now_is = refl; committed_is = refl; mode = inside };
  makes = λ rows walk t. subst (IsTables s.now) (walk_starts before upto rows walk) t;
}

pub walk_more : (a b m z : State) (before upto from next : ℕ) (page : List ℕ)
    → AltersWhere a b (AreWalkable upto) (without_past before (λ d. nat_lt d from)) → IsUnchanged b m
    → ((rows : Rows) → IsTables b.now rows
    → IsPage (λ (n : ℕ). n) from (map (λ (d : DeliveryRow). d.seq) rows.deliveries) page)
    → from < next → next ≡ option_map_or (λ last. last + 1) (last_of page) (upto + 1)
    → AltersWhere m z (λ rows. AreInTurn rows × IsRisingFrom (λ (n : ℕ). n) 0 page)
    (without_past before (is_listed page))
    → AltersWhere a z (AreWalkable upto) (without_past before (λ d. nat_lt d next))
walk_more a b m z before upto from next page p same told up is q = record {
  on = goes_then a b z p.on (goes_then b m z (goes_if_same b m p.on.mode same) q.on);
  makes = λ rows walk t.
      let here = p.makes rows walk t in
      subst (IsTables z.now) (at rows walk (told _ here) (last_of page) refl)
      (q.makes _ (turn_left _ rows walk.attempts, walk_rises before upto rows walk from page (told _ here))
      (along b m _ same here));
}
  where
    at : (rows : Rows) (walk : AreWalkable upto rows)
        → IsPage (λ (n : ℕ). n) from
        (map (λ (d : DeliveryRow). d.seq) (without_past before (λ d. nat_lt d from) rows).deliveries) page
        → (o : Option ℕ) → last_of page ≡ o
        → without_past before (is_listed page) (without_past before (λ d. nat_lt d from) rows)
        ≡ without_past before (λ d. nat_lt d next) rows
    at rows walk shown (Some l) e =
        walk_some before upto rows walk from next l page shown e
        (is ∙ ap (λ o. option_map_or (λ last. last + 1) o (upto + 1)) e) (omega (arith, up))
    at rows walk shown None e =
        walk_none before upto rows walk from next page shown (last_none page e) (omega (arith, up))

-- after the last page
pub purge_made : (a z : State) (next before from : ℕ) → before ≤ MAX_MOMENT → next < MAX_RECORDS → next < from
    → AltersWhere a z (AreWalkable next) (without_past before (λ d. nat_lt d from))
    → Enters a z next (Purge before ∷ []) true
purge_made a z next before from within room end made = record {
  on = made.on;
  judges = λ count records at has. sym (legal count records at has);
  makes = λ _ count records at has.
      let rows = with_records count (rows_of records) in
      let walk = subst (λ n. AreWalkable n rows) (sym at) (legal_walkable records has.legal count) in
      let law = rows_of-more records has.legal (Purge before) refl in
      record {
        legal = legal count records at has;
        tables = subst (IsTables z.now) (walk_ends before next rows walk from (omega (arith, end))
            ∙ ap (with_records count) (sym law)) (made.makes rows walk has.tables);
      };
}
  where
    legal : (count : ℕ) (records : List Record) → next ≡ length records → HasRows a.now count records
        → is_legal (records ++ Purge before ∷ []) ≡ true
    legal count records at has =
        legal_more records (Purge before) has.legal refl (le-leb before MAX_MOMENT within) (omega (arith, at, room))
