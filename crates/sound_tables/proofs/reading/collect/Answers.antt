use Rattle.std.proofs.Common.{inl, inr, List, ℕ, [], ◌∷◌, ◌++◌, refl, sym, ap, subst, ◌∙◌, arith}
use Rattle.std.specs.Prelude.{option_copied}
use Rattle.std.specs.List.{AllZip}
use Rattle.sqlite.specs.Held.{state}
use Rattle.sqlite.specs.State.{HasCleanDisk}
use Rattle.sqlite.specs.Given.{GivesOn}
use Rattle.sqlite.proofs.Callers.{unchanged_then, given_begin}
use Rattle.spool_sql.proofs.ReadableLemmas.{handed_on}
use Rattle.sound_tables.specs.Reading.{IsReadAs, HasTaken, IsFault}
use Rattle.sound_tables.proofs.ReadingLemmas.{still_none, still_then, looks_still, looks_failed, given_open}
use Rattle.sound_tables.proofs.ReadingLemmas.{begins_from, shown_from, fault_at, fault_since, zip_push, zip_last}
use Rattle.sound_tables.proofs.reading.collect.Goals as goal

pub each-init : goal.each-init
each-init g c = record {
  same_reference = refl;
  still = still_none g.S.Store c.args.rows.now.conn.now;
  taken =
      λ clean sql taken. taken;
}

pub each-preserved : goal.each-preserved
each-preserved g c =
    let b = c.advance.new.self.conn.now in
    let so_far = c.each.invariant in
    let step = c.in_ok-advance.ensures in
    record {
      same_reference = step.same_reference ∙ so_far.same_reference;
      still = still_then g.S.Store c.args.rows.now.conn.now c.each.rows.conn.now b so_far.still step.mode step.survives
          step.same;
      taken = λ clean sql taken.
          let had = so_far.taken (omega (arith, clean, step.survives.clean)) sql taken in
          record {
            plain = had.plain;
            given = had.given ++ c.in-Some.row.now ∷ [];
            has = subst (GivesOn g.S.Store sql [] c.each.rows.conn.now b had.given)
                (sym c.get.ensures ∙ ap option_copied c.in-Some.is) (step.ok clean sql [] had.given had.has);
            shown = subst (AllZip g.T.Reading.is_shown (had.given ++ c.in-Some.row.now ∷ []))
                (sym c.in_ok-push.ensures.items)
                (zip_push g.T.Reading.is_shown had.given c.each.found.items c.in-Some.row.now c.in-Some-2.shown
                had.shown
                (subst (IsReadAs g.T.Reading.is_shown c.in-Some.row.now) c.in-Some-2.is c.in_ok-shown.ensures));
          };
    }

pub returns-in_err-advance-clause-looks : goal.returns-in_err-advance-clause-looks
returns-in_err-advance-clause-looks g c =
    let step = c.in_err-advance.ensures in
    looks_failed g.S.Store c.args.rows.now.conn.now c.each.rows.conn.now c.advance.new.self.conn.now
    c.each.invariant.still step.mode step.survives
    (λ clean is_open. elim (step.kept clean) [ inl fails ↦ inr fails.3 | inr same ↦ inl same ])

pub returns-in_err-advance-clause-fault : goal.returns-in_err-advance-clause-fault
returns-in_err-advance-clause-fault g c clean =
    let a = state g.S.Store c.args.rows.now.conn.now in
    let m = state g.S.Store c.each.rows.conn.now in
    let b = state g.S.Store c.advance.new.self.conn.now in
    let step = c.in_err-advance.ensures in
    handed_on c.from_residual.result c.in_err-advance.field-0.0 (λ e. (sql : List ℕ)
    → HasTaken g.S.Store g.T.Reading.is_shown sql c.args.rows.now.conn.now c.args.found.now.items
    → IsFault sql a b e)
    c.from_residual.ensures.1 (λ sql taken.
    let early : HasCleanDisk m = omega (arith, clean, step.survives.clean) in
    let had = c.each.invariant.taken early sql taken in
    let same = c.each.invariant.still.same early (given_open g.S.Store sql [] _ _ taken.has) in
    fault_since sql a m b _ same.0.now_is c.each.invariant.still.survives step.survives clean
    (fault_at sql m b _ had.plain (step.err clean sql [] had.given had.has)))

pub returns-in_default-clause-looks : goal.returns-in_default-clause-looks
returns-in_default-clause-looks g c =
    let step = c.in_ok-advance.ensures in
    looks_still g.S.Store _ _
    (still_then g.S.Store c.args.rows.now.conn.now c.each.rows.conn.now c.advance.new.self.conn.now
    c.each.invariant.still step.mode step.survives step.same)

pub returns-in_default-clause-taken : goal.returns-in_default-clause-taken
returns-in_default-clause-taken g c clean sql taken =
    let a = state g.S.Store c.args.rows.now.conn.now in
    let m = state g.S.Store c.each.rows.conn.now in
    let b = state g.S.Store c.advance.new.self.conn.now in
    let step = c.in_ok-advance.ensures in
    let early : HasCleanDisk (state g.S.Store c.each.rows.conn.now) = omega (arith, clean, step.survives.clean) in
    let had = c.each.invariant.taken early sql taken in
    let before = c.each.invariant.still.same early (given_open g.S.Store sql [] _ _ taken.has) in
    let same = unchanged_then a m b before (step.same clean) in
    let shown = subst (GivesOn g.S.Store sql [] c.each.rows.conn.now c.advance.new.self.conn.now had.given)
    (sym c.get.ensures ∙ ap option_copied c.in_default.is) (step.ok clean sql [] had.given had.has) in
    (same, (had.given, shown_from sql [] m a b had.given had.plain before.0.now_is same shown, had.shown))

pub returns-in_err-shown-clause-looks : goal.returns-in_err-shown-clause-looks
returns-in_err-shown-clause-looks g c =
    let step = c.in_ok-advance.ensures in
    looks_still g.S.Store _ _
    (still_then g.S.Store c.args.rows.now.conn.now c.each.rows.conn.now c.advance.new.self.conn.now
    c.each.invariant.still step.mode step.survives step.same)

pub returns-in_default-2-clause-looks : goal.returns-in_default-2-clause-looks
returns-in_default-2-clause-looks g c =
    let step = c.in_ok-advance.ensures in
    looks_still g.S.Store _ _
    (still_then g.S.Store c.args.rows.now.conn.now c.each.rows.conn.now c.advance.new.self.conn.now
    c.each.invariant.still step.mode step.survives step.same)

pub returns-in_default-2-clause-taken : goal.returns-in_default-2-clause-taken
returns-in_default-2-clause-taken g c clean sql taken =
    let a = state g.S.Store c.args.rows.now.conn.now in
    let m = state g.S.Store c.each.rows.conn.now in
    let b = state g.S.Store c.advance.new.self.conn.now in
    let step = c.in_ok-advance.ensures in
    let early : HasCleanDisk (state g.S.Store c.each.rows.conn.now) = omega (arith, clean, step.survives.clean) in
    let had = c.each.invariant.taken early sql taken in
    let before = c.each.invariant.still.same early (given_open g.S.Store sql [] _ _ taken.has) in
    let same = unchanged_then a m b before (step.same clean) in
    let given = subst (GivesOn g.S.Store sql [] c.each.rows.conn.now c.advance.new.self.conn.now had.given)
    (sym c.get.ensures ∙ ap option_copied c.in-Some.is) (step.ok clean sql [] had.given had.has) in
    let none = subst (IsReadAs g.T.Reading.is_shown c.in-Some.row.now) c.in_default-2.is c.in_ok-shown.ensures in (
      same,
      (
        had.given ++ c.in-Some.row.now ∷ [],
        begins_from sql [] b a _ same.0.now_is (given_begin g.S.Store sql [] _ _ given),
        λ ys all. let last = zip_last g.T.Reading.is_shown had.given c.in-Some.row.now ys all in none last.0 last.1,
      ),
    )

pub returns-in_err-push-clause-looks : goal.returns-in_err-push-clause-looks
returns-in_err-push-clause-looks g c =
    let step = c.in_ok-advance.ensures in
    looks_still g.S.Store _ _
    (still_then g.S.Store c.args.rows.now.conn.now c.each.rows.conn.now c.advance.new.self.conn.now
    c.each.invariant.still step.mode step.survives step.same)

pub returns-clause-fault : goal.returns-clause-fault
returns-clause-fault g c clean sql taken able = inl refl

pub returns-clause-looks : goal.returns-clause-looks
returns-clause-looks g c = looks_still g.S.Store _ _ c.each.invariant.still
