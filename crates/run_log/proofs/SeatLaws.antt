-- Each step keeps the rule.
use Rattle.relay_types.specs.declared.record.Record.{Record}
use Rattle.std.proofs.Common.{◌≡◌, ◌≢◌, ◌⊎◌, ℕ, zero, suc, ◌+◌, List, [], ◌∷◌, ◌++◌, set, true, false}
use Rattle.std.proofs.Common.{true≢false, refl, sym, ap, ◌∙◌, subst, ⊎_elim}
use mathlib.Core.Option.{some, some-ne-none, some-injective}
use mathlib.Core.List.{IsPrefix}
use lib.ListN.{get_elem?}
use Rattle.atomic_table.specs.Table.{Step, Me, keeps, Allows, Splits, Joins}
use Rattle.atomic_table.proofs.Lists.{at_set, at_snoc, set_again}
use Rattle.run_log.specs.declared.View.{View}
use Rattle.run_log.specs.Seats.{writing, reading, with_other, IsView, HasOneWriter, KeepsRule, Appends, Compares}
use Rattle.run_log.proofs.PrefixLaws.{prefix_self, prefix_nil, prefix_more, prefix_either}

off : false ≡ true → ⊥
off e = true≢false (sym e)

fits_set : (seat : ℕ) (now : List Record) (views : List View) (by : ℕ) (w : View)
    → ((j : ℕ) (u : View) → j ≢ by → get_elem? views j ≡ some u → IsView seat now j u) → IsView seat now by w
    → (j : ℕ) (u : View) → get_elem? (set views by w) j ≡ some u → IsView seat now j u
fits_set seat now views by w others mine j u e =
    ⊎_elim
    (λ (x : (j ≡ by) × (w ≡ u)). subst (λ (y : ℕ × View). IsView seat now y.0 y.1) (λ i. (sym x.0 i, x.1 i)) mine)
    (λ (x : (j ≢ by) × (get_elem? views j ≡ some u)). others j u x.0 x.1)
    (at_set views by j w u e)

fits_reading : (seat : ℕ) (log : List Record) (by : ℕ) (seen : List Record) → IsPrefix seen log
    → IsView seat log by (reading seen)
fits_reading seat log by seen begins = ((λ k. absurd (off k)), begins, prefix_nil log)

pub begins : HasOneWriter (writing [] ∷ [])
begins = (0, [], one)
  where
    one : (by : ℕ) (v : View) → get_elem? (writing [] ∷ []) by ≡ some v → IsView 0 [] by v
    one zero v e = subst (IsView 0 [] 0) (some-injective _ _ e) ((λ _. (refl, refl)), prefix_nil [], prefix_nil [])
    one (suc by) v e = absurd (some-ne-none v (sym e))

-- the writer adds more
adds : (views : List View) (by : ℕ) (all more : List Record) → HasOneWriter views
    → get_elem? views by ≡ some (writing all) → HasOneWriter (set views by (writing (all ++ more)))
adds views by all more h at =
    let mine = (h.2 by (writing all) at).0 refl in
    let log = h.1 ++ more in (
      h.0,
      log,
      fits_set h.0 log views by (writing (all ++ more))
          (λ j u apart e.
          let was = h.2 j u e in (
            (λ k. absurd (apart ((was.0 k).0 ∙ sym mine.0))),
            prefix_more u.seen h.1 more was.1,
            prefix_more u.other h.1
                more was.2,
          )) (
            (λ _. (mine.0, ap (λ l. l ++ more) mine.1)),
            subst (λ l. IsPrefix (all ++ more) (l ++ more)) mine.1
                (prefix_self (all ++ more)),
            prefix_nil log,
          ),
    )

pub appends : (slots id i : ℕ) (f : ℕ → ℕ) (st : Step (Unit {0})) (me : Me (Unit {0}) View) (all more : List Record)
    → me ≡ (writing all, [])
    → Allows KeepsRule slots id me i f (Appends more st me)
appends slots id i f st me all more is = subst (λ (m : Me (Unit {0}) View). Allows KeepsRule slots id m i f
    (Appends more st m)) (sym is)
    (λ s h homes at small. (writing (all ++ more), keeps, tt, adds s.views id all more h at, refl))

-- a seat forgets the second prefix
forgets : (views : List View) (by : ℕ) (v : View) → HasOneWriter views → get_elem? views by ≡ some v
    → HasOneWriter (set views by (record { writes = v.writes; seen = v.seen; other = [] }))
forgets views by v h at =
    let mine = h.2 by v at in (
      h.0,
      h.1,
      fits_set h.0 h.1 views by (record { writes = v.writes; seen = v.seen; other = [] })
          (λ j u _ e. h.2 j u e) (mine.0, mine.1, prefix_nil h.1),
    )

pub compares : (slots id i : ℕ) (f : ℕ → ℕ) (st : Step (Unit {0})) (me : Me (Unit {0}) View) → me.1 ≡ []
    → Allows KeepsRule slots id me i f (Compares st me)
compares slots id i f st me none s h homes at small =
    let mine = h.2 id me.0 at in (
      record { writes = me.0.writes; seen = me.0.seen; other = [] },
      keeps,
      tt,
      forgets s.views id me.0 h at,
      (
        refl,
        prefix_either me.0.seen me.0.other h.1 mine.1 mine.2,
        λ k. subst (IsPrefix me.0.other) (sym (mine.0 k).1) mine.2,
      ),
    )

pub copies : (id : ℕ) (v : View) → Splits {S = Unit {0}} KeepsRule id v v (reading v.seen)
copies id v s h at =
    let mine = h.2 id v at in (
      h.0,
      h.1,
      λ j u e. ⊎_elim
          (λ was. h.2 j u (subst (λ l. get_elem? l j ≡ some u) (set_again s.views id v at) was))
          (λ (same : reading v.seen ≡ u). subst (IsView h.0 h.1 j) same (fits_reading h.0 h.1 j v.seen mine.1))
          (at_snoc (set s.views id v) (reading v.seen) u j e),
    )

pub hears : (id : ℕ) (v : View) (other : ℕ) (w : View) → Joins {S = Unit {0}} KeepsRule id v other w (with_other v w)
    (reading [])
hears id v other w s h at apart there =
    let mine = h.2 id v at in
    let theirs = ⊎_elim (λ (t : (other ≡ id) × (with_other v w ≡ w)). absurd (apart t.0))
    (λ (t : (other ≢ id) × (get_elem? s.views other ≡ some w)). h.2 other w t.1)
    (at_set s.views id other (with_other v w) w there) in (
      h.0,
      h.1,
      fits_set h.0 h.1 (set s.views id (with_other v w)) other (reading [])
          (λ j u _ e. fits_set h.0 h.1 s.views id (with_other v w) (λ i y _ e'. h.2 i y e') (mine.0, mine.1, theirs.1) j
          u e)
          (fits_reading h.0 h.1 other [] (prefix_nil h.1)),
    )
