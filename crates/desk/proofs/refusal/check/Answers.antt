use Rattle.desk.proofs.Words.{◌≡◌, ◌∙◌, ◌∷◌, ◌+◌, Bool, ℕ, Err, drop, sym, ap, if◌then◌else◌, at_drop_more, drop_all}
use Rattle.desk.proofs.Words.{Faults, refusal, first_fault}
use Rattle.desk.specs.declared.refusal.Fault.{Fault}
use Rattle.desk.proofs.refusal.check.Goals as goal

-- what the faults from this one on answer
chosen : (faults : Faults) (f : Bool × ℕ × Fault) (b : Bool) → f.0 ≡ b
    → first_fault (f ∷ faults) ≡ (if b then Err (refusal f.1 f.2) else first_fault faults)
chosen faults f b e = ap (λ x. if x then Err (refusal f.1 f.2) else first_fault faults) e

pub returns-then-there : goal.returns-then-there
returns-then-there c = sym (c.loop-there.invariant ∙ at_drop_more first_fault _ _ _ c.loop-there-test.true
    ∙ chosen (drop (c.loop-there.there-index + 1) c.args.faults.now) _ _ c.if-there.true)

pub loop-there-preserved : goal.loop-there-preserved
loop-there-preserved c = c.loop-there.invariant ∙ at_drop_more first_fault _ _ _ c.loop-there-test.true
    ∙ chosen (drop (c.loop-there.there-index + 1) c.args.faults.now) _ _ c.if-there.false

pub returns : goal.returns
returns c = sym (c.loop-there.invariant
    ∙ ap first_fault (drop_all c.loop-there.there-index c.args.faults.now c.loop-there-test.false))
