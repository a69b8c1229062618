use Rattle.std.proofs.Common.{inl, inr, refl}
use Rattle.sqlite.specs.Held.{state}
use Rattle.recovery.proofs.FileLaws.{may_stay, of_none, of_whole, refused_so}
use Rattle.recovery.proofs.file.open.Goals as goal

pub returns-in-Ok-clause-opened : goal.returns-in-Ok-clause-opened
returns-in-Ok-clause-opened g c =
    of_whole _ _ _ c.reopen.result c.reopen.ensures.whole c.reopen.ensures.opened
    (λ opening stand opened new. inr (stand new, opened new))

pub returns-in-Ok-clause-ours : goal.returns-in-Ok-clause-ours
returns-in-Ok-clause-ours g c none = of_none _ _ c.reopen.result (c.reopen.ensures.ours none)

pub returns-in-Ok-clause-foreign : goal.returns-in-Ok-clause-foreign
returns-in-Ok-clause-foreign g c none old = c.reopen.ensures.foreign none

pub returns-in-Ok-clause-back : goal.returns-in-Ok-clause-back
returns-in-Ok-clause-back g c none old = refused_so _ _ c.reopen.result (λ back same. inr same)
    (c.reopen.ensures.back none)

pub returns-in-Err-clause-back : goal.returns-in-Err-clause-back
returns-in-Err-clause-back g c none old = inl refl

pub returns-in-Ok-clause-whole : goal.returns-in-Ok-clause-whole
returns-in-Ok-clause-whole g c old = c.reopen.ensures.whole

pub returns-in-Ok-clause-left : goal.returns-in-Ok-clause-left
returns-in-Ok-clause-left g c old = c.reopen.ensures.left

pub returns-in-Err-clause-left : goal.returns-in-Err-clause-left
returns-in-Err-clause-left g c old clean = may_stay (state g.S.Store c.args.conn)
