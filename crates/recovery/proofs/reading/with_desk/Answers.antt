use Rattle.std.proofs.Common.{◌∙◌, Err, ap}
use Rattle.sqlite.specs.Held.{state}
use Rattle.recovery.proofs.ReadingLaws.{opens_held}
use Rattle.recovery.proofs.ReopeningLaws.{seen_open, unloaded}
use Rattle.recovery.proofs.reading.with_desk.Goals as goal

pub returns-in-Ok-of-clause-opens : goal.returns-in-Ok-of-clause-opens
returns-in-Ok-of-clause-opens g c = λ clean.
    opens_held g.S.Store c.args.vault c.load.new.self c.in-Ok.books c.in-Ok-of.desk (c.in-Ok.ensures.doubt
    ∙ c.requires.open) (c.in-Ok.ensures.books clean) (c.in-Ok.ensures.history clean) c.in-Ok-of.ensures.stands

pub returns-in-Err-clause-sound : goal.returns-in-Err-clause-sound
returns-in-Err-clause-sound g c = rw c.release-in-Err.ensures.same (λ clean history held.
    unloaded (state g.S.Store c.args.vault.conn) (state g.S.Store c.load.new.self.conn) c.in-Err.fault _ c.from.ensures
    (λ closed. absurd (let yes = c.in-Err.ensures.closed.0 (ap Err closed) in let no = c.requires.open in cc))
    (c.in-Err.ensures.sound clean history held))

pub returns-in-Err-clause-seen : goal.returns-in-Err-clause-seen
returns-in-Err-clause-seen g c = rw c.release-in-Err.ensures.same
    (λ memory clean. seen_open _ c.in-Err.fault _ c.from.ensures memory (c.in-Err.ensures.seen clean))
