use Rattle.std.proofs.Common.{Err, None, refl, subst, sym}
use Rattle.relay_serve.specs.Serving.{AddsBatches, AddsEvent, committer_end}
use Rattle.relay_serve.specs.declared.fault.ServeFault.{ServeFault}
use Rattle.desk.specs.World.{settled_records}
use Rattle.relay_serve.proofs.ServingLaws.{no_event, nothing_added}
use Rattle.relay_serve.proofs.serving.serve_opened.Goals as goal

pub returns-in-Err-clause-rows : goal.returns-in-Err-clause-rows
returns-in-Err-clause-rows g c clean =
    subst (λ (fault : ServeFault). AddsBatches g.S.Store c.args.vault c.args.vault (committer_end (Err fault)))
    (sym c.from.ensures) (nothing_added g.S.Store c.args.vault)

pub returns-in-Err-clause-acknowledged : goal.returns-in-Err-clause-acknowledged
returns-in-Err-clause-acknowledged g c clean w stands =
    subst (λ (fault : ServeFault). AddsEvent g.S.Store c.args.vault c.args.vault (committer_end (Err fault)) None
    (settled_records w))
    (sym c.from.ensures) (no_event g.S.Store c.args.vault (settled_records w))

pub returns-clause-acknowledged : goal.returns-clause-acknowledged
returns-clause-acknowledged g c clean w stands held =
    c.serve_named.ensures.acknowledged clean (settled_records w) (sym held.0.next, (w, stands, refl)) held
