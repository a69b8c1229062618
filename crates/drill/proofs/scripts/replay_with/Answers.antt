use Rattle.std.proofs.Common.{subst, inl, inr, Err, ap}
use Rattle.drill.specs.Replays.{IsConnOf, IsStateClean}
use Rattle.drill.specs.Restarts.{IsNoLine, Replies}
use Rattle.text_lines.proofs.EndLaws.{ends_at_once}
use Rattle.text_lines.specs.Ends.{IsBetweenLines}
use Rattle.drill.proofs.ReplayLaws.{Replies-none, replays, keeps_run}
use Rattle.drill.proofs.scripts.replay_with.Goals as goal

pub returns-in-Err-clause-replays : goal.returns-in-Err-clause-replays
returns-in-Err-clause-replays g c clean begun text had input output = ends_at_once Replies IsNoLine text had _ _
    Replies-none output c.in-Err.ensures.faults

pub returns-in-Ok-clause-replays : goal.returns-in-Ok-clause-replays
returns-in-Ok-clause-replays g c clean begun =
    let still = c.close.ensures.clean clean in
    let first = subst (IsStateClean g.S.Store) c.of-player.ensures (c.answer_lines-end.ensures.clean still) in
    replays g.S.Store c.of-player.result _ _ _ _
    (c.in-Ok.runner, c.of-player.ensures, c.in-Ok.ensures.stands first begun)
    (c.answer_lines-end.ensures.ends still)

pub returns-in-Err-clause-rows : goal.returns-in-Err-clause-rows
returns-in-Err-clause-rows g c clean begun between = elim c.in-Err.ensures.faults [
  | inl lost ↦ absurd (subst IsBetweenLines (ap Err lost) between)
  | inr lacked ↦ absurd (subst IsBetweenLines (ap Err lacked) between)
]

pub returns-in-Ok-clause-rows : goal.returns-in-Ok-clause-rows
returns-in-Ok-clause-rows g c clean begun between =
    let still = c.close.ensures.clean clean in
    let first = subst (IsStateClean g.S.Store) c.of-player.ensures (c.answer_lines-end.ensures.clean still) in
    keeps_run g.S.Store c.of-player.result _ _ _ _ _ _
    (λ runner is. subst (λ state. IsConnOf g.S.Store state c.close.result) is c.close.ensures.same)
    (c.in-Ok.runner, c.of-player.ensures, c.in-Ok.ensures.stands first begun)
    (c.answer_lines-end.ensures.leads still between)
