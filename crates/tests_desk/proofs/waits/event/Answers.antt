use Rattle.std.proofs.Common.{rules, subst, sym, IsTrue}
use Rattle.group_commit.specs.Steps.{is_request}
use Rattle.group_commit.proofs.StepLaws.{event_request}
use Rattle.tests_desk.proofs.waits.event.Goals as goal

pub stage_request-requires-clause-kind : goal.stage_request-requires-clause-kind
stage_request-requires-clause-kind c =
    subst (λ step. IsTrue (is_request step)) (sym c.in_ok-step.ensures.records) (event_request c.deref.result.now _ _ _ (search rules))
