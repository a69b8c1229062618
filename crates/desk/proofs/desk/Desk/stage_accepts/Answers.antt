use Rattle.desk.proofs.Words.{◌+◌, IsTrue, ap, arith, length, subst, sym, record_count, DeskValue, IsDesk}
use Rattle.std.specs.List.{list_all}
use Rattle.relay_types.specs.Legal.{is_within_limits}
use Rattle.group_commit.specs.Steps.{is_request}
use Rattle.group_commit.proofs.StepLaws.{event_request}
use Rattle.desk.proofs.PublishTies.{desk_places, desk_publish}
use Rattle.desk.proofs.desk.Desk.stage_accepts.Goals as goal

pub invariant_of-self-2 : goal.invariant_of-self-2
invariant_of-self-2 g c =
    desk_publish c.records-seq.result c.args.names.now c.args.id c.args.body.now c.args.at _
    c.records-seq.ensures.count c.in_ok-stage_accepts.ensures.accepted c.in_ok-step.ensures.records
    c.push_event.ensures.staged
    c.requires.some
    (omega (arith, c.requires.room, ap (λ (v : DeskValue). record_count v.waiting + length v.live) c.self.view_is))
    c.requires.apart c.in_ok-reserve_each.ensures.more c.in_ok-reserve_each.ensures.each c.self.invariant

pub invariant_of-self : goal.invariant_of-self
invariant_of-self g c = desk_places c.in_err-reserve_each.ensures.more c.self.invariant

pub invariant_of-self-in_err-stage_accepts : goal.invariant_of-self-in_err-stage_accepts
invariant_of-self-in_err-stage_accepts g c =
    subst (λ book. IsDesk c.self.inside.endpoints book c.self.inside.waiting c.self.inside.pool
    c.self.inside.limiters.items c.reserve_each.new.queue) (sym c.in_err-stage_accepts.ensures.unchanged)
    (desk_places c.in_ok-reserve_each.ensures.more c.self.invariant)

pub push_event-requires-clause-kind : goal.push_event-requires-clause-kind
push_event-requires-clause-kind g c =
    subst (λ step. IsTrue (is_request step)) (sym c.in_ok-step.ensures.records)
    (event_request c.args.names.now c.args.id c.args.body.now c.args.at c.requires.some)

pub returns-clause-limits : goal.returns-clause-limits
returns-clause-limits g c =
    subst (λ step. IsTrue (list_all is_within_limits step)) c.in_ok-step.ensures.records c.in_ok-step.ensures.limits
