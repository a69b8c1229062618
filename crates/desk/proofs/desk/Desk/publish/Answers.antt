use Rattle.desk.proofs.Words.{◌≡◌, ℕ, ◌∙◌, Err, IfOk, Ok, Result, ap, arith, map, subst, sym, DeskValue}
use Rattle.desk.proofs.Words.{out_of_memory_at}
use Rattle.desk.specs.Desks.{subscribed_in, ticket_by}
use Rattle.desk.specs.Moves.{publish}
use Rattle.desk.proofs.DeskLaws.{hands_on, replies}
use Rattle.desk.proofs.PublishLaws.{items_of, lacked_memory, lacking_count, new_publish_refused, none_lack}
use Rattle.desk.proofs.PublishLaws.{publish_moves, publish_refused, publish_repeated, publish_unrepeated, some_lack}
use Rattle.desk.proofs.desk.Desk.publish.Goals as goal

-- what was made although memory could have been refused
made_so : {A E : Type 0} (number : ℕ) (made : Result A E) (So : A → Type 0) (a : A)
    → Ok a ≡ out_of_memory_at number made → IfOk made So → So a
made_so number (Ok b) So a same h = let is : b ≡ a = cc in subst So is h
made_so number (Err e) So a same h = absurd (let wrong = same in cc)

pub check_new_publish-requires : goal.check_new_publish-requires
check_new_publish-requires g c = c.count_lacking-lacking.ensures ∙ lacking_count c.args.self.now c.args.topic c.args.id

pub stage_publish-requires : goal.stage_publish-requires
stage_publish-requires g c =
    let a = c.args in
    let count = c.count_lacking-lacking.ensures ∙ lacking_count a.self.now a.topic a.id in
    let checked = c.in_ok-check_new_publish.ensures in
    record {
      some = some_lack a.self.now a.topic a.id _ c.count_lacking-lacking.ensures c.if-lacking-eq0.false;
      most = omega (arith, count, checked.most);
      few = checked.few;
      place = omega (arith, count, checked.place);
      room = omega (arith, count, checked.room);
    }

pub returns-in_err-check_publish-clause-moves : goal.returns-in_err-check_publish-clause-moves
returns-in_err-check_publish-clause-moves g c =
    let a = c.args in
    replies a.self.now a.self.now (λ w. publish w a.now a.topic a.id a.body) _ _
    (publish_refused a.self.now a.now a.topic a.id a.body _ c.in_err-check_publish.ensures.faults)
    (ap items_of (hands_on c.from_residual.result _ c.from_residual.ensures.1))

pub returns-in_err-tickets-clause-moves : goal.returns-in_err-tickets-clause-moves
returns-in_err-tickets-clause-moves g c =
    let a = c.args in
    let given = c.from_residual-in_err-tickets in
    replies a.self.now a.self.now (λ w. publish w a.now a.topic a.id a.body) _ _
    (publish_unrepeated a.self.now a.now a.topic a.id a.body _ c.in_ok-check_publish.ensures.faults
    (none_lack a.self.now a.topic a.id _ c.count_lacking-lacking.ensures c.if-lacking-eq0.true))
    (ap items_of (hands_on given.result _ given.ensures.1)
    ∙ ap Err (lacked_memory 8 c.tickets.result _ (sym c.in_err-tickets.ensures)))

pub returns-then-lacking-eq0-clause-moves : goal.returns-then-lacking-eq0-clause-moves
returns-then-lacking-eq0-clause-moves g c =
    let a = c.args in
    let d = a.self.now in
    publish_repeated d _ a.now a.topic a.id a.body c.moment-at.result _ c.in_ok-tickets.tickets.items
    c.in_ok-check_publish.ensures.faults
    (none_lack d a.topic a.id _ c.count_lacking-lacking.ensures c.if-lacking-eq0.true)
    c.moment-at.ensures
    (made_so 8 c.tickets.result
    (λ tickets. tickets.items ≡ map (ticket_by d.deliveries a.id) (subscribed_in d.endpoints a.topic))
    c.in_ok-tickets.tickets c.in_ok-tickets.ensures c.tickets.ensures)
    (ap (λ (v : DeskValue). record v { clock = c.moment-at.result }) c.self.view_is)

pub returns-in_err-check_new_publish-clause-moves : goal.returns-in_err-check_new_publish-clause-moves
returns-in_err-check_new_publish-clause-moves g c =
    let a = c.args in
    let given = c.from_residual-in_err-check_new_publish in
    replies a.self.now a.self.now (λ w. publish w a.now a.topic a.id a.body) _ _
    (new_publish_refused a.self.now a.now a.topic a.id a.body _ _ c.in_ok-check_publish.ensures.faults
    (some_lack a.self.now a.topic a.id _ c.count_lacking-lacking.ensures c.if-lacking-eq0.false)
    c.in_err-check_new_publish.ensures.faults)
    (ap items_of (hands_on given.result _ given.ensures.1))

pub returns-clause-moves : goal.returns-clause-moves
returns-clause-moves g c =
    let a = c.args in
    let count = c.count_lacking-lacking.ensures ∙ lacking_count a.self.now a.topic a.id in
    let checked = c.in_ok-check_new_publish.ensures in
    let made = c.stage_publish.ensures in
    replies a.self.now _ (λ w. publish w a.now a.topic a.id a.body) _ _
    (publish_moves a.self.now _ a.now a.topic a.id a.body c.moment-at.result _ _ c.stage_publish.result
    c.in_ok-check_publish.ensures.faults
    (some_lack a.self.now a.topic a.id _ c.count_lacking-lacking.ensures c.if-lacking-eq0.false)
    checked.faults (omega (arith, count, checked.room)) c.moment-at.ensures
    made.apart made.tickets made.staged made.limits made.err)
    (ap items_of c.or_out_of_memory-2.ensures)
