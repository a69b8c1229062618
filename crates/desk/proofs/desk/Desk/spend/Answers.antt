use Rattle.desk.proofs.Words.{◌≡◌, ◌∙◌, ℕ, Option, List, false, true, ap, max, refl, rules, sym, subst, IfSome, IsTrue}
use Rattle.desk.proofs.Words.{vec_len, is_status, is_moment, QueueValue, ChangesState, IsNew, with_room, Limiter}
use Rattle.desk.proofs.Words.{DeskValue, IsDesk, AreLimiters, AreSampled, HasPlaces, Holds, idle_pair, limit_by}
use Rattle.desk.proofs.Words.{room_by, status_of}
use Rattle.desk.specs.declared.desk.Desk.TheInside.{Inside}
use Rattle.desk.specs.contracts.desk.Desk.{the_view}
use denote.Param.{param}
use Rattle.desk.proofs.RowLaws.{IsReturned}
use Rattle.desk.proofs.SpendLaws.{IsLive, IsOver, back_from, foreign_spends, halted_over, is_desk_left, is_live}
use Rattle.desk.proofs.SpendLaws.{limiter_known, new_left, places_left, reserved_left, spends, takes_outcome, told_over}
use Rattle.desk.proofs.SpendLaws.{tells_status, written}
use Rattle.desk.proofs.desk.Desk.spend.Given.{Over}
use Rattle.desk.proofs.desk.Desk.spend.Goals.{In_ok-row, After-limit_of-limit, After-enqueue, After-update_room}
use Rattle.desk.proofs.desk.Desk.spend.Goals.{then-self, else-self}
use Rattle.desk.proofs.desk.Desk.spend.Goals as goal

-- the permit came back
module _ (g : Over) (c : In_ok-row g) where
  abbrev old : DeskValue
  old = the_view (param 0 g.row.L) g.L.Ledger c.self.inside

  back : IsReturned c.in_ok-row.row old.live c.give_back.new.self
  back = back_from c.in_ok-row.row c.args.permit old.live c.give_back.new.self c.in_ok-row.ensures.returned
      (λ none. let no : false ≡ true = c.in_ok-row.ensures.foreign.1 none in cc) c.in_ok-row.ensures.ok
      c.self.invariant.tied.queued.under_way.once

  live : IsLive old c.in_ok-row.row c.give_back.new.self
  live = is_live old c.self.inside.queue c.in_ok-row.row c.give_back.new.self c.self.invariant.tied back

-- the desk took what came of the post
module _ (g : Over) (c : After-limit_of-limit g) where
  abbrev new : DeskValue
  new = the_view (param 0 g.row.L) g.L.Ledger c.if-self.self-inside

  same : c.if-self.self-inside.queue ≡ c.self.inside.queue
  same = elim c.if-self.branch [
    | then-self w ↦ ap (λ (x : Inside g.row.L.Denot). x.queue) w.self-inside-is
    | else-self w ↦ ap (λ (x : Inside g.row.L.Denot). x.queue) w.self-inside-is
  ]

  over : IsOver (old g (goal.at.After-limit_of-limit g c).In_ok-row) new c.in_ok-row.row c.give_back.new.self
      c.args.post c.moment-at.result c.if-self.staged
  over =
      let view = the_view (param 0 g.row.L) g.L.Ledger in
      let d = view c.self.inside in
      let row = c.in_ok-row.row in
      let rest = c.give_back.new.self in
      elim c.if-self.branch [
        | then-self w ↦ halted_over d new row rest c.args.post c.moment-at.result c.if-self.staged w.if-self.true
            (ap view w.self-inside-is) w.staged-is
        | else-self w ↦
            let stage = w.stage_status-staged in
            told_over d new row rest c.args.post c.moment-at.result c.if-self.staged c.judge-status.result.1
            stage.new.endpoints stage.new.deliveries stage.new.waiting w.sample.new.limiters
            w.if-self.false
            (ap view w.self-inside-is
            ∙ ap (λ (ls : List Limiter). record d {
              clock = c.moment-at.result;
              endpoints = stage.new.endpoints;
              deliveries = stage.new.deliveries;
              waiting = stage.new.waiting;
              live = rest;
              limiters = ls;
            })
            (written (vec_len c.self.inside.limiters) w.deref_mut.result.now w.sample.new.limiters
            c.self.inside.limiters.items row c.args.post w.sample.ensures w.deref_mut.ensures.len))
            (subst (λ (ls : List Limiter). AreSampled ls w.sample.new.limiters row c.args.post)
            w.deref_mut.ensures.value w.sample.ensures)
            c.judge-status.ensures.status stage.ensures.some stage.ensures.none (w.staged-is ∙ stage.ensures.staged)
      ]

-- the delivery is held again
module _ (g : Over) (c : After-enqueue g) where
  holds : Holds c.self.inside.queue c.enqueue.new.queue
      (idle_pair (new g (goal.at.After-enqueue g c).After-limit_of-limit).deliveries c.in_ok-row.row.delivery)
  holds =
      let join = (goal.at.After-enqueue g c).After-limit_of-limit in
      subst (λ (q : QueueValue). Holds q c.enqueue.new.queue
      (idle_pair (new g join).deliveries c.in_ok-row.row.delivery)) (same g join) c.enqueue.ensures.held

-- the queue was told of the endpoint's room
module _ (g : Over) (c : After-update_room g) where
  after : let m = new g (goal.at.After-update_room g c).After-limit_of-limit
      in IsDesk m.endpoints m.deliveries m.waiting m.live m.limiters c.update_room.new.queue
  after =
      let at = goal.at.After-update_room g c in
      let m = new g at.After-limit_of-limit in
      is_desk_left (old g at.In_ok-row) m c.self.inside.queue c.enqueue.new.queue c.update_room.new.queue
      c.in_ok-row.row c.give_back.new.self c.args.post c.moment-at.result c.if-self.staged
      c.self.invariant (back g at.In_ok-row) (over g at.After-limit_of-limit) (holds g at.After-enqueue)
      c.enqueue.ensures.places c.update_room.ensures.pairs
      (subst (λ (ls : List Limiter). ChangesState c.enqueue.new.queue c.update_room.new.queue c.in_ok-row.row.endpoint
      (with_room (room_by m.endpoints ls m.live c.in_ok-row.row.endpoint))) c.deref-2.ensures.value
      c.update_room.ensures.state)

pub returns-in_err-row-clause-moves : goal.returns-in_err-row-clause-moves
returns-in_err-row-clause-moves g c =
    foreign_spends c.self.view_is c.args.permit c.args.post c.args.now c.from_residual.result c.give_back.new.self
    c.from_residual.ensures.0 c.in_err-row.ensures.err (c.in_err-row.ensures.foreign.0 refl)

pub sample-requires-clause-known : goal.sample-requires-clause-known
sample-requires-clause-known g c =
    let at = (goal.at.sample-requires-clause-known g c).In_ok-row in
    let d = old g at in
    limiter_known c.deref_mut.result.now d.endpoints c.in_ok-row.row.endpoint
    (subst (λ (ls : List Limiter). AreLimiters ls d.endpoints)
    (sym c.deref_mut.ensures.value) c.self.invariant.tied.limited) (live g at).known

pub stage_status-staged-requires-clause-ready : goal.stage_status-staged-requires-clause-ready
stage_status-staged-requires-clause-ready g c =
    let at = (goal.at.stage_status-staged-requires-clause-ready g c).In_ok-row in
    takes_outcome (old g at) c.self.inside.queue c.in_ok-row.row c.give_back.new.self c.self.invariant (live g at)

pub enqueue-requires-clause-unheld : goal.enqueue-requires-clause-unheld
enqueue-requires-clause-unheld g c =
    let at = goal.at.enqueue-requires-clause-unheld g c in
    subst (λ (q : QueueValue). IsNew q c.in_ok-row.row.delivery) (sym (same g at.After-limit_of-limit))
    (new_left (old g at.In_ok-row) c.self.inside.queue c.in_ok-row.row c.give_back.new.self c.self.invariant
    (back g at.In_ok-row))

pub enqueue-requires-clause-places : goal.enqueue-requires-clause-places
enqueue-requires-clause-places g c =
    let at = goal.at.enqueue-requires-clause-places g c in
    let m = new g at.After-limit_of-limit in
    subst (λ (q : QueueValue). HasPlaces q m.deliveries) (sym (same g at.After-limit_of-limit))
    (places_left (old g at.In_ok-row) m c.self.inside.queue c.in_ok-row.row c.give_back.new.self c.args.post
    c.moment-at.result c.if-self.staged c.self.invariant (over g at.After-limit_of-limit))

pub update_room-requires : goal.update_room-requires
update_room-requires g c =
    let at = goal.at.update_room-requires g c in
    reserved_left (old g at.In_ok-row) (new g at.After-limit_of-limit) c.self.inside.queue c.enqueue.new.queue
    c.in_ok-row.row c.give_back.new.self c.self.invariant (back g at.In_ok-row) (holds g at.After-enqueue)

pub invariant_of-self-2 : goal.invariant_of-self-2
invariant_of-self-2 g c = after g (goal.at.invariant_of-self-2 g c).After-update_room

pub returns-clause-moves : goal.returns-clause-moves
returns-clause-moves g c =
    let moment_is : IsTrue (is_moment c.moment-at.result) = search (rules, c.moment-at.type_inv) in
    let at = goal.at.returns-clause-moves g c in
    spends (old g at.In_ok-row) c.args.self.now c.self.view_is (new g at.After-limit_of-limit) c.self.inside.queue
    c.update_room.new.queue c.in_ok-row.row c.args.permit c.give_back.new.self c.args.post c.args.now
    c.moment-at.result
    c.if-self.staged c.limit_of-limit.result c.in_flight.result c.is_exhausted.result
    c.self.invariant (back g at.In_ok-row) c.in_ok-row.ensures.returned (over g at.After-limit_of-limit)
    (after g at.After-update_room)
    (c.moment-at.ensures ∙ ap (λ (v : DeskValue). max c.args.now v.clock) (sym c.self.view_is)) moment_is
    (λ s e. subst (λ (o : Option ℕ). IfSome o (λ x. IsTrue (is_status x))) (c.judge-status.ensures.status ∙ e)
    c.judge-status.ensures.legal)
    (c.limit_of-limit.ensures ∙ ap (λ (ls : List Limiter). limit_by ls c.in_ok-row.row.endpoint) c.deref.ensures.value)
    c.in_flight.ensures.count c.is_exhausted.ensures

pub returns-clause-recorded : goal.returns-clause-recorded
returns-clause-recorded g c =
    let at = goal.at.returns-clause-recorded g c in
    tells_status (old g at.In_ok-row).halted c.args.post _ (over g at.After-limit_of-limit).numbered
    ∙ ap (λ (v : DeskValue). status_of v.halted c.args.post) c.self.view_is
