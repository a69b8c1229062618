use Rattle.desk.proofs.Words.{◌+◌, ◌∙◌, ap, arith, length, subst, ChangesState, with_room, is_known, record_count}
use Rattle.desk.proofs.Words.{DeskValue, room_by}
use Rattle.desk.proofs.RequestTies.{desk_flag}
use Rattle.desk.proofs.desk.Desk.stage_enabled.Goals as goal

pub invariant_of-self : goal.invariant_of-self
invariant_of-self g c =
    desk_flag c.records-seq.result c.args.name c.args.flag c.records-seq.ensures.count c.stage_enabled.ensures.flag
    c.push_request.ensures.staged
    (omega (arith, c.requires.room, ap (λ (v : DeskValue). record_count v.waiting + length v.live) c.self.view_is))
    (ap (λ (v : DeskValue). is_known v.endpoints c.args.name) c.self.view_is ∙ c.requires.known)
    c.update_room.ensures.pairs
    (subst (λ ls. ChangesState c.self.inside.queue c.update_room.new.queue c.args.name
    (with_room (room_by c.stage_enabled.new.self ls c.self.inside.pool c.args.name))) c.deref.ensures.value
    c.update_room.ensures.state)
    c.self.invariant
