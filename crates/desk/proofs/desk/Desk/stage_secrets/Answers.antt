use Rattle.desk.proofs.Words.{◌+◌, ◌∙◌, ap, arith, length, is_known, record_count, DeskValue}
use Rattle.desk.proofs.RequestTies.{desk_secrets}
use Rattle.desk.proofs.desk.Desk.stage_secrets.Goals as goal

pub invariant_of-self-2 : goal.invariant_of-self-2
invariant_of-self-2 g c =
    desk_secrets c.records-seq.result c.args.name c.args.secrets c.records-seq.ensures.count
    c.in_ok-stage_secrets.ensures.given c.push_request.ensures.staged
    (omega (arith, c.requires.room, ap (λ (v : DeskValue). record_count v.waiting + length v.live) c.self.view_is))
    (ap (λ (v : DeskValue). is_known v.endpoints c.args.name) c.self.view_is ∙ c.requires.known)
    c.self.invariant
