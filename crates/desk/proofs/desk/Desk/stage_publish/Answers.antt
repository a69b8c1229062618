use Rattle.desk.proofs.Words.{◌≡◌, ℕ, ◌++◌, ◌∙◌, IsTrue, List, arith, drop, length, length-map, list_any, map, ap}
use Rattle.desk.proofs.Words.{subst, sym, take, take-append_seam}
use Rattle.std.specs.Prelude.{◌≢◌, All, AllPairs}
use Rattle.desk.specs.Desks.{has_full_backlog_in, lacks_in, subscribed_in, ticket_by}
use Rattle.desk.specs.declared.ticket.Ticket.{Ticket}
use Rattle.desk.proofs.PublishLaws.{backlog_among, lacking_apart, lacking_lacks, numbered_again}
use Rattle.desk.proofs.desk.Desk.stage_publish.Goals as goal

-- a list written over one of the same length
written_over : {X : Type 0} (n : ℕ) (new old : List X) → length new ≡ n → take n (new ++ drop (length new) old) ≡ new
written_over n new old same =
    ap (λ m. take m (new ++ drop (length new) old)) (sym same) ∙ take-append_seam new (drop (length new) old)

pub stage_accepts-requires : goal.stage_accepts-requires
stage_accepts-requires g c =
    let a = c.args in
    let d = a.self.now in
    let is = c.as_slice.ensures.value ∙ c.in_ok-names.ensures.value in
    record {
      apart = subst (AllPairs (λ x y. x ≢ y)) (sym is) (lacking_apart d a.topic a.id c.in_ok-names.ensures.apart);
      unknown = subst (All (λ name. IsTrue (lacks_in d.deliveries a.id name))) (sym is) (lacking_lacks d a.topic a.id);
      some = omega (arith, ap length is, c.requires.some);
      most = omega (arith, ap length is, c.requires.most);
      few = ap (list_any (has_full_backlog_in d.deliveries)) is ∙ backlog_among d a.topic a.id ∙ c.requires.few;
      place = omega (arith, ap length is, c.requires.place);
      room = omega (arith, ap length is, c.requires.room);
    }

pub returns-clause-tickets : goal.returns-clause-tickets
returns-clause-tickets g c =
    let a = c.args in
    let d = a.self.now in
    let later = c.stage_accepts.new.self.deliveries in
    let anew = λ (t : Ticket). ticket_by later t.id t.name in
    let held = c.in_ok-tickets.tickets in
    let new = c.number.new.tickets in
    let given = c.as_mut_slice.ensures.value in
    written_over held.len new held.items
    (omega (arith, ap length c.number.ensures, length-map c.as_mut_slice.result.now anew, c.as_mut_slice.ensures.len))
    ∙ numbered_again d.deliveries later a.id (subscribed_in d.endpoints a.topic) new
    (c.number.ensures ∙ ap (map anew) (given ∙ c.in_ok-tickets.ensures))

pub returns-clause-apart : goal.returns-clause-apart
returns-clause-apart g c = lacking_apart c.args.self.now c.args.topic c.args.id c.in_ok-names.ensures.apart
