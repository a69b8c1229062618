use Rattle.desk.proofs.Words.{◌≡◌, ◌+◌, ◌∙◌, List, ◌++◌, [], ◌∷◌, ap, arith, length, subst, sym, is_some, ChangesState}
use Rattle.desk.proofs.Words.{with_room, is_known, record_count, Limiter, DeskValue, IsDesk, with_put, new_limiter}
use Rattle.desk.proofs.Words.{room_by}
use Rattle.desk.proofs.OpeningLaws.{limiter_is}
use Rattle.desk.proofs.RequestTies.{desk_put, desk_reserved, reserved_own}
use Rattle.desk.proofs.desk.Desk.stage_put.Goals as goal

pub update_room-requires : goal.update_room-requires
update_room-requires g c = ap is_some
    (reserved_own c.self.inside.queue c.reserve-2.new.self c.args.name 0 c.in_ok-reserve-2.ensures.state)

pub invariant_of-self-2 : goal.invariant_of-self-2
invariant_of-self-2 g c =
    desk_put c.reserve-2.new.self c.records-seq.result c.args.name _ c.args.target c.args.max c.args.secrets
    (new_limiter c.args.name c.args.max) c.records-seq.ensures.count
    c.in_ok-stage_put.ensures.put c.push_request.ensures.staged
    (c.push_reserved.ensures.items
    ∙ ap (λ (ls : List Limiter). ls ++ record { endpoint = c.args.name; estimator = c.in_ok-estimator.estimator }
    ∷ []) c.in_ok-reserve.ensures.items ∙ ap (λ (l : Limiter). c.self.inside.limiters.items ++ l ∷ [])
    (limiter_is c.in_ok-estimator.estimator c.args.name c.args.max c.in_ok-estimator.ensures.maximum
    c.in_ok-estimator.ensures.empty c.in_ok-estimator.ensures.explains))
    (λ i. (c.args.name, c.args.max))
    (omega (arith, c.requires.room, ap (λ (v : DeskValue). record_count v.waiting + length v.live) c.self.view_is))
    c.in_ok-kept.ensures (ap (λ (v : DeskValue). is_known v.endpoints c.args.name) c.self.view_is ∙ c.requires.unknown)
    c.in_ok-reserve-2.ensures.pairs c.in_ok-reserve-2.ensures.state c.update_room.ensures.pairs
    (subst (λ ls. ChangesState c.reserve-2.new.self c.update_room.new.queue c.args.name
    (with_room (room_by c.stage_put.new.self ls c.self.inside.pool c.args.name))) c.deref.ensures.value
    c.update_room.ensures.state)
    c.self.invariant

pub invariant_of-self-in_err-stage_put : goal.invariant_of-self-in_err-stage_put
invariant_of-self-in_err-stage_put g c =
    subst (λ book. IsDesk book c.self.inside.deliveries c.self.inside.waiting c.self.inside.pool
    c.reserve.new.self.items c.reserve-2.new.self) (sym c.in_err-stage_put.ensures.unchanged)
    (subst (λ ls. IsDesk c.self.inside.endpoints c.self.inside.deliveries c.self.inside.waiting c.self.inside.pool ls
    c.reserve-2.new.self) (sym c.in_ok-reserve.ensures.items)
    (desk_reserved c.args.name 0 c.in_ok-reserve-2.ensures.pairs c.in_ok-reserve-2.ensures.state c.self.invariant))

pub returns-clause-staged : goal.returns-clause-staged
returns-clause-staged g c = rw (
  c.push_request.ensures.staged,
  c.in_ok-stage_put.ensures.put,
  longer,
  c.in_ok-kept.ensures,
  c.records-seq.ensures.count,
)
    (ap (λ (v : DeskValue). with_put v c.args.name c.args.target c.args.max c.args.secrets) c.self.view_is)
  where
    longer : c.push_reserved.new.self.items ≡ c.self.inside.limiters.items ++ new_limiter c.args.name c.args.max ∷ []
    longer = c.push_reserved.ensures.items
        ∙ ap (λ (ls : List Limiter). ls ++ record { endpoint = c.args.name; estimator = c.in_ok-estimator.estimator }
        ∷ []) c.in_ok-reserve.ensures.items ∙ ap (λ (l : Limiter). c.self.inside.limiters.items ++ l ∷ [])
        (limiter_is c.in_ok-estimator.estimator c.args.name c.args.max c.in_ok-estimator.ensures.maximum
        c.in_ok-estimator.ensures.empty c.in_ok-estimator.ensures.explains)
