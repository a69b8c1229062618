use Rattle.desk.proofs.Words.{◌≡◌, ◌∙◌, List, Some, None, ap, option_map, in_flight_of, Limiter, limiter_of, limits_by}
use Rattle.desk.proofs.ClaimLaws.{limits_are}
use Rattle.desk.proofs.DeskLaws.{stands_as}
use Rattle.desk.proofs.desk.Desk.limits.Goals as goal

pub returns-in_err-limiter-clause-stands : goal.returns-in_err-limiter-clause-stands
returns-in_err-limiter-clause-stands g c = λ w h.
    let none : None ≡ limiter_of c.self.inside.limiters.items c.args.name = c.in_err-limiter.ensures
    ∙ ap (λ (ls : List Limiter). limiter_of ls c.args.name) c.deref.ensures.value in
    c.from_residual.ensures
    ∙ ap (option_map (limits_by (in_flight_of c.args.name c.self.inside.pool))) none
    ∙ limits_are _ w c.args.name (stands_as c.self.view_is h) c.self.invariant.tied.limited

pub returns-clause-stands : goal.returns-clause-stands
returns-clause-stands g c = λ w h.
    let found : Some c.in_ok-limiter.limiter.now ≡ limiter_of c.self.inside.limiters.items c.args.name =
    c.in_ok-limiter.ensures ∙ ap (λ (ls : List Limiter). limiter_of ls c.args.name) c.deref.ensures.value in
    let told : Some (record { limit = c.limit.result; in_flight = c.in_flight.result; noload = c.noload.result })
    ≡ Some (limits_by (in_flight_of c.args.name c.self.inside.pool) c.in_ok-limiter.limiter.now) =
    λ i. Some (record {
      limit = c.limit.ensures.number i;
      in_flight = c.in_flight.ensures.count i;
      noload =
          c.noload.ensures.number i;
    }) in
    told
    ∙ ap (option_map (limits_by (in_flight_of c.args.name c.self.inside.pool))) found
    ∙ limits_are _ w c.args.name (stands_as c.self.view_is h) c.self.invariant.tied.limited
