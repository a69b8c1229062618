use Rattle.desk.proofs.Words.{◌∙◌, ap, arith, length, vec_capacity, vec_len}
use Rattle.desk.proofs.OpeningLaws.{limiter_more, limiter_none, limiters_all}
use Rattle.desk.proofs.opening.limiters_of.Goals as goal
use Rattle.desk.proofs.opening.limiters_of.Goals.{in-Some+in_ok-estimator, in_default}

pub loop-name-preserved : goal.loop-name-preserved
loop-name-preserved c =
    let book = c.args.endpoints.now in
    let names = c.names-name-items.result.now in
    let was = c.loop-name.invariant in
    elim c.match-max_limit.branch [
      | in-Some+in_ok-estimator w ↦ record {
        items = ap (λ v. v.items) w.limiters-is
            ∙ limiter_more book names c.loop-name.name-index _ c.loop-name.limiters.items w.push_reserved.new.self.items
            w.in_ok-estimator.estimator w.in-Some.max c.names-name-items.ensures.value c.loop-name-test.true
            c.name-item.is was.items w.in-Some.ensures.value w.in_ok-estimator.ensures.maximum
            w.in_ok-estimator.ensures.empty w.in_ok-estimator.ensures.explains w.push_reserved.ensures.items;
        len = omega (arith, was.len, ap vec_len w.limiters-is, w.push_reserved.ensures.len);
        room = omega (arith, was.room, ap vec_capacity w.limiters-is, w.push_reserved.ensures.capacity);
      }
      | in_default w ↦ record {
        items = ap (λ v. v.items) w.limiters-is
            ∙ limiter_none book names c.loop-name.name-index _ c.loop-name.limiters.items
            c.names-name-items.ensures.value c.loop-name-test.true c.name-item.is was.items
            w.in_default.ensures.value;
        len = omega (arith, was.len, ap vec_len w.limiters-is);
        room = omega (arith, was.room, ap vec_capacity w.limiters-is);
      }
    ]

pub returns-clause-limiters : goal.returns-clause-limiters
returns-clause-limiters c =
    limiters_all c.args.endpoints.now c.loop-name.name-index c.loop-name.limiters.items c.names-name-items.ensures.found
    (omega (arith, c.loop-name-test.false, ap length c.names-name-items.ensures.value)) c.loop-name.invariant.items
