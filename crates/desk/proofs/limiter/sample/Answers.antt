use Rattle.desk.proofs.Words.{◌∙◌, sym, subst, slice_set, Limiter, AreSampled}
use Rattle.desk.proofs.SpendWorlds.{sampled_at, has_place, with_estimator}
use Rattle.desk.proofs.limiter.sample.Goals as goal

pub returns-in-Some-place_of : goal.returns-in-Some-place_of
returns-in-Some-place_of c =
    let ls = c.args.limiters.now in
    let place = c.in-Some-place_of.place in
    subst (λ (l : Limiter). AreSampled ls (slice_set ls place (with_estimator l c.sample.new.self)) c.args.row.now
    c.args.post.now) c.index-limiters-place.is
    (sampled_at ls place c.index-limiters-place.result c.args.row.now c.args.post.now c.in-Some.measured
    c.sample.new.self
    c.in-Some-place_of.ensures c.index-limiters-place.is (sym c.in-Some.ensures) c.sample.ensures.maximum
    c.sample.ensures.follows)

pub returns-in_default-place_of : goal.returns-in_default-place_of
returns-in_default-place_of c = absurd (has_place c.args.limiters.now c.args.row.now.endpoint c.requires.known
    (sym c.in_default-place_of.is ∙ c.place_of.ensures))
