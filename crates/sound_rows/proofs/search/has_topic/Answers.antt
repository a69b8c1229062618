use Rattle.sound_rows.specs.declared.numbers.Topic.{Topic}
use Rattle.sound_rows.proofs.SearchLaws.{found_plain, not_found_plain}
use Rattle.sound_rows.proofs.search.has_topic.Goals as goal

pub returns-in-Some : goal.returns-in-Some
returns-in-Some c =
    let place = c.place_of_topic in
    let rows = c.args.topics.now in
    let x = c.in-Some.found.now in
    let is = rw c.in-Some.is at c.get.ensures.lookup.1 in
    let within = rw c.in-Some.is at c.get.ensures.lookup.3 in
    found_plain (λ (x : Topic). x.set_by) rows c.args.set_by place.result c.requires
    (λ k d h. place.ensures.below k d h) (λ k d h l. place.ensures.above k d h l) x within.0 is

pub returns-in-None : goal.returns-in-None
returns-in-None c =
    let place = c.place_of_topic in
    let behind = rw c.in-None.is at c.get.ensures.lookup.3 in
    not_found_plain (λ (x : Topic). x.set_by) c.args.topics.now c.args.set_by place.result c.requires
    (λ k d h. place.ensures.below k d h) (λ k d h l. place.ensures.above k d h l) behind
