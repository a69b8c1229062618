use Rattle.std.proofs.Common.{◌==◌, ◌&&◌, nat_lt, sym, ◌∙◌}
use Rattle.std.specs.List.{list_any}
use Rattle.std.proofs.lemmas.Bool.{and_left, and_right}
use Rattle.relay_types.specs.Judging.{is_gone_status}
use Rattle.sound_rows.specs.declared.numbers.Delivery.{Delivery}
use Rattle.sound_rows.specs.declared.numbers.Endpoint.{Endpoint}
use Rattle.sound_rows.specs.RowNumbers.{kept}
use Rattle.sound_rows.specs.Checks.{is_gone_attempt}
use Rattle.sound_rows.proofs.SearchLaws.{found, not_found, none_at}
use Rattle.sound_rows.proofs.numbers.RowNumbers.is_overlooked.Goals as goal

pub returns-then-not-is_gone : goal.returns-then-not-is_gone
returns-then-not-is_gone c =
    let k = kept c.args.self.now in
    let t = c.args.attempt.now in
    let gone = sym c.is_gone.ensures ∙ c.if-not-is_gone.true in
    none_at (λ (e : Endpoint). nat_lt e.enabled_by t.seq) (λ e. is_gone_attempt k e t) k.endpoints
    (λ e. and_left (is_gone_status t.status) (list_any (λ d. d.seq == t.delivery && d.endpoint == e.put) k.deliveries)
    gone)

pub returns-in-Some : goal.returns-in-Some
returns-in-Some c =
    let k = kept c.args.self.now in
    let t = c.args.attempt.now in
    let place = rw c.deref-2.ensures.value at c.place_of_delivery.ensures in
    let x = c.in-Some.found.now in
    let told = rw (c.deref.ensures.value, c.in-Some.is) at c.get.ensures.lookup in
    let gone = sym c.is_gone.ensures ∙ c.if-not-is_gone.false in
    (rw c.deref-in-Some.ensures.value at c.has_older_flag.ensures)
    ∙ (λ i. list_any (λ e. nat_lt e.enabled_by t.seq && found (λ (x : Delivery). x.seq) (λ x. x.endpoint == e.put)
    k.deliveries t.delivery c.place_of_delivery.result c.requires.deliveries (λ k d h. place.below k d h)
    (λ k d h l. place.above k d h l) x told.3.0 told.1 i) k.endpoints)
    ∙ (λ i. list_any (λ e. nat_lt e.enabled_by t.seq
    && (sym gone i && list_any (λ d. d.seq == t.delivery && d.endpoint == e.put) k.deliveries)) k.endpoints)

pub returns-in-None : goal.returns-in-None
returns-in-None c =
    let k = kept c.args.self.now in
    let t = c.args.attempt.now in
    let place = rw c.deref-2.ensures.value at c.place_of_delivery.ensures in
    let told = rw (c.deref.ensures.value, c.in-None.is) at c.get.ensures.lookup in
    none_at (λ (e : Endpoint). nat_lt e.enabled_by t.seq) (λ e. is_gone_attempt k e t) k.endpoints
    (λ e. and_right (is_gone_status t.status) (list_any (λ d. d.seq == t.delivery && d.endpoint == e.put) k.deliveries)
    (sym (not_found (λ (x : Delivery). x.seq) (λ x. x.endpoint == e.put) k.deliveries t.delivery
    c.place_of_delivery.result c.requires.deliveries (λ k d h. place.below k d h) (λ k d h l. place.above k d h l)
    told.3)))
