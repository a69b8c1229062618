use Rattle.std.proofs.Common.{◌==◌, ◌&&◌, sym, ap, ◌∙◌}
use Rattle.std.proofs.lemmas.Bool.{and_left, eq-eqb, ne_eqb}
use Rattle.sound_rows.specs.declared.numbers.Attempt.{Attempt}
use Rattle.sound_rows.specs.RowNumbers.{kept}
use Rattle.sound_rows.specs.Checks.{is_gone_attempt}
use Rattle.sound_rows.proofs.SearchLaws.{found, not_found}
use Rattle.sound_rows.proofs.numbers.RowNumbers.is_gone_at.Goals as goal

pub returns-then-found-number : goal.returns-then-found-number
returns-then-found-number c =
    let place = rw c.deref-2.ensures.value at c.place_of_attempt.ensures in
    let gone = is_gone_attempt (kept c.args.self.now) c.args.endpoint.now in
    let x = c.in-Some.found.now in
    let told = rw (c.deref.ensures.value, c.in-Some.is) at c.get.ensures.lookup in
    c.is_gone_attempt.ensures ∙ sym (ap (λ b. b && gone x) (eq-eqb x.seq c.args.number c.if-found-number.true))
    ∙ found (λ (x : Attempt). x.seq) gone c.args.self.now.attempts.items c.args.number c.place_of_attempt.result
    c.requires.attempts (λ k d h. place.below k d h) (λ k d h l. place.above k d h l) x told.3.0 told.1

pub returns-else-found-number : goal.returns-else-found-number
returns-else-found-number c =
    let place = rw c.deref-2.ensures.value at c.place_of_attempt.ensures in
    let gone = is_gone_attempt (kept c.args.self.now) c.args.endpoint.now in
    let x = c.in-Some.found.now in
    let told = rw (c.deref.ensures.value, c.in-Some.is) at c.get.ensures.lookup in
    let other = ne_eqb x.seq c.args.number c.if-found-number.false in
    other ∙ sym (and_left (x.seq == c.args.number) (gone x) other)
    ∙ found (λ (x : Attempt). x.seq) gone c.args.self.now.attempts.items c.args.number c.place_of_attempt.result
    c.requires.attempts (λ k d h. place.below k d h) (λ k d h l. place.above k d h l) x told.3.0 told.1

pub returns-in-None : goal.returns-in-None
returns-in-None c =
    let place = rw c.deref-2.ensures.value at c.place_of_attempt.ensures in
    let gone = is_gone_attempt (kept c.args.self.now) c.args.endpoint.now in
    let told = rw (c.deref.ensures.value, c.in-None.is) at c.get.ensures.lookup in
    not_found (λ (x : Attempt). x.seq) gone c.args.self.now.attempts.items c.args.number c.place_of_attempt.result
    c.requires.attempts (λ k d h. place.below k d h) (λ k d h l. place.above k d h l) told.3
