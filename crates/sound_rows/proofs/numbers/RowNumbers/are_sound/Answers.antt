use Rattle.std.proofs.Common.{◌≡◌, ◌&&◌, true, false, sym, ap, subst, ◌∙◌}
use Rattle.std.specs.List.{list_all}
use Rattle.std.proofs.lemmas.Bool.{and_left, and_right}
use Rattle.sound_rows.specs.RowNumbers.{AreAscending, kept}
use Rattle.sound_rows.specs.Checks.{are_below, are_numbers_sound, have_places, is_turn}
use Rattle.sound_rows.proofs.SoundLaws.{sound_same, keyed_ascends, told_of_rows}
use Rattle.sound_rows.proofs.numbers.RowNumbers.are_sound.Goals as goal

pub returns-then-not-are_below-clause-sound : goal.returns-then-not-are_below-clause-sound
returns-then-not-are_below-clause-sound c rows numbers keyed values =
    let k = kept c.args.self.now in
    sym (and_left (are_below k) (have_places k && list_all (is_turn k.attempts) k.attempts)
    (sym c.are_below.ensures ∙ c.if-not-are_below.true))
    ∙ (ap are_numbers_sound numbers ∙ sound_same rows values)

pub returns-then-not-are_ascending-clause-sound : goal.returns-then-not-are_ascending-clause-sound
returns-then-not-are_ascending-clause-sound c rows numbers keyed values =
    let ascending = c.are_ascending.ensures.1 (subst AreAscending (sym numbers) (keyed_ascends rows keyed)) in
    let never : false ≡ true = sym c.if-not-are_ascending.true ∙ ascending in
    absurd (cc never)

pub returns-then-not-have_places-clause-sound : goal.returns-then-not-have_places-clause-sound
returns-then-not-have_places-clause-sound c rows numbers keyed values =
    let k = kept c.args.self.now in
    sym (and_right (are_below k) (have_places k && list_all (is_turn k.attempts) k.attempts)
    (and_left (have_places k) (list_all (is_turn k.attempts) k.attempts)
    (sym c.have_places.ensures ∙ c.if-not-have_places.true)))
    ∙ (ap are_numbers_sound numbers ∙ sound_same rows values)

pub returns-clause-sound : goal.returns-clause-sound
returns-clause-sound c =
    let k = kept c.args.self.now in
    let below : are_below k ≡ true = sym c.are_below.ensures ∙ c.if-not-are_below.false in
    let places : have_places k ≡ true = sym c.have_places.ensures ∙ c.if-not-have_places.false in
    let turns = list_all (is_turn k.attempts) k.attempts in
    let whole : are_numbers_sound k ≡ turns = (λ i. below i && (places i && turns)) in
    told_of_rows c.args.self.now _ turns (rw c.deref.ensures.value at c.are_in_turn.ensures)
    (λ rows numbers keyed values. sym whole ∙ (ap are_numbers_sound numbers ∙ sound_same rows values))
