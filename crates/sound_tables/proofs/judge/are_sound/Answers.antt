use Rattle.std.proofs.Common.{refl, rules, IsPermutation, ◌≡◌, ap, subst, ◌∙◌}
use Rattle.std.specs.List.{list_all}
use Rattle.sound_rows.specs.declared.numbers.Endpoint.{Endpoint}
use Rattle.sound_rows.specs.declared.numbers.RowNumbers.{RowNumbers}
use Rattle.sound_tables.specs.Checks.{AreInTurn}
use Rattle.sound_tables.specs.Places.{are_places, places_of}
use Rattle.sound_tables.proofs.SoundLemmas.{judged, none_sound}
use Rattle.sound_tables.proofs.judge.are_sound.Goals.{then-branch, else-branch}
use Rattle.sound_tables.proofs.judge.are_sound.Goals as goal

pub returns : goal.returns
returns c v db is read =
    let numbers : RowNumbers = record {
      records = c.args.records;
      endpoints = c.args.rows.endpoints;
      deliveries =
          c.args.rows.deliveries;
      attempts = c.args.rows.attempts;
      topics = c.in_ok-numbers_in_turn.field-0;
    } in
    let turn = subst (λ ts. AreInTurn ts numbers.topics.items) c.deref.ensures.value c.in_ok-numbers_in_turn.ensures in
    elim c.if-branch.branch [
      | then-branch w ↦
          let moved : IsPermutation c.args.rows.secrets.items w.are_in_places.new.secrets = search rules in
          let placed : w.are_in_places.result
          ≡ list_all (λ (e : Endpoint). are_places (places_of e.put w.are_in_places.new.secrets))
          c.args.rows.endpoints.items =
          w.are_in_places.ensures.placed
          ∙ ap (list_all (λ (e : Endpoint). are_places (places_of e.put w.are_in_places.new.secrets)))
          w.deref-then-branch.ensures.value in
          rw w.result-is (judged v db is c.args.records c.args.rows read c.requires numbers refl refl refl refl turn _ _
          w.are_in_places.result moved w.are_in_places.ensures.sorted c.in_ok-are_sound.ensures.order
          c.in_ok-are_sound.ensures.sound placed w.if-branch.true)
      | else-branch w ↦ rw (w.result-is, w.if-branch.false)
          (none_sound v db is c.args.records c.args.rows read c.requires numbers refl refl refl refl turn _
          c.in_ok-are_sound.ensures.sound w.if-branch.false)
    ]
