use Rattle.std.proofs.Common.{◌≡◌, ◌∙◌, None, Some, arith, rules, sym, take}
use Rattle.std.proofs.lemmas.List.Elements.{All-take}
use Rattle.delivery_book.specs.declared.entry.Entry.{Entry}
use Rattle.delivery_book.specs.Fields.{HasNumber, HasSameKeys, number_of}
use Rattle.delivery_book.proofs.IndexLemmas.{keys-more, keys-undone, on_err, on_ok}
use Rattle.delivery_book.proofs.index.add_events.Goals as goal

pub returns-then-is_err-clause-unchanged : goal.returns-then-is_err-clause-unchanged
returns-then-is_err-clause-unchanged c =
    let few = take c.loop-place.place c.args.events.now in
    keys-undone c.args.index.now c.insert.new.self c.remove_events.new.index few
    (All-take (λ e. number_of c.args.index.now e.name e.id ≡ None) c.loop-place.place c.args.events.now
    c.requires.unknown)
    (λ name id. on_err c.insert.result (HasSameKeys c.loop-place.index c.insert.new.self) c.insert.ensures.unchanged
    (sym c.is_err.ensures.value ∙ c.if-is_err.true) name id
    ∙ c.loop-place.invariant name id)
    c.remove_events.ensures

pub loop-place-preserved : goal.loop-place-preserved
loop-place-preserved c =
    let e : Entry = c.index-events-place.result in
    keys-more c.args.index.now c.loop-place.index c.insert.new.self c.args.events.now c.loop-place.place e c.requires
    (omega (arith, c.loop-place-test.true)) (search rules) c.loop-place.invariant
    (on_ok c.insert.result (HasNumber c.loop-place.index e.name e.id (Some e.seq) c.insert.new.self)
    c.insert.ensures.added (sym c.is_err.ensures.value ∙ c.if-is_err.false))
