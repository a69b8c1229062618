use Rattle.std.proofs.Common.{◌<◌, ◌+◌, ◌∙◌, not, List, ap, subst, sym, take}
use Rattle.std.specs.Prelude.{filter}
use Rattle.delivery_book.specs.declared.entry.Entry.{Entry}
use Rattle.delivery_book.specs.Fields.{HasMore, KeepsRoom, counts_for, in_state, is_taken_below, one_of, settled_among}
use Rattle.delivery_book.proofs.Sweeps.{gone_more, gone_same, gone_there}
use Rattle.delivery_book.proofs.tally.count_out.Goals as goal
use Rattle.delivery_book.proofs.tally.count_out.Goals.{then-not-is_left, else-not-is_left}

pub remove-requires : goal.remove-requires
remove-requires c =
    let l = c.loop-entry in
    let gone = ap not (sym c.is_left.ensures ∙ c.if-not-is_left.true) in
    record {
      known = λ those among.
          subst (λ s. 0 < in_state s (counts_for l.tally those)) (sym c.state.ensures)
          (gone_there c.args.entries.now c.args.seq l.entry-index c.entry-item.result c.loop-entry-test.true
          c.entry-item.is
          c.args.tally.now l.tally gone l.invariant.less c.requires those among);
    }

pub loop-entry-preserved : goal.loop-entry-preserved
loop-entry-preserved c =
    let l = c.loop-entry in
    let e : Entry = c.entry-item.result in
    let es : List Entry = c.args.entries.now in
    let some = filter (is_taken_below c.args.seq) (take (l.entry-index + 1) es) in
    let both : HasMore c.if-not-is_left.tally (settled_among some) c.args.tally.now
    × KeepsRoom c.args.tally.now c.if-not-is_left.tally =
    elim c.if-not-is_left.branch [
      | then-not-is_left w ↦
          subst (λ t. HasMore t (settled_among some) c.args.tally.now × KeepsRoom c.args.tally.now t) (sym w.tally-is) (
            gone_more es c.args.seq l.entry-index e c.loop-entry-test.true c.entry-item.is c.args.tally.now l.tally
                w.remove.new.self (ap not (sym c.is_left.ensures ∙ w.if-not-is_left.true)) l.invariant.less
                (λ those asked. w.remove.ensures.less those asked
                ∙ ap (λ s. in_state asked (counts_for w.remove.new.self those) + one_of e.name s those asked)
                w.state.ensures),
            (λ asked is. w.remove.ensures.stays asked (l.invariant.stays asked is)),
          )
      | else-not-is_left w ↦
          subst (λ t. HasMore t (settled_among some) c.args.tally.now × KeepsRoom c.args.tally.now t) (sym w.tally-is) (
            gone_same es c.args.seq l.entry-index e c.loop-entry-test.true c.entry-item.is c.args.tally.now l.tally
                (ap not (sym c.is_left.ensures ∙ w.if-not-is_left.false)) l.invariant.less,
            l.invariant.stays,
          )
    ] in
    record { less = both.0; stays = both.1 }
