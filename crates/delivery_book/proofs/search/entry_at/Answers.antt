use Rattle.std.proofs.Common.{◌<◌, ◌≢◌, Some, arith, sym, ◌∙◌, ap, length, get_or}
use Rattle.delivery_book.specs.declared.entry.Entry.{Entry}
use Rattle.delivery_book.proofs.Entries.{entry_at-found, entry_at-none, apart, get_or-any}
use Rattle.delivery_book.proofs.search.entry_at.Goals as goal
use Rattle.delivery_book.proofs.search.entry_at.Goals.{else-index-entries-via-then-index-entries+else-entries-index}
use Rattle.delivery_book.proofs.search.entry_at.Goals.{else-index-entries-via-else-index-entries}

pub returns-then-entries-index : goal.returns-then-entries-index
returns-then-entries-index c =
    let n = c.count_below-index.result in
    let d = c.index-entries-index.result in
    let e = c.index-entries-index-then-entries-index in
    ap Some (e.is ∙ get_or-any c.args.entries.now n e.result d c.if-index-entries.true)
    ∙ sym (entry_at-found c.args.entries.now c.args.seq n d c.if-index-entries.true
    (λ k x h. c.count_below-index.ensures.below k x h) c.if-entries-index.true)

pub returns-else-index-entries : goal.returns-else-index-entries
returns-else-index-entries c =
    let n = c.count_below-index.result in
    let b = c.count_below-index.ensures in
    let other : (d : Entry) → n < length c.args.entries.now → (get_or c.args.entries.now n d).seq ≢ c.args.seq =
    elim c.else-index-entries.branch [
      | else-index-entries-via-then-index-entries+else-entries-index w ↦ λ d h same. w.if-entries-index.false
          (ap (λ x. x.seq) (get_or-any c.args.entries.now n w.index-entries-index.result d h) ∙ same)
      | else-index-entries-via-else-index-entries w ↦ λ d h same. absurd (omega (arith, h, w.if-index-entries.false))
    ] in
    sym (entry_at-none c.args.entries.now c.args.seq (apart c.args.entries.now c.args.seq n (λ k x h. b.below k x h)
    (λ k x h l. b.above k x h l) c.requires other))
