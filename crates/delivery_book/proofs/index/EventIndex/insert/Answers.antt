use Rattle.std.proofs.Common.{◌∙◌, Some}
use Rattle.std.specs.Box.{boxed_slice_items}
use Rattle.delivery_book.specs.Fields.{key_bytes}
use Rattle.delivery_book.proofs.IndexLemmas.{number_changed}
use Rattle.delivery_book.proofs.index.EventIndex.insert.Goals as goal

pub returns-clause-added : goal.returns-clause-added
returns-clause-added c =
    let old = c.args.self.now in
    number_changed old (record old { numbers = c.insert.new.self }) (boxed_slice_items c.in_ok-key.key)
    c.args.name.now c.args.id.now (Some c.args.seq)
    (c.in_ok-key.ensures.ok ∙ c.as_slice.ensures.value ∙ c.key_of-bytes.ensures
    ∙ (λ i. key_bytes (c.get.ensures i) (c.as_bytes.ensures.text i)))
    c.in_ok-insert.ensures.updates
