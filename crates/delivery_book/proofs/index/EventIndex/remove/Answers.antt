use Rattle.std.proofs.Common.{◌∙◌, None}
use Rattle.delivery_book.specs.Fields.{key_bytes}
use Rattle.delivery_book.proofs.IndexLemmas.{number_changed}
use Rattle.delivery_book.proofs.index.EventIndex.remove.Goals as goal

pub returns : goal.returns
returns c =
    let old = c.args.self.now in
    number_changed old (record old { numbers = c.remove.new.self }) c.as_slice.result.now c.args.name.now
    c.args.id.now None
    (c.as_slice.ensures.value ∙ c.key_of-key.ensures
    ∙ (λ i. key_bytes (c.get.ensures i) (c.as_bytes.ensures.text i)))
    c.remove.ensures.updates
