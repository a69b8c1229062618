use Rattle.std.proofs.Common.{◌∙◌, ap, map, sym}
use Rattle.std.specs.Prelude.{filter}
use Rattle.relay_types.specs.Endpoints.{Endpoint, endpoints}
use Rattle.endpoint_book.specs.Entries.{BookValue}
use Rattle.endpoint_book.specs.Fields.{entry_in}
use Rattle.endpoint_book.specs.Topics.{is_on}
use Rattle.endpoint_book.proofs.Filters.{filter_mapped}
use Rattle.endpoint_book.proofs.Histories.{names-told}
use Rattle.endpoint_book.proofs.Names.{named}
use Rattle.endpoint_book.proofs.Pairs.{subscribed-told}
use Rattle.endpoint_book.proofs.book.EndpointBook.subscribers.Goals as goal

pub returns-clause-value : goal.returns-clause-value
returns-clause-value c =
    let b = c.self.inside in
    ap (filter (is_on b.topics c.args.topic))
    (c.as_slice.ensures.value ∙ sym (named (entry_in b.entries) b.names.items c.self.invariant.are_names))
    ∙ ap (λ (v : BookValue). filter (is_on v.topics c.args.topic) (map (λ e. e.name) v.entries)) c.self.view_is

pub returns-clause-stands : goal.returns-clause-stands
returns-clause-stands c = λ records settled h.
    let book = c.args.self.now in
    returns-clause-value c
    ∙ ap (filter (is_on book.topics c.args.topic)) (names-told book records h.tells)
    ∙ filter_mapped (is_on book.topics c.args.topic) (λ (e : Endpoint). e.name) (endpoints records)
    ∙ (λ i. map (λ (e : Endpoint). e.name)
    (filter (λ e. subscribed-told book.topics records c.args.topic e.name h.tells.topics i) (endpoints records)))
