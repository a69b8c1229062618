use Rattle.std.proofs.Common.{◌∙◌, ap}
use Rattle.endpoint_book.specs.Entries.{BookValue}
use Rattle.endpoint_book.specs.Topics.{is_on}
use Rattle.endpoint_book.proofs.Pairs.{subscribed-told}
use Rattle.endpoint_book.proofs.book.EndpointBook.is_subscribed.Goals as goal

pub returns-clause-value : goal.returns-clause-value
returns-clause-value c = c.is_on.ensures ∙ ap (λ (v : BookValue). is_on v.topics c.args.topic c.args.name)
    c.self.view_is

pub returns-clause-stands : goal.returns-clause-stands
returns-clause-stands c = λ records settled h. returns-clause-value c ∙ subscribed-told c.args.self.now.topics records
    c.args.topic c.args.name h.tells.topics
