use Rattle.std.proofs.Common.{◌∙◌, ap, is_some}
use Rattle.endpoint_book.specs.Entries.{BookValue}
use Rattle.endpoint_book.specs.Topics.{flag_of}
use Rattle.endpoint_book.proofs.Pairs.{named-told}
use Rattle.endpoint_book.proofs.book.EndpointBook.is_named.Goals as goal

pub returns-clause-value : goal.returns-clause-value
returns-clause-value c = c.is_named.ensures
    ∙ ap (λ (v : BookValue). is_some (flag_of v.topics c.args.topic c.args.name)) c.self.view_is

pub returns-clause-stands : goal.returns-clause-stands
returns-clause-stands c = λ records settled h. returns-clause-value c
    ∙ named-told c.args.self.now.topics records c.args.topic c.args.name h.tells.topics
