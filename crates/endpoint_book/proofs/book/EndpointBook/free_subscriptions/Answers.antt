use Rattle.std.proofs.Common.{ap, arith, length}
use Rattle.endpoint_book.specs.Entries.{BookValue}
use Rattle.endpoint_book.proofs.book.EndpointBook.free_subscriptions.Goals as goal

pub returns-clause-free : goal.returns-clause-free
returns-clause-free c = omega (
  arith,
  c.len.ensures.len,
  c.len.ensures.few,
  ap (λ (v : BookValue). length v.topics)
      c.self.view_is,
)

pub returns-clause-stands : goal.returns-clause-stands
returns-clause-stands c = λ records settled h. omega (arith, returns-clause-free c, h.tells.topics.count)
