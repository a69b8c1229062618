use Rattle.desk.proofs.Words.{◌∙◌, ap, subst, DeskValue}
use Rattle.std.specs.Prelude.{◌≢◌, AllPairs}
use Rattle.desk.specs.Desks.{names_in}
use Rattle.desk.proofs.desk.Desk.lacking.Goals as goal

pub returns-clause-apart : goal.returns-clause-apart
returns-clause-apart g c =
    subst (AllPairs (λ a b. a ≢ b))
    (c.names.ensures.value ∙ ap (λ (v : DeskValue). names_in v.endpoints) c.self.view_is)
    c.names.ensures.apart
