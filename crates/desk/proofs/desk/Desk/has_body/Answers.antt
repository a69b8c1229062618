use Rattle.desk.proofs.Words.{◌≡◌, ◌∙◌, List, ℕ, false, length, Option, Some, None, bytes_eq, option_map, option_map_or}
use Rattle.desk.proofs.Words.{refl}
use Rattle.desk.proofs.Words.{all_records, settled_records, Accepted}
use Rattle.desk.proofs.DeskLaws.{body_if_kept, seen}
use Rattle.desk.proofs.desk.Desk.has_body.Goals as goal

-- what isn't there has no bytes
none_there : (body : List ℕ) (o : Option Accepted) → None ≡ option_map (λ a. a.body) o
    → false ≡ option_map_or (λ a. bytes_eq a.body body) o false
none_there body None e = refl
none_there body (Some a) e = cc

pub returns-in-None-clause-stands : goal.returns-in-None-clause-stands
returns-in-None-clause-stands g c = λ w h.
    none_there c.args.body.now _
    (c.in-None.ensures.stands (all_records w) (length (settled_records w)) (seen c.self.view_is h).books.of_deliveries
    ∙ body_if_kept w c.args.delivery (c.requires.kept w h))
