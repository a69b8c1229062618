use Rattle.relay_types.proofs.UrlLaws.{asks_for_path, short_path}
use Rattle.relay_types.proofs.VisibleLaws.{visible_path}
use Rattle.relay_types.proofs.target.Target.path.Goals as goal

pub returns-clause-valid : goal.returns-clause-valid
returns-clause-valid c =
    rw (c.path_of_part.ensures, c.path_part.ensures, c.as_bytes.ensures.text)
    (asks_for_path c.args.self.now c.as_bytes.ensures.valid)

pub returns-clause-most : goal.returns-clause-most
returns-clause-most c =
    rw (c.path_of_part.ensures, c.path_part.ensures, c.as_bytes.ensures.text)
    (short_path c.args.self.now c.as_bytes.ensures.most)

pub returns-clause-visible : goal.returns-clause-visible
returns-clause-visible c =
    rw (c.path_of_part.ensures, c.path_part.ensures, c.as_bytes.ensures.text)
    (visible_path c.args.self.now c.as_bytes.ensures.valid)
