use Rattle.std.proofs.Common.{inr, sym, ap₂, subst}
use Rattle.sqlite.specs.Files.{HoldsDatabase}
use Rattle.recovery.proofs.PathLaws.{of_disk, of_some, image_of_two, seen_by}
use Rattle.recovery.proofs.file.connect.Goals as goal

pub returns-in-Err-default-Some-clause-refused : goal.returns-in-Err-default-Some-clause-refused
returns-in-Err-default-Some-clause-refused g c =
    let found = of_some _ _ _ c.in-Err-default-Some.field-0-1-is c.in-Err-default-Some.ensures.cause in
    let log = found.1 in
    let db = found.2 in
    let same = ap₂ image_of_two (ap₂ (seen_by g.T.Start.log g.T.Start.db) log.0 log.1)
    (ap₂ (seen_by g.T.Start.log g.T.Start.db) db.0 db.1) in
    inr (record {
      files = found.0;
      rest = c.in-Err-default-Some.left;
      error = c.in-Err-default-Some.error;
      held = same;
      named = c.in-Err-default-Some.ensures.named;
      unfit = c.refusal_of.ensures.unfit;
      told = c.refusal_of.ensures.told;
      sound = λ clean trees holds. of_disk found.0 c.in-Err-default-Some.left c.refusal_of.result
          c.in-Err-default-Some.error c.refusal_of.ensures.told trees
          (subst (λ i. HoldsDatabase i trees) (sym same) holds) (found.3 clean).0;
    })
