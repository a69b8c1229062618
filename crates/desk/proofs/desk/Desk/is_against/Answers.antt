use Rattle.desk.proofs.Words.{length, all_records, settled_records}
use Rattle.desk.proofs.DeskLaws.{seen}
use Rattle.desk.proofs.PublishLaws.{kept_if_known}
use Rattle.desk.proofs.desk.Desk.is_against.Goals as goal

pub is_conflict-requires : goal.is_conflict-requires
is_conflict-requires g c = record {
  kept = λ w h. kept_if_known w c.args.name c.args.id.now c.find.result
      (c.find.ensures.stands (all_records w) (length (settled_records w)) (seen c.self.view_is h).books.of_deliveries);
}
