use Rattle.std.proofs.Common.{Some, None, ap, refl, arith}
use Rattle.std.specs.Cmp.Lexicographic.{bytes_decides}
use Rattle.delivery_book.specs.Fields.{counts_for, in_state}
use Rattle.delivery_book.proofs.tally.Tally.add.Goals as goal

pub with_one_more-counts-requires : goal.with_one_more-counts-requires
with_one_more-counts-requires c = omega (
  arith,
  c.requires.room (Some c.args.name.now) ((bytes_decides c.args.name.now c.args.name.now).1 refl),
  ap (in_state c.args.state) c.of.ensures,
  ap (λ n. in_state c.args.state (counts_for c.args.self.now (Some n))) c.get-name.ensures,
)

pub with_one_more-self-requires : goal.with_one_more-self-requires
with_one_more-self-requires c = omega (arith, c.requires.room None refl)
