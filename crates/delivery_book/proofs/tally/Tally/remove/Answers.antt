use Rattle.std.proofs.Common.{◌≡◌, ◌<◌, true, Option, Some, None, ap, refl, arith, rules}
use Rattle.std.specs.Prelude.{is_some, unwrap_or}
use Rattle.std.specs.Cmp.Lexicographic.{bytes_decides}
use Rattle.relay_types.specs.declared.state.State.{State}
use Rattle.relay_types.specs.declared.state.State.TheVariants.{Pending, Delivered, Exhausted}
use Rattle.delivery_book.specs.declared.row.Counts.{Counts}
use Rattle.delivery_book.specs.Fields.{counts_for, in_state, has_room, no_counts}
use Rattle.delivery_book.proofs.tally.Tally.remove.Goals as goal

-- what counts something is there
there : (state : State) (o : Option Counts) → 0 < in_state state (unwrap_or o no_counts) → is_some o ≡ true
there state (Some counts) h = refl
there Pending None h = absurd (omega (arith, h))
there Delivered None h = absurd (omega (arith, h))
there Exhausted None h = absurd (omega (arith, h))

pub with_one_less-counts-requires : goal.with_one_less-counts-requires
with_one_less-counts-requires c = omega (
  arith,
  c.requires.known (Some c.args.name.now) ((bytes_decides c.args.name.now c.args.name.now).1 refl),
  ap (in_state c.args.state) c.of.ensures,
  ap (λ n. in_state c.args.state (counts_for c.args.self.now (Some n))) c.get-name.ensures,
)

pub with_one_less-self-requires : goal.with_one_less-self-requires
with_one_less-self-requires c = omega (arith, c.requires.known None refl)

pub returns-clause-opened : goal.returns-clause-opened
returns-clause-opened c =
    let was : has_room c.args.self.now c.args.name.now ≡ true = there c.args.state _
    (c.requires.known (Some c.args.name.now) ((bytes_decides c.args.name.now c.args.name.now).1 refl)) in
    search rules
