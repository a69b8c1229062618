use Rattle.std.proofs.Common.{arith, sym, ◌∙◌}
use Rattle.vegas.proofs.RuleLaws.{logarithm-is, logarithm-most, ten_power}
use Rattle.vegas.proofs.rules.step_size.Goals as goal

pub returns-clause-value : goal.returns-clause-value
returns-clause-value c =
    c.max.ensures ∙ sym (logarithm-is c.args.limit c.ilog10.result c.ilog10.ensures.power_le
    c.ilog10.ensures.next_power_gt)

pub returns-clause-high : goal.returns-clause-high
returns-clause-high c = omega (arith, ten_power c.ilog10.result)

pub returns-clause-most : goal.returns-clause-most
returns-clause-most c =
    omega (arith, logarithm-most c.args.limit c.ilog10.result c.ilog10.ensures.power_le c.requires.high)
