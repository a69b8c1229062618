use Rattle.std.proofs.Common.{◌∙◌, ap, subst, sym}
use Rattle.desk.specs.Desks.{HasNothingOut}
use Rattle.driver.proofs.running.run_once_or_twice.Goals as goal

pub run_again-requires : goal.run_again-requires
run_again-requires g c = record {
  out = subst HasNothingOut (sym c.in-Err.ensures.undone.0) c.requires.out;
  mark = ap (λ d. d.waiting.mark) c.in-Err.ensures.undone.0 ∙ c.requires.mark ∙ ap (λ v. v.mark) (sym c.in-Err.ensures.undone.1);
}
