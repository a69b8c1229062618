use Rattle.desk.proofs.OpeningLaws.{is_desk_new}
use Rattle.desk.proofs.desk.Desk.new.Goals as goal

pub invariant_of-result : goal.invariant_of-result
invariant_of-result g c =
    is_desk_new c.args.mark c.in_ok-new.ensures.value c.new-2.ensures.value c.in_ok-new-2.ensures c.in_ok-new-3.ensures
    c.new-5.ensures.items c.new-6.ensures
