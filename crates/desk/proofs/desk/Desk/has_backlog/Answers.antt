use Rattle.desk.proofs.Words.{◌∙◌, ◌+◌, arith, length, ap, nat_lt, all_records, settled_records}
use Rattle.desk.specs.declared.limits.TheConstants.{MAX_PENDING_ALL}
use Rattle.desk.proofs.DeskLaws.{pending_all_is, seen}
use Rattle.desk.proofs.PublishLaws.{passes_limit}
use Rattle.desk.proofs.desk.Desk.has_backlog.Goals as goal

pub returns : goal.returns
returns g c = λ w h.
    let here = seen c.self.view_is h in
    let all =
    c.pending_all.ensures (all_records w) (length (settled_records w)) here.books.of_deliveries
    ∙ pending_all_is (all_records w) in
    ap (nat_lt MAX_PENDING_ALL) c.saturating_add.ensures ∙ passes_limit MAX_PENDING_ALL _ (omega arith)
    ∙ ap (λ n. nat_lt MAX_PENDING_ALL (n + c.args.events)) all
