use Rattle.std.proofs.Common.{◌∙◌, ap, sym, subst, not, ◌↔◌}
use Rattle.std.proofs.lemmas.Bool.{not-true}
use Rattle.std.specs.List.{list_any}
use Rattle.std.specs.Prelude.{IsTrue}
use Rattle.claim_queue.specs.declared.lanes.Lane.{Lane}
use Rattle.claim_queue.specs.Queues.{IsNew}
use Rattle.claim_queue.specs.Lanes.{is_key_numbered}
use Rattle.claim_queue.proofs.LaneLaws.{is_new, none_has}
use Rattle.claim_queue.proofs.queue.ClaimQueue.is_new.Goals as goal

pub returns : goal.returns
returns c =
    let lanes = c.self.inside.lanes.items in
    let is = c.has_seq.ensures
    ∙ ap (list_any (λ (lane : Lane). list_any (is_key_numbered c.args.seq) lane.keys.items)) c.deref.ensures.value
    in
    subst (λ q. IsTrue (not c.has_seq.result) ↔ IsNew q c.args.seq) c.self.view_is (
      λ h. is_new lanes c.args.seq (sym is ∙ not-true c.has_seq.result h),
      λ h. ap not
          (is ∙ none_has lanes c.args.seq h),
    )
