use Rattle.std.proofs.Common.{◌∙◌}
use Rattle.hyper_poster.proofs.Targets.{target_whole}
use Rattle.hyper_poster.proofs.request.uri_of.Goals as goal

pub returns : goal.returns
returns c =
    let whole = target_whole c.args.outgoing.now.target c.target.ensures.valid in
    let kept = rw c.target.ensures.text at c.in_ok-from_bytes.ensures.ok.1 in
    let from = c.from.ensures in
    (from.0, from.1, from.2 ∙ kept ∙ whole)
