use Rattle.desk.proofs.Words.{◌≡◌, ◌∙◌, sym, ap, Err, seal}
use Rattle.desk.proofs.DeskLaws.{replies}
use Rattle.desk.proofs.TurnLaws.{seal_reply, seal_turns}
use Rattle.desk.proofs.desk.Desk.seal.Goals as goal
use Rattle.desk.proofs.desk.Desk.seal.Goals.{in-Ok, in-Err-BatchOut, in-Err-OutOfMemory}

pub returns-clause-moves : goal.returns-clause-moves
returns-clause-moves g c =
    let reply : c.match-seal.result ≡ seal_reply c.seal.result = elim c.match-seal.branch [
      | in-Ok b ↦ b.result-is ∙ ap seal_reply (sym b.in-Ok.is)
      | in-Err-BatchOut b ↦ b.result-is ∙ ap (λ e. seal_reply (Err e)) (sym b.in-Err-BatchOut.field-0-is)
          ∙ ap seal_reply (sym b.in-Err-BatchOut.is)
      | in-Err-OutOfMemory b ↦ b.result-is ∙ ap (λ e. seal_reply (Err e)) (sym b.in-Err-OutOfMemory.field-0-is)
          ∙ ap seal_reply (sym b.in-Err-OutOfMemory.is)
    ] in
    let e = c.seal.ensures in
    replies c.args.self.now _ (seal c.args.self.now.waiting.mark) _ _
    (seal_turns c.self.view_is c.seal.new.self c.seal.result _ c.in_ok-check.ensures e.batch_out e.nothing e.batch e.out
    e.same e.err) reply
