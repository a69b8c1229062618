use Rattle.recovery.proofs.file.refusal_of.Goals as goal

pub returns-in-Store-clause-unfit : goal.returns-in-Store-clause-unfit
returns-in-Store-clause-unfit g c =
    let judged = c.judge_unsound.ensures in
    rw c.in-Store.is λ error.
    (c.judge_unsound.result, c.from.ensures, c.judge_unsound.new.store, judged.rows, judged.failed)
