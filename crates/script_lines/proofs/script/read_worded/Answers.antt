use Rattle.std.proofs.Common.{inl, inr, refl}
use Rattle.text_lines.specs.Parts.{texts}
use Rattle.script_lines.proofs.CallLaws.{only_put, only_secrets, only_submit, only_publish, only_spend}
use Rattle.script_lines.proofs.script.read_worded.Goals as goal

pub returns-then-is_word-clause-bad : goal.returns-then-is_word-clause-bad
returns-then-is_word-clause-bad c = λ e. only_put (λ call. ⊥) c.args.word.now (texts c.args.arguments.now)
    (c.if-is_word.ensures.0 refl) (c.read_put.ensures.bad e)

pub returns-then-is_word-2-clause-bad : goal.returns-then-is_word-2-clause-bad
returns-then-is_word-2-clause-bad c = λ e. only_secrets (λ call. ⊥) c.args.word.now (texts c.args.arguments.now)
    (c.if-is_word-2.ensures.0 refl) (c.read_new_secrets.ensures.bad e)

pub returns-then-is_word-8-clause-bad : goal.returns-then-is_word-8-clause-bad
returns-then-is_word-8-clause-bad c = λ e. only_submit (λ call. ⊥) c.args.word.now (texts c.args.arguments.now)
    (c.if-is_word-8.ensures.0 refl) (c.read_submit.ensures.bad e)

pub returns-then-is_word-9-clause-bad : goal.returns-then-is_word-9-clause-bad
returns-then-is_word-9-clause-bad c = λ e. only_publish (λ call. ⊥) c.args.word.now (texts c.args.arguments.now)
    (c.if-is_word-9.ensures.0 refl) (c.read_publish.ensures.bad e)

pub returns-then-is_word-12-clause-bad : goal.returns-then-is_word-12-clause-bad
returns-then-is_word-12-clause-bad c = λ e.
    only_spend (λ call. ⊥) c.args.word.now (texts c.args.arguments.now) (c.if-is_word-12.ensures.0 refl)
    (c.read_spend.ensures.bad (rw e refl))

pub returns-then-is_word-clause-lacked : goal.returns-then-is_word-clause-lacked
returns-then-is_word-clause-lacked c = λ e. inl (c.if-is_word.ensures.0 refl, c.read_put.ensures.lacked e)

pub returns-then-is_word-2-clause-lacked : goal.returns-then-is_word-2-clause-lacked
returns-then-is_word-2-clause-lacked c = λ e. inr
    (inl (c.if-is_word-2.ensures.0 refl, c.read_new_secrets.ensures.lacked e))

pub returns-then-is_word-8-clause-lacked : goal.returns-then-is_word-8-clause-lacked
returns-then-is_word-8-clause-lacked c =
    λ e. inr (inr (inl (c.if-is_word-8.ensures.0 refl), c.read_submit.ensures.lacked e))

pub returns-then-is_word-9-clause-lacked : goal.returns-then-is_word-9-clause-lacked
returns-then-is_word-9-clause-lacked c =
    λ e. inr (inr (inr (c.if-is_word-9.ensures.0 refl), c.read_publish.ensures.lacked e))
