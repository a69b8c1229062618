use Rattle.std.proofs.Common.{List, ℕ, subst, arith}
use Rattle.script_lines.specs.Script.{IsSubmit}
use Rattle.script_lines.proofs.CallLaws.{four_texts, lacks_submit}
use Rattle.script_lines.proofs.script.read_event.Goals as goal

pub returns-in-len4-clause-bad : goal.returns-in-len4-clause-bad
returns-in-len4-clause-bad c = λ e now name id body h.
    c.read_event_words.ensures.bad e now name id body
    (subst (λ (words : List (List ℕ)). IsSubmit words now name id body)
    (four_texts c.args.arguments.now _ (omega arith)) h)

pub returns-in-len4-clause-lacked : goal.returns-in-len4-clause-lacked
returns-in-len4-clause-lacked c = λ e. lacks_submit c.args.arguments.now _ _ _ _
    (four_texts c.args.arguments.now _ (omega arith)) (c.read_event_words.ensures.lacked e)
