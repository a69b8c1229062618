use Rattle.std.proofs.Common.{sym, ap, ◌∙◌}
use Rattle.relay_types.specs.Values.{is_body}
use Rattle.text_lines.proofs.HexLaws.{long_enough, one_body}
use Rattle.text_lines.proofs.NumberLaws.{true_not_false}
use Rattle.text_lines.proofs.words.read_body.Goals as goal

pub returns-clause-bad : goal.returns-clause-bad
returns-clause-bad c = λ e body valid h.
    let same = one_body c.args.word.now body c.in_ok-bytes.bytes.items h c.in_ok-bytes.ensures.value in
    let invalid = c.body_of.ensures.bad e in
    true_not_false (sym valid ∙ ap is_body same ∙ invalid)

pub returns-clause-lacked : goal.returns-clause-lacked
returns-clause-lacked c = λ e. long_enough c.args.word.now c.in_ok-bytes.bytes.items c.in_ok-bytes.ensures.value
