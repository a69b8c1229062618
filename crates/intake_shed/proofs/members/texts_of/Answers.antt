use Rattle.std.proofs.Common.{arith, rules}
use Rattle.intake_shed.proofs.MemberLaws.{strings-more, no_text}
use Rattle.intake_shed.proofs.members.texts_of.Goals as goal

pub returns-in_err-text-clause-bad : goal.returns-in_err-text-clause-bad
returns-in_err-text-clause-bad c = λ e list h.
    no_text c.args.values.now c.value-item.result c.loop-value.value-index list c.as_str.result h
    (omega arith) c.value-item.is c.as_str.ensures c.in_err-text.ensures.ok_part

pub loop-value-preserved : goal.loop-value-preserved
loop-value-preserved c =
    let is = c.as_str.ensures in
    strings-more c.args.values.now c.value-item.result c.loop-value.value-index c.loop-value.texts.items
    c.push.new.self.items c.as_bytes.result (omega arith)
    c.value-item.is c.loop-value.invariant (search rules) (search rules)
