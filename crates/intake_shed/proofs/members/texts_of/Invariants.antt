use Rattle.std.proofs.Common.{◌≡◌, take}
use Rattle.text_lines.specs.Parts.{texts}
use Rattle.serde_json.specs.View.{items_view}
use Rattle.intake_shed.specs.Bodies.{strings}
use Rattle.intake_shed.proofs.members.texts_of.Given as goal

abbrev pub invariant-loop-value : goal.invariant-loop-value
invariant-loop-value l = items_view (take l.value-index l.values) ≡ strings (texts l.texts.items)
