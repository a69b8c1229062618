use Rattle.std.proofs.Common.{rules, ◌++◌, ◌∷◌, [], ap, ◌∙◌, sym, subst}
use Rattle.std.specs.Prelude.{All}
use Rattle.std.proofs.lemmas.List.Elements.{All-push}
use Rattle.drill.specs.Memory.{IsPrepared, events_of}
use Rattle.drill.proofs.PreparedLaws.{next_taken, prepared_more}
use Rattle.drill.proofs.runs.prepare_all.Goals as goal

pub loop-event-preserved : goal.loop-event-preserved
loop-event-preserved c = record {
  items = ap events_of c.push_reserved.ensures.items ∙ prepared_more c.loop-event.calls.items _
      ∙ ap (λ events. events ++ c.in_ok-share.field-0 ∷ []) c.loop-event.invariant.items
      ∙ next_taken c.args.events.now c.loop-event.event-index c.event-item.result c.in_ok-share.field-0 (search rules)
      c.in_ok-share.ensures (search rules);
  seqs = subst (All IsPrepared) (sym c.push_reserved.ensures.items)
      (All-push IsPrepared c.loop-event.calls.items _ c.loop-event.invariant.seqs (search rules));
  room = search rules;
}
