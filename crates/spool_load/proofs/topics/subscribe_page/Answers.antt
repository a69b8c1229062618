use Rattle.std.proofs.Common.{◌≡◌, ◌==◌, false, List, [], ◌∷◌, map, refl, sym, ap, subst, ◌∙◌}
use Rattle.std.specs.List.{list_any}
use Rattle.std.proofs.lemmas.List.{map-append}
use Rattle.std.proofs.lemmas.Iterator.Adapters.{YieldsList-from_vec}
use Rattle.std.proofs.lemmas.Iterator.Consumers.{YieldsList-end}
use Rattle.relay_types.specs.declared.record.Record.{Record}
use Rattle.relay_types.specs.Legal.{IsLegal}
use Rattle.relay_types.specs.Rows.{rows_of}
use Rattle.spool_sql.specs.Readable.{IsMemoryFault}
use Rattle.spool_sql.proofs.ReadableLemmas.{handed_on}
use Rattle.spool_load.specs.declared.endpoints.NamedPut.{NamedPut}
use Rattle.spool_sql.specs.Stored.{topic_of}
use Rattle.spool_load.specs.Loading.{HaveTopics, Subscribes, AreNames, IsNameOf, NextToSubscribe}
use Rattle.spool_sql.proofs.PageLaws.{map_itself, turned}
use Rattle.spool_load.proofs.QuietReads.{next_row, reads_none, reads_then}
use Rattle.spool_load.proofs.DeliveryLoads.{names_rise}
use Rattle.spool_load.proofs.TopicLoads.{next_topic, no_topic_missing, place_next, topics_more}
use Rattle.spool_load.proofs.topics.subscribe_page.Goals as goal

pub loop-row-init : goal.loop-row-init
loop-row-init c = record {
  names = refl;
  reads = λ records legal are. reads_none (rows_of records).topics (HaveTopics c.args.loaded.now records);
}

pub loop-row-preserved : goal.loop-row-preserved
loop-row-preserved c =
    let row = topic_of c.in-Some.row in
    let name = c.in-Some-name_of.name in
    let step = c.in_ok-subscribe.ensures in
    let same = c.loop-row.invariant.names in
    let is = subst (λ put. IsNameOf c.loop-row.loaded.names.items put name) c.get.ensures.number
    (rw c.deref.ensures.value at c.in-Some-name_of.ensures.found) in
    record {
      names = step.names ∙ same;
      reads = λ records legal are.
          subst (λ more. Subscribes c.args.loaded.now c.subscribe.new.self more records)
          (sym (map-append topic_of c.loop-row.yielded (c.in-Some.row ∷ [])))
          (reads_then (rows_of records).topics (HaveTopics c.args.loaded.now records)
          (HaveTopics c.loop-row.loaded records) (HaveTopics c.subscribe.new.self records)
          (map topic_of c.loop-row.yielded) (row ∷ []) (c.loop-row.invariant.reads records legal are)
          (topics_more records legal row name c.loop-row.loaded c.subscribe.new.self
          (ap (λ ks. ks.items) same ∙ are) is step.book step.names));
    }

pub returns-clause-found : goal.returns-clause-found
returns-clause-found c records legal are =
    let given = c.into_iter-row-iterator.ensures.into_iter_gives in
    let ended = YieldsList-end (YieldsList-from_vec c.args.page.items given.0 (given.1 ∙ c.args.page.ok.0))
    c.loop-row.yielded c.loop-row.row-iterator c.loop-row.yielded_by c.next.result c.next.new.self c.in-None.is
    c.next.ensures.steps in
    let all : c.loop-row.yielded ≡ c.args.page.items = sym (map_itself c.loop-row.yielded) ∙ ended.0 in
    subst (λ items. Subscribes c.args.loaded.now c.loop-row.loaded (map topic_of items) records) all
    (c.loop-row.invariant.reads records legal are)

pub returns-in_default-clause-refused : goal.returns-in_default-clause-refused
returns-in_default-clause-refused c records legal are next =
    let given = c.into_iter-row-iterator.ensures.into_iter_gives in
    let here = turned (YieldsList-from_vec c.args.page.items given.0 (given.1 ∙ c.args.page.ok.0)) c.loop-row.yielded
    c.loop-row.row-iterator c.loop-row.yielded_by c.next.result c.next.new.self c.in-Some.row c.in-Some.is
    c.next.ensures.steps in
    let row = next_row (rows_of records).topics topic_of (HaveTopics c.args.loaded.now records)
    (HaveTopics c.loop-row.loaded records) c.loop-row.yielded c.args.page.items c.in-Some.row here
    (c.loop-row.invariant.reads records legal are) next in
    let names : AreNames c.deref.result.now records =
    c.deref.ensures.value ∙ ap (λ ks. ks.items) c.loop-row.invariant.names ∙ are in
    absurd (no_topic_missing records legal c.deref.result.now (topic_of c.in-Some.row) names
    (next_topic records legal c.loop-row.loaded (topic_of c.in-Some.row) row)
    (subst (λ n. list_any (λ (known : NamedPut). known.put == n) c.deref.result.now ≡ false) c.get.ensures.number
    (c.name_of.ensures.missing c.in_default.is (names_rise records c.deref.result.now legal names))))

pub returns-in_err-subscribe-clause-refused : goal.returns-in_err-subscribe-clause-refused
returns-in_err-subscribe-clause-refused c =
    let given = c.into_iter-row-iterator.ensures.into_iter_gives in
    let here = turned (YieldsList-from_vec c.args.page.items given.0 (given.1 ∙ c.args.page.ok.0)) c.loop-row.yielded
    c.loop-row.row-iterator c.loop-row.yielded_by c.next.result c.next.new.self c.in-Some.row c.in-Some.is
    c.next.ensures.steps in
    let name = c.in-Some-name_of.name in
    handed_on c.from_residual.result c.in_err-subscribe.field-0.0 (λ fault. (records : List Record) → IsLegal records
    → AreNames c.args.loaded.now.names.items records
    → NextToSubscribe c.args.loaded.now (map topic_of c.args.page.items) records
    → IsMemoryFault fault) c.from_residual.ensures.1
    (λ records legal are next.
    c.in_err-subscribe.ensures.refused
    (place_next records legal c.loop-row.loaded (topic_of c.in-Some.row) name
    (next_row (rows_of records).topics topic_of (HaveTopics c.args.loaded.now records)
    (HaveTopics c.loop-row.loaded records) c.loop-row.yielded c.args.page.items c.in-Some.row here
    (c.loop-row.invariant.reads records legal are) next)))
