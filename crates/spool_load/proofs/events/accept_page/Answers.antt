use Rattle.std.proofs.Common.{◌≡◌, ◌==◌, false, List, [], ◌∷◌, map, sym, subst, ◌∙◌}
use Rattle.std.specs.List.{list_any}
use Rattle.std.proofs.lemmas.List.{map-append}
use Rattle.std.proofs.lemmas.Iterator.Adapters.{YieldsList-from_vec}
use Rattle.std.proofs.lemmas.Iterator.Consumers.{YieldsList-end}
use Rattle.relay_types.specs.declared.record.Record.{Record}
use Rattle.relay_types.specs.Legal.{IsLegal}
use Rattle.relay_types.specs.Rows.{rows_of}
use Rattle.spool_sql.specs.Readable.{IsMemoryFault}
use Rattle.spool_sql.proofs.ReadableLemmas.{handed_on}
use Rattle.spool_load.specs.declared.endpoints.NamedPut.{NamedPut}
use Rattle.spool_sql.specs.Stored.{delivery_of}
use Rattle.spool_load.specs.Loading.{AreAccepted, Accepts, AreNames, IsNameOf, NextToAccept}
use Rattle.spool_sql.proofs.PageLaws.{map_itself, turned}
use Rattle.spool_load.proofs.QuietReads.{next_row, reads_none, reads_then}
use Rattle.spool_load.proofs.DeliveryLoads.{accepted_more, may_accept_next, names_rise, next_in_table, none_missing}
use Rattle.spool_load.proofs.events.accept_page.Goals as goal

pub loop-row-init : goal.loop-row-init
loop-row-init c records are = reads_none (rows_of records).deliveries (AreAccepted c.args.loaded.now records)

pub loop-row-preserved : goal.loop-row-preserved
loop-row-preserved c records are =
    let row = delivery_of c.in-Some.row in
    let name = c.in-Some-name_of.name in
    let step = c.in_ok-accept.ensures in
    let is = subst (λ put. IsNameOf c.args.names.now put name) c.get.ensures.number c.in-Some-name_of.ensures.found in
    subst (λ more. Accepts c.args.loaded.now c.accept.new.self more records)
    (sym (map-append delivery_of c.loop-row.yielded (c.in-Some.row ∷ [])))
    (reads_then (rows_of records).deliveries (AreAccepted c.args.loaded.now records)
    (AreAccepted c.loop-row.loaded records) (AreAccepted c.accept.new.self records)
    (map delivery_of c.loop-row.yielded) (row ∷ [])
    (c.loop-row.invariant records are)
    (accepted_more records c.args.names.now row name c.loop-row.loaded c.accept.new.self are is step.book
    step.clock))

pub returns-clause-found : goal.returns-clause-found
returns-clause-found c records are =
    let given = c.into_iter-row-iterator.ensures.into_iter_gives in
    let ended = YieldsList-end (YieldsList-from_vec c.args.page.items given.0 (given.1 ∙ c.args.page.ok.0))
    c.loop-row.yielded c.loop-row.row-iterator c.loop-row.yielded_by c.next.result c.next.new.self c.in-None.is
    c.next.ensures.steps in
    let all : c.loop-row.yielded ≡ c.args.page.items = sym (map_itself c.loop-row.yielded) ∙ ended.0 in
    subst (λ items. Accepts c.args.loaded.now c.loop-row.loaded (map delivery_of items) records) all
    (c.loop-row.invariant records are)

pub returns-in_default-clause-refused : goal.returns-in_default-clause-refused
returns-in_default-clause-refused c records legal are next =
    let given = c.into_iter-row-iterator.ensures.into_iter_gives in
    let here = turned (YieldsList-from_vec c.args.page.items given.0 (given.1 ∙ c.args.page.ok.0)) c.loop-row.yielded
    c.loop-row.row-iterator c.loop-row.yielded_by c.next.result c.next.new.self c.in-Some.row c.in-Some.is
    c.next.ensures.steps in
    let row = next_row (rows_of records).deliveries delivery_of (AreAccepted c.args.loaded.now records)
    (AreAccepted c.loop-row.loaded records) c.loop-row.yielded c.args.page.items c.in-Some.row here
    (c.loop-row.invariant records are) next in
    let put = c.get.ensures.number in
    absurd (none_missing records legal c.args.names.now (delivery_of c.in-Some.row) are
    (next_in_table records legal row)
    (subst (λ n. list_any (λ (known : NamedPut). known.put == n) c.args.names.now ≡ false) put
    (c.name_of.ensures.missing c.in_default.is (names_rise records c.args.names.now legal are))))

pub returns-in_err-accept-clause-refused : goal.returns-in_err-accept-clause-refused
returns-in_err-accept-clause-refused c =
    let given = c.into_iter-row-iterator.ensures.into_iter_gives in
    let here = turned (YieldsList-from_vec c.args.page.items given.0 (given.1 ∙ c.args.page.ok.0)) c.loop-row.yielded
    c.loop-row.row-iterator c.loop-row.yielded_by c.next.result c.next.new.self c.in-Some.row c.in-Some.is
    c.next.ensures.steps in
    let name = c.in-Some-name_of.name in
    let is = subst (λ put. IsNameOf c.args.names.now put name) c.get.ensures.number c.in-Some-name_of.ensures.found in
    handed_on c.from_residual.result c.in_err-accept.field-0.0 (λ fault. (records : List Record) → IsLegal records
    → AreNames c.args.names.now records → NextToAccept c.args.loaded.now (map delivery_of c.args.page.items) records
    → IsMemoryFault fault) c.from_residual.ensures.1
    (λ records legal are next.
    c.in_err-accept.ensures.refused
    (may_accept_next records legal c.args.names.now c.loop-row.loaded (delivery_of c.in-Some.row) name are is
    (next_row (rows_of records).deliveries delivery_of (AreAccepted c.args.loaded.now records)
    (AreAccepted c.loop-row.loaded records) c.loop-row.yielded c.args.page.items c.in-Some.row here
    (c.loop-row.invariant records are) next)))
