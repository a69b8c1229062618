use Rattle.std.proofs.Common.{sym, arith, ◌∙◌}
use Rattle.sqlite.specs.State.{HasCleanDisk}
use Rattle.sqlite.specs.Held.{state}
use Rattle.relay_types.proofs.KnownLaws.{and_both}
use Rattle.spool_sql.specs.Stored.{with_topic, without_topic}
use Rattle.spool_sql.proofs.StepLemmas.{alters_then}
use Rattle.spool_write.proofs.EntryLemmas.{subscribed_refused, subscribed_made}
use Rattle.spool_write.proofs.subscribed.write_subscribed.Goals as goal

pub returns-in_default-clause-done : goal.returns-in_default-clause-done
returns-in_default-clause-done g c clean inside =
    subscribed_refused (state g.S.Store c.args.tx.now.conn.now) (state g.S.Store c.find_subscribing.new.tx.conn.now)
    c.args.seq c.args.topic.now c.args.name.now c.args.flag inside (c.in_ok-endpoint.ensures.unchanged clean)
    (λ count records has. sym c.in_default.is ∙ c.in_ok-endpoint.ensures.found clean count records has)

pub returns-clause-done : goal.returns-clause-done
returns-clause-done g c clean inside =
    let a = state g.S.Store c.args.tx.now.conn.now in
    let b = state g.S.Store c.find_subscribing.new.tx.conn.now in
    let d = state g.S.Store c.delete_topic.new.tx.conn.now in
    let z = state g.S.Store c.insert_topic.new.tx.conn.now in
    let at_d : HasCleanDisk d = omega (arith, clean, c.in_ok-insert_topic.ensures.spares.survives.clean) in
    let at_b : HasCleanDisk b = omega (arith, at_d, c.in_ok-delete_topic.ensures.spares.survives.clean) in
    let same = c.in_ok-endpoint.ensures.unchanged at_b in
    let out = c.in_ok-delete_topic.ensures.done at_d (same.0.mode ∙ inside) in
    let both = alters_then b d z (without_topic c.args.topic.now c.in-Some.endpoint)
    (with_topic (record {
      topic = c.args.topic.now;
      endpoint = c.in-Some.endpoint;
      subscribed = c.args.flag;
      set_by = c.args.seq;
    }))
    out (c.in_ok-insert_topic.ensures.done clean out.on.mode) in
    subscribed_made a b z c.args.seq c.args.topic.now c.args.name.now c.args.flag c.in-Some.endpoint inside same
    (λ count records has. sym c.in-Some.is ∙ c.in_ok-endpoint.ensures.found at_b count records has)
    (and_both _ _ c.in_ok-insert_topic.ensures.limits c.in_ok-endpoint.ensures.named)
    c.in_ok-insert_topic.ensures.room both
