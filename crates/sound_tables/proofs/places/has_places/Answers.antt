use Rattle.std.proofs.Common.{arith}
use Rattle.sound_tables.proofs.PlaceLemmas.{places_skipped, count_grown, numbered_grown, places_refused}
use Rattle.sound_tables.proofs.places.has_places.Goals.{then-secret-put+else-secret-next, else-secret-put}
use Rattle.sound_tables.proofs.places.has_places.Goals as goal

pub returns-then-secret-next : goal.returns-then-secret-next
returns-then-secret-next c =
    places_refused c.args.put c.args.secrets.now c.loop-secret.secret-index _ c.loop-secret-test.true
    c.if-secret-put.true c.loop-secret.next c.loop-secret.invariant.counted c.if-secret-next.true

pub loop-secret-preserved : goal.loop-secret-preserved
loop-secret-preserved c = elim c.if-secret-put.branch [
  | then-secret-put+else-secret-next w ↦
      let grown = count_grown c.args.put c.args.secrets.now c.loop-secret.secret-index _ c.loop-secret-test.true
      w.if-secret-put.true in
      rw w.next-is (record {
        counted = omega (arith, grown, c.loop-secret.invariant.counted);
        within = omega (arith, c.loop-secret.invariant.within);
        placed = numbered_grown c.args.put c.args.secrets.now c.loop-secret.secret-index _ c.loop-secret-test.true
            w.if-secret-put.true c.loop-secret.next c.loop-secret.invariant.counted c.loop-secret.invariant.placed
            w.if-secret-next.false;
      })
  | else-secret-put w ↦
      let skipped = places_skipped c.args.put c.args.secrets.now c.loop-secret.secret-index _ c.loop-secret-test.true
      w.if-secret-put.false in
      rw (w.next-is, skipped)
      (record {
        counted = c.loop-secret.invariant.counted;
        within = omega (arith, c.loop-secret.invariant.within);
        placed = c.loop-secret.invariant.placed;
      })
]
