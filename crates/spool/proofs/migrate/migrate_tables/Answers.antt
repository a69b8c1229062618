use Rattle.std.proofs.Common.{◌≡◌, Err, ap, subst, arith}
use Rattle.sqlite.specs.State.{HasCleanDisk}
use Rattle.sqlite.specs.Held.{state}
use Rattle.sqlite.proofs.StateLemmas.{survives_weaker}
use Rattle.spool.specs.Adopting.{IsForeign, IsOfStore, IsUnadopted}
use Rattle.spool.specs.Migrating.{Migrated}
use Rattle.spool.specs.declared.faults.OpenFault.TheVariants.{OldVersion}
use Rattle.spool.proofs.CheckReads.{back_then}
use Rattle.spool.proofs.EitherLemmas.{first_migrated, history_since, left_behind, migrated_since, on_err, own_since}
use Rattle.spool.proofs.EitherLemmas.{refused_since, unmade_behind, whole_since}
use Rattle.spool.proofs.MigrateLemmas.{adopted_whole, left_read, survives_since, unmade_else, unmigrated}
use Rattle.spool.proofs.migrate.migrate_tables.Goals as goal

pub returns-in-Ok-clause-migrated : goal.returns-in-Ok-clause-migrated
returns-in-Ok-clause-migrated g c clean own =
    adopted_whole (state g.S.Store c.args.conn.now) (state g.S.Store c.adopt_tables.new.conn) c.in-Ok.records own
    c.in-Ok.ensures.whole (c.in-Ok.ensures.adopted clean)

-- ---- tables of version 1

pub returns-then-is_old-clause-ours : goal.returns-then-is_old-clause-ours
returns-then-is_old-clause-ours g c none =
    let is : c.in-Err.fault ≡ OldVersion = c.is_old.ensures.0 c.if-is_old.true in
    absurd (subst IsForeign is (c.in-Err.ensures.ours none))

pub returns-then-is_old-clause-foreign : goal.returns-then-is_old-clause-foreign
returns-then-is_old-clause-foreign g c none clean =
    let is : c.in-Err.fault ≡ OldVersion = c.is_old.ensures.0 c.if-is_old.true in
    absurd (subst IsForeign is (c.in-Err.ensures.ours none))

pub returns-then-is_old-clause-whole : goal.returns-then-is_old-clause-whole
returns-then-is_old-clause-whole g c clean =
    let a = state g.S.Store c.args.conn.now in
    let m = state g.S.Store c.adopt_tables.new.conn in
    let b = state g.S.Store c.migrate_first_tables.new.conn in
    let is : c.in-Err.fault ≡ OldVersion = c.is_old.ensures.0 c.if-is_old.true in
    let first = c.in-Err.ensures in
    let later = c.migrate_first_tables.ensures in
    let early : HasCleanDisk m = omega (arith, clean, later.survives.clean) in
    whole_since a m b (first.old early (ap Err is)) c.migrate_first_tables.result (later.whole clean)

pub returns-then-is_old-clause-migrated : goal.returns-then-is_old-clause-migrated
returns-then-is_old-clause-migrated g c clean own =
    let a = state g.S.Store c.args.conn.now in
    let m = state g.S.Store c.adopt_tables.new.conn in
    let b = state g.S.Store c.migrate_first_tables.new.conn in
    let is : c.in-Err.fault ≡ OldVersion = c.is_old.ensures.0 c.if-is_old.true in
    let first = c.in-Err.ensures in
    let later = c.migrate_first_tables.ensures in
    let early : HasCleanDisk m = omega (arith, clean, later.survives.clean) in
    let same = first.old early (ap Err is) in
    migrated_since a m b same c.migrate_first_tables.result
    (first_migrated m b c.migrate_first_tables.result (own_since a m b same own) (later.free clean) (later.found clean)
    (later.made clean))

pub returns-then-is_old-clause-refused : goal.returns-then-is_old-clause-refused
returns-then-is_old-clause-refused g c clean own =
    let a = state g.S.Store c.args.conn.now in
    let m = state g.S.Store c.adopt_tables.new.conn in
    let b = state g.S.Store c.migrate_first_tables.new.conn in
    let is : c.in-Err.fault ≡ OldVersion = c.is_old.ensures.0 c.if-is_old.true in
    let first = c.in-Err.ensures in
    let later = c.migrate_first_tables.ensures in
    let early : HasCleanDisk m = omega (arith, clean, later.survives.clean) in
    let same = first.old early (ap Err is) in
    refused_since a m b same first.survives early later.survives clean c.migrate_first_tables.result own
    (subst (IsUnadopted a m) is (first.refused early own)) (later.refused clean (own_since a m b same own))

pub returns-then-is_old-clause-sound : goal.returns-then-is_old-clause-sound
returns-then-is_old-clause-sound g c clean history =
    let a = state g.S.Store c.args.conn.now in
    let m = state g.S.Store c.adopt_tables.new.conn in
    let is : c.in-Err.fault ≡ OldVersion = c.is_old.ensures.0 c.if-is_old.true in
    let later = c.migrate_first_tables.ensures in
    let early : HasCleanDisk m = omega (arith, clean, later.survives.clean) in
    absurd (subst (IsOfStore a m) is (c.in-Err.ensures.sound early history))

pub returns-then-is_old-clause-first : goal.returns-then-is_old-clause-first
returns-then-is_old-clause-first g c clean history =
    let a = state g.S.Store c.args.conn.now in
    let m = state g.S.Store c.adopt_tables.new.conn in
    let b = state g.S.Store c.migrate_first_tables.new.conn in
    let is : c.in-Err.fault ≡ OldVersion = c.is_old.ensures.0 c.if-is_old.true in
    let first = c.in-Err.ensures in
    let later = c.migrate_first_tables.ensures in
    let early : HasCleanDisk m = omega (arith, clean, later.survives.clean) in
    let same = first.old early (ap Err is) in
    unmade_behind a m b same first.survives early later.survives clean c.migrate_first_tables.result
    (later.first clean (history_since a m b same history))

pub returns-then-is_old-clause-left : goal.returns-then-is_old-clause-left
returns-then-is_old-clause-left g c clean =
    let a = state g.S.Store c.args.conn.now in
    let m = state g.S.Store c.adopt_tables.new.conn in
    let b = state g.S.Store c.migrate_first_tables.new.conn in
    let is : c.in-Err.fault ≡ OldVersion = c.is_old.ensures.0 c.if-is_old.true in
    let first = c.in-Err.ensures in
    let later = c.migrate_first_tables.ensures in
    let early : HasCleanDisk m = omega (arith, clean, later.survives.clean) in
    left_behind a m b (first.old early (ap Err is)) first.survives early c.migrate_first_tables.result
    (later.left clean)

pub returns-then-is_old-clause-back : goal.returns-then-is_old-clause-back
returns-then-is_old-clause-back g c clean =
    let a = state g.S.Store c.args.conn.now in
    let m = state g.S.Store c.adopt_tables.new.conn in
    let b = state g.S.Store c.migrate_first_tables.new.conn in
    let is : c.in-Err.fault ≡ OldVersion = c.is_old.ensures.0 c.if-is_old.true in
    let first = c.in-Err.ensures in
    let later = c.migrate_first_tables.ensures in
    let early : HasCleanDisk m = omega (arith, clean, later.survives.clean) in
    let back = first.back early (first.old early (ap Err is)).0.is_open in
    on_err c.migrate_first_tables.result _ _ (later.back clean)
    (λ undone is_open. back_then a m b back (undone is_open))

pub returns-then-is_old-clause-survives : goal.returns-then-is_old-clause-survives
returns-then-is_old-clause-survives g c =
    let a = state g.S.Store c.args.conn.now in
    let m = state g.S.Store c.adopt_tables.new.conn in
    let b = state g.S.Store c.migrate_first_tables.new.conn in
    let is : c.in-Err.fault ≡ OldVersion = c.is_old.ensures.0 c.if-is_old.true in
    let first = c.in-Err.ensures in
    survives_since a m b first.survives (λ clean. first.old clean (ap Err is)) c.migrate_first_tables.ensures.survives

-- ---- tables that are refused

pub returns-else-is_old-clause-refused : goal.returns-else-is_old-clause-refused
returns-else-is_old-clause-refused g c clean own =
    unmigrated (state g.S.Store c.args.conn.now) (state g.S.Store c.adopt_tables.new.conn) c.in-Err.fault
    (λ is. let yes = c.is_old.ensures.1 is in let no = c.if-is_old.false in cc) (c.in-Err.ensures.refused clean own)

pub returns-else-is_old-clause-first : goal.returns-else-is_old-clause-first
returns-else-is_old-clause-first g c clean history =
    unmade_else (state g.S.Store c.args.conn.now) (state g.S.Store c.adopt_tables.new.conn) c.in-Err.fault
    (λ is. let yes = c.is_old.ensures.1 is in let no = c.if-is_old.false in cc) (c.in-Err.ensures.first clean history)

pub returns-else-is_old-clause-left : goal.returns-else-is_old-clause-left
returns-else-is_old-clause-left g c clean =
    left_read (state g.S.Store c.args.conn.now) (state g.S.Store c.adopt_tables.new.conn) c.in-Err.fault
    (c.in-Err.ensures.read clean)

pub returns-else-is_old-clause-survives : goal.returns-else-is_old-clause-survives
returns-else-is_old-clause-survives g c =
    let a = state g.S.Store c.args.conn.now in
    survives_weaker a (state g.S.Store c.adopt_tables.new.conn) (λ _. ⊥) (Migrated a) (λ _ db none. absurd none)
    c.in-Err.ensures.survives
