use Rattle.std.proofs.Common.{subst}
use Rattle.sound_tables.specs.Unsound.{FindsMeta}
use Rattle.sound_tables.proofs.UnsoundLemmas.{no_relay, relay_of}
use Rattle.sound_tables.proofs.unsound.read_relay.Goals as goal

pub returns-in-Some-clause-relay : goal.returns-in-Some-clause-relay
returns-in-Some-clause-relay g c =
    let old = g.S.Store.view c.args.store.now in
    relay_of old (g.S.Store.view c.read_meta_at.new.store) c.in-Some.tree c.read_meta_at.result
    (λ clean. subst (FindsMeta old) c.in-Some.is (c.in_ok-tree.ensures clean))
    c.read_meta_at.ensures.meta c.read_meta_at.ensures.clean

pub returns-in-None-clause-relay : goal.returns-in-None-clause-relay
returns-in-None-clause-relay g c clean =
    let old = g.S.Store.view c.args.store.now in
    no_relay old (subst (FindsMeta old) c.in-None.is (c.in_ok-tree.ensures clean))
