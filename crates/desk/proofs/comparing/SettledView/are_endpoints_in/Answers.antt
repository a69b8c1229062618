use Rattle.desk.proofs.Words.{refl, ap, arith, length, map, subst, AllByRecursion, take_all, SameEndpoint}
use Rattle.endpoint_book.specs.declared.entry.Entry.{Entry}
use Rattle.desk.proofs.ComparingLaws.{name_next, named_among}
use Rattle.desk.proofs.comparing.SettledView.are_endpoints_in.Goals as goal

pub loop-name-preserved : goal.loop-name-preserved
loop-name-preserved c =
    record {
      same = name_next (SameEndpoint c.args.self.now c.args.other.now) c.args.self.now.endpoints.now
          c.names-name-items.result.now c.loop-name.name-index _ c.names-name-items.ensures.value c.loop-name-test.true
          c.name-item.is c.loop-name.invariant.same (c.if-not-is_endpoint_in.ensures.0 refl);
    }

pub returns-clause-same : goal.returns-clause-same
returns-clause-same c = λ done name known.
    named_among (SameEndpoint c.args.self.now c.args.other.now) c.args.self.now.endpoints.now.entries name
    (subst (AllByRecursion (SameEndpoint c.args.self.now c.args.other.now))
    (take_all c.loop-name.name-index (map (λ (e : Entry). e.name) c.args.self.now.endpoints.now.entries)
    (omega (arith, c.loop-name-test.false, ap length c.names-name-items.ensures.value))) c.loop-name.invariant.same)
    known
