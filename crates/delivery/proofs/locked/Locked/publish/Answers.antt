use Rattle.std.proofs.Common.{◌∙◌, sym, subst, List}
use Rattle.relay_types.specs.declared.record.Record.{Record}
use Rattle.delivery.specs.Logs.{HasRecords, HasTickets, published_of}
use Rattle.delivery.proofs.PublishedLaws.{published, published_to}
use Rattle.delivery.proofs.locked.Locked.publish.Goals as goal

pub new-requires : goal.new-requires
new-requires g c =
    let self = c.self.inside in
    let I = g.I.LogId in
    let tickets = c.in-Ok.tickets.items in
    subst (λ (s : List Record). HasTickets I.is_base (published_of c.args.topic c.args.id tickets s) s)
    (sym (c.prefix.ensures.prefix ∙ c.follow.ensures))
    (published_to I.is_base I.start self.desk c.publish.new.self self.prefix self.staged c.self.invariant
    c.args.now c.args.topic c.args.id c.args.body tickets c.in-Ok.ensures.moves)

pub invariant_of-self : goal.invariant_of-self
invariant_of-self g c =
    let self = c.self.inside in
    let I = g.I.LogId in
    let all = c.prefix.ensures.same ∙ c.follow.ensures in
    subst (λ (s : List Record). HasRecords I.is_base I.start c.publish.new.self self.prefix s) (sym all)
    (published I.is_base I.start self.desk c.publish.new.self self.prefix self.staged c.self.invariant
    c.args.now c.args.topic c.args.id c.args.body c.in-Ok.tickets.items c.in-Ok.ensures.moves)

pub returns-in-Err-clause-moves : goal.returns-in-Err-clause-moves
returns-in-Err-clause-moves g c = rw (← c.self.view_is) (λ not_closing. c.in-Err.ensures.moves)
