use Rattle.std.proofs.Common.{sym, ◌∙◌, ap, subst, List, ◌++◌}
use Rattle.relay_types.specs.declared.record.Record.{Record}
use Rattle.relay_types.specs.Lists.{last_of}
use Rattle.delivery.specs.Logs.{ChangeValue, HasChange, HasRecords, change_of, entry_of}
use Rattle.delivery.proofs.SettledLaws.{changed, last_behind}
use Rattle.delivery.proofs.locked.Locked.command_as.Goals as goal

pub new-requires : goal.new-requires
new-requires g c =
    let self = c.self.inside in
    let I = g.I.LogId in
    let all = c.append_as-prefix.ensures.prefix ∙ c.append_as-prefix.ensures.appended
    ∙ ap (λ (more : List Record). self.staged ++ more) c.requires in
    subst (λ (s : List Record). HasChange I.is_base (change_of c.in-Ok.ticket s) s) (sym all)
    (changed I.is_base I.start self.desk c.command.new.self self.prefix self.staged c.self.invariant
    c.args.command c.in-Ok.ticket c.in-Ok.ensures.moves).1

pub invariant_of-self : goal.invariant_of-self
invariant_of-self g c =
    let self = c.self.inside in
    let I = g.I.LogId in
    let all = c.append_as-prefix.ensures.appended ∙ ap (λ (more : List Record). self.staged ++ more) c.requires in
    subst (λ (s : List Record). HasRecords I.is_base I.start c.command.new.self self.prefix s) (sym all)
    (changed I.is_base I.start self.desk c.command.new.self self.prefix self.staged c.self.invariant
    c.args.command c.in-Ok.ticket c.in-Ok.ensures.moves).0

pub returns-in-Ok-clause-change : goal.returns-in-Ok-clause-change
returns-in-Ok-clause-change g c =
    let staged = c.self.inside.staged in
    let all = c.append_as-prefix.ensures.prefix ∙ c.append_as-prefix.ensures.appended
    ∙ ap (λ (more : List Record). staged ++ more) c.requires in
    ap (λ (change : ChangeValue). change.entry) c.new.ensures ∙ ap last_of all
    ∙ last_behind staged (entry_of c.args.command)
