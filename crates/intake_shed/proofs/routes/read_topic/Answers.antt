use Rattle.std.proofs.Common.{◌≡◌, ◌∙◌, codes, sym, subst, Bool, true, false, ◌++◌, List, ℕ, Option, None}
use Rattle.std.specs.Bool.{then_some}
use Rattle.text_lines.proofs.NumberLaws.{true_not_false}
use Rattle.intake_shed.specs.RouteTable.{IsRouteOf}
use Rattle.intake_shed.proofs.PathLaws.{after_topics}
use Rattle.intake_shed.proofs.routes.read_topic.Goals.{then-is_word, else-is_word}
use Rattle.intake_shed.proofs.routes.read_topic.Goals as goal

given : {A : Type 0} (there : Bool) (x : A) (result : Option A) → result ≡ then_some there x → there ≡ true
    → result ≡ None → ⊥
given true x result is holds none =
    let wrong : then_some true x ≡ None = sym is ∙ none in
    cc
given false x result is holds none = true_not_false (sym holds)

pub returns-clause-none : goal.returns-clause-none
returns-clause-none c = λ none route h.
    let topic = c.split.result.0.now in
    let rest = c.split.result.1.now in
    let there =
    subst (λ (named : List ℕ). IsRouteOf route c.args.method.now (codes "/v1/topics/" ++ named)) c.split.ensures.whole h
    in
    let is = after_topics route c.args.method.now topic rest c.split.ensures.clean c.split.ensures.rest there in
    elim c.if-is_word.branch [
      | then-is_word w ↦
          given _ _ _ c.then_some.ensures (w.is_publish-is ∙ w.is_word-is_publish.ensures.1 is.1) none
      | else-is_word w ↦ true_not_false (sym (c.is_word.ensures.1 is.0) ∙ w.if-is_word.false)
    ]
