use Rattle.std.proofs.Common.{rules, arith, sym, ap, subst, ◌∙◌}
use Rattle.relay_types.specs.SecretText.{ReadsSecret}
use Rattle.text_lines.proofs.NumberLaws.{err_not_ok}
use Rattle.text_lines.proofs.SecretWords.{secret_at, ReadSecrets-more}
use Rattle.text_lines.proofs.words.read_each.Goals as goal

pub returns-in_err-secret-clause-bad : goal.returns-in_err-secret-clause-bad
returns-in_err-secret-clause-bad g c = λ e secrets h.
    let at = secret_at g.T.AsSlice.items c.args.texts.now c.text-item.result c.loop-text.text-index secrets h
    (omega arith) in
    err_not_ok (c.in_err-secret.ensures.each at.0
    (subst (λ word. ReadsSecret word at.0) (sym (c.as_slice.ensures ∙ ap g.T.AsSlice.items c.text-item.is)) at.1))

pub loop-text-preserved : goal.loop-text-preserved
loop-text-preserved g c =
    ReadSecrets-more g.T.AsSlice.items c.args.texts.now c.text-item.result c.loop-text.text-index
    c.loop-text.secrets.items c.push.new.self.items c.in_ok-secret.secret (omega arith)
    c.loop-text.invariant
    (subst (λ word. ReadsSecret word c.in_ok-secret.secret)
    (c.as_slice.ensures ∙ ap g.T.AsSlice.items c.text-item.is) c.in_ok-secret.ensures.value) (search rules)
