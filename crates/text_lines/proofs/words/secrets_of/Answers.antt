use Rattle.std.proofs.Common.{rules, sym, ap, ◌∙◌}
use Rattle.relay_types.specs.Values.{is_between}
use Rattle.text_lines.proofs.SecretWords.{are_secrets-read, as_many}
use Rattle.text_lines.proofs.NumberLaws.{ok_not_err, true_not_false}
use Rattle.text_lines.proofs.words.secrets_of.Goals as goal

pub returns-clause-bad : goal.returns-clause-bad
returns-clause-bad g c = λ e secrets h.
    let all = are_secrets-read _ c.in_ok-secrets.secrets.items secrets c.in_ok-secrets.ensures.value h.0 h.1 in
    ok_not_err c.of.result _ (c.of.ensures.valid.1 (rw c.as_slice.ensures.value all)) e

pub returns-then-not-is_count_of_secrets-clause-bad : goal.returns-then-not-is_count_of_secrets-clause-bad
returns-then-not-is_count_of_secrets-clause-bad g c = λ e secrets h.
    true_not_false (sym h.1 ∙ ap (is_between 1 4) (sym (as_many g.T.AsSlice.items c.args.texts.now secrets h.0))
    ∙ sym c.if-not-is_count_of_secrets.ensures)

pub returns-in_err-secrets-clause-lacked : goal.returns-in_err-secrets-clause-lacked
returns-in_err-secrets-clause-lacked g c = λ e.
    let all = c.in_err-secrets.ensures.lacked (search rules) in (
      all.0,
      (
        all.1,
        ap (is_between 1 4) (sym (as_many g.T.AsSlice.items c.args.texts.now all.0 all.1))
            ∙ sym c.if-not-is_count_of_secrets.ensures,
      ),
    )
