use Rattle.std.proofs.Common.{arith, sym, ap, subst, refl, ◌∙◌, [], ◌∷◌, ◌++◌}
use Rattle.relay_types.specs.SecretText.{ReadsSecret}
use Rattle.text_lines.proofs.SecretWords.{secret_at, ReadSecrets-more}
use Rattle.text_lines.proofs.words.are_read.Goals as goal

pub returns-then-not-is_secret_text : goal.returns-then-not-is_secret_text
returns-then-not-is_secret_text g c = λ secrets h.
    let at = secret_at g.T.AsSlice.items c.args.texts.now c.text-item.result c.loop-text.text-index secrets h
    (omega arith) in
    c.if-not-is_secret_text.ensures at.0
    (subst (λ word. ReadsSecret word at.0) (sym (c.as_slice.ensures ∙ ap g.T.AsSlice.items c.text-item.is)) at.1)

pub loop-text-preserved : goal.loop-text-preserved
loop-text-preserved g c =
    let had = c.loop-text.invariant in
    let read = c.if-not-is_secret_text.ensures in (
      had.0 ++ read.0 ∷ [],
      ReadSecrets-more g.T.AsSlice.items c.args.texts.now c.text-item.result c.loop-text.text-index had.0
          (had.0 ++ read.0 ∷ []) read.0 (omega arith)
          had.1 (subst (λ word. ReadsSecret word read.0) (c.as_slice.ensures ∙ ap g.T.AsSlice.items c.text-item.is)
          read.1) refl,
    )
