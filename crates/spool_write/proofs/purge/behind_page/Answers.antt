use Rattle.std.proofs.Common.{◌≡◌, ℕ, ◌+◌, Result, Ok, Err, IfOk, sym, subst, ◌∙◌}
use Rattle.std.specs.Option.{option_map_or}
use Rattle.std.specs.Prelude.{MatchResult}
use Rattle.std.specs.Result.{IsErrAnd}
use Rattle.spool_write.proofs.PurgeLemmas.{last-is}
use Rattle.spool_write.proofs.purge.behind_page.Goals as goal

-- an answer whose error is told otherwise
same_ok : {E D : Type 0} (s : Result ℕ E) (r : Result ℕ D) (Q : E → D → Type 0) (P : ℕ → Type 0)
    → MatchResult s (λ x. r ≡ Ok x) (λ e. IsErrAnd r (Q e)) → IfOk s P → IfOk r P
same_ok (Ok x) r Q P cases it = subst (λ a. IfOk a P) (sym cases) it
same_ok (Err e) (Ok y) Q P cases it = absurd cases
same_ok (Err e) (Err f) Q P cases it = tt

pub returns-clause-number : goal.returns-clause-number
returns-clause-number c =
    subst (λ o. IfOk c.map_err.result (λ next. next ≡ option_map_or (λ last. last + 1) o (c.args.end + 1)))
    (c.copied.ensures ∙ c.last.ensures.value ∙ last-is c.args.page.now)
    (same_ok c.next_page.result c.map_err.result _
    (λ next. next ≡ option_map_or (λ last. last + 1) c.copied.result (c.args.end + 1)) c.map_err.ensures.cases
    c.next_page.ensures.number)
