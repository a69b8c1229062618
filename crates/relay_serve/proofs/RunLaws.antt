-- Two runs of a committer, one after another.
use Rattle.std.proofs.Common.{◌≡◌, refl, sym, ◌∙◌, ap, subst, List, [], ◌∷◌, ◌++◌}
use Rattle.std.proofs.lemmas.List.{append_assoc}
use Rattle.relay_types.specs.declared.record.Record.{Record}
use Rattle.relay_types.specs.Records.{History, records_of}
use Rattle.delivery.specs.declared.committer.CommitterEnd.{CommitterEnd}
use Rattle.delivery.specs.declared.committer.CommitterEnd.TheVariants.{Finished}
use Rattle.delivery.specs.Keepers.{AddsRecords, AppendsBatches, KeepsLog, HoldsAtEnd, records_in}

records_in-append : (a b : List History) → records_in (a ++ b) ≡ records_in a ++ records_in b
records_in-append [] b = refl
records_in-append (first ∷ rest) b =
    ap (λ more. records_of first ++ more) (records_in-append rest b)
    ∙ sym (append_assoc (records_of first) (records_in rest) (records_in b))

module _ {K : Type 0} (holds : K → List Record → Type 0) (in_doubt : K → List Record → List Record → Type 0)
    (old mid new : K) (end : CommitterEnd) where
  -- the second one adds its batches after those of the first
  pub adds_on : AddsRecords holds in_doubt old mid Finished → AddsRecords holds in_doubt mid new end
      → AddsRecords holds in_doubt old new end
  adds_on first second records held =
      let a = first records held in
      let b = second (records ++ records_in a.0) a.1 in
      let same : (records ++ records_in a.0) ++ records_in b.0 ≡ records ++ records_in (a.0 ++ b.0) =
      append_assoc records (records_in a.0) (records_in b.0)
      ∙ ap (λ more. records ++ more) (sym (records_in-append a.0 b.0)) in
      (a.0 ++ b.0, subst (λ all. HoldsAtEnd holds in_doubt new all end) same b.1)

  -- and its records to the same log
  pub logs_on : (before between after : List Record) → KeepsLog holds in_doubt old before mid between Finished
      → KeepsLog holds in_doubt mid between new after end → KeepsLog holds in_doubt old before new after end
  logs_on before between after first second records held = second records (first records held)

-- both runs append whole batches
pub appends_both : (before between after : List Record) → AppendsBatches before between → AppendsBatches between after
    → AppendsBatches before after
appends_both before between after (first, one) (second, other) = (
  first ++ second,
  other ∙ ap (λ log. log ++ records_in second) one ∙ append_assoc before (records_in first) (records_in second)
      ∙ ap (λ more. before ++ more) (sym (records_in-append first second)),
)
