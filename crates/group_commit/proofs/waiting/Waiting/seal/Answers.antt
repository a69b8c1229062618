use Rattle.std.proofs.Common.{◌≡◌, ◌∙◌, Some, take, ap, subst, arith}
use Rattle.spool.specs.Batches.{BatchValue, upto_of}
use Rattle.group_commit.specs.Steps.{IsLongestPrefix, fitting}
use Rattle.group_commit.specs.Waits.{WaitingValue, batch_of, sealed_count, with_batch_out}
use Rattle.group_commit.proofs.StepLaws.{fitting_within, fitting_longest}
use Rattle.group_commit.proofs.WaitLaws.{waits_sealed, fits_first}
use Rattle.spool.specs.declared.limits.TheConstants.{MAX_BATCH_RECORDS}
use Rattle.group_commit.proofs.waiting.Waiting.seal.Goals as goal

pub of-batch-requires : goal.of-batch-requires
of-batch-requires c =
    let count = c.fitting-count.ensures.count in
    fits_first c.self.inside.settled c.self.inside.records c.self.inside.queue c.in-Ok.steps.items c.self.inside.out
    c.self.invariant (c.in-Ok.ensures ∙ ap (λ n. take n c.self.inside.queue) count)
    (omega (
      arith,
      count,
      c.fitting-count.ensures.some (omega (arith, c.len.ensures, c.if-len-eq0.false))
          (omega arith),
    ))

pub invariant_of-self : goal.invariant_of-self
invariant_of-self c =
    waits_sealed c.self.inside.settled c.self.inside.records c.fitting-count.result c.upto.result c.self.inside.queue
    c.self.inside.out c.self.invariant
    (omega (arith, c.fitting-count.ensures.count, fitting_within MAX_BATCH_RECORDS c.self.inside.queue))
    (c.upto.ensures.number ∙ ap (λ (b : BatchValue). upto_of b.from b.steps) c.of-batch.ensures
    ∙ ap (upto_of c.self.inside.settled) c.in-Ok.ensures)

pub returns-clause-batch : goal.returns-clause-batch
returns-clause-batch c =
    c.of-batch.ensures
    ∙ ap (λ steps. record { mark = c.self.inside.mark; from = c.self.inside.settled; steps = steps })
    (c.in-Ok.ensures ∙ ap (λ n. take n c.self.inside.queue) c.fitting-count.ensures.count)
    ∙ ap (λ (w : WaitingValue). batch_of w (sealed_count w)) c.self.view_is

pub returns-clause-longest : goal.returns-clause-longest
returns-clause-longest c =
    let first : c.of-batch.result.steps ≡ take (fitting MAX_BATCH_RECORDS c.self.inside.queue) c.self.inside.queue =
    ap (λ (b : BatchValue). b.steps) c.of-batch.ensures ∙ c.in-Ok.ensures
    ∙ ap (λ n. take n c.self.inside.queue) c.fitting-count.ensures.count in
    subst (λ (w : WaitingValue). IsLongestPrefix MAX_BATCH_RECORDS w.waiting c.of-batch.result.steps) c.self.view_is
    (fitting_longest MAX_BATCH_RECORDS c.self.inside.queue c.of-batch.result.steps first)

pub returns-clause-out : goal.returns-clause-out
returns-clause-out c =
    ap (λ n. record {
      mark = c.self.inside.mark;
      settled = c.self.inside.settled;
      waiting = c.self.inside.queue;
      out =
          Some n;
    }) c.fitting-count.ensures.count
    ∙ ap with_batch_out c.self.view_is
