use Rattle.std.proofs.Common.{inl, inr, arith}
use Rattle.std.proofs.lemmas.Int.{ints}
use Rattle.sound_tables.proofs.RefusedLemmas.{some_version, sound_meta}
use Rattle.sound_tables.proofs.records.records_of.Goals.{else-meta-ge1-via-else-meta-ge1}
use Rattle.sound_tables.proofs.records.records_of.Goals.{else-meta-ge1-via-then-meta-ge1+else-meta-number-2}
use Rattle.sound_tables.proofs.records.records_of.Goals.{then-meta-lt1-via-then-meta-lt1}
use Rattle.sound_tables.proofs.records.records_of.Goals.{then-meta-lt1-via-else-meta-lt1+then-meta-ne1}
use Rattle.sound_tables.proofs.records.records_of.Goals.{then-meta-lt1-via-else-meta-lt1+else-meta-ne1+then-meta-lt0}
use Rattle.sound_tables.proofs.records.records_of.Goals as goal

pub returns-then-meta-lt1-clause-judged : goal.returns-then-meta-lt1-clause-judged
returns-then-meta-lt1-clause-judged c db has = (
  (
    c.args.meta,
    has,
    λ version is. elim c.else-meta-ge1.branch [
      | else-meta-ge1-via-then-meta-ge1+else-meta-number-2 w ↦ inr
          (omega (
            arith,
            ints,
            c.number.ensures,
            c.if-meta-number.false,
            w.number-then-meta-ge1.ensures,
            w.if-meta-number-2.false,
            is,
          ))
      | else-meta-ge1-via-else-meta-ge1 w ↦ inl (omega (arith, ints, w.if-meta-ge1.false, is))
    ],
  ),
  λ rows it.
      let told = sound_meta c.args.version db rows it c.args.meta has in
      let some = some_version c.args.version in
      elim c.then-meta-lt1.branch [
        | then-meta-lt1-via-then-meta-lt1 w ↦ omega (arith, ints, told.1, some, w.if-meta-lt1.true)
        | then-meta-lt1-via-else-meta-lt1+then-meta-ne1 w ↦ omega (arith, ints, told.0, w.if-meta-ne1.true)
        | then-meta-lt1-via-else-meta-lt1+else-meta-ne1+then-meta-lt0 w ↦ omega
            (arith, ints, told.2, w.if-meta-lt0.true)
      ],
)
