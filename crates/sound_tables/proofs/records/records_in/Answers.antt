use Rattle.std.proofs.Common.{subst, sym, arith}
use Rattle.sound_tables.specs.Checks.{HasMeta}
use Rattle.sound_tables.specs.Shown.{ShowsMeta}
use Rattle.sound_tables.specs.Tables.{Yields, meta_columns}
use Rattle.sound_tables.proofs.MetaLemmas.{not_one, one_shown}
use Rattle.sound_tables.proofs.records.records_in.Goals as goal

pub returns-then-len-ne1-clause-judged : goal.returns-then-len-ne1-clause-judged
returns-then-len-ne1-clause-judged c db told =
    not_one db c.in-Some.rows.items (subst (Yields ShowsMeta meta_columns (db.trees 0)) c.in-Some.is told)
    (λ one. omega (arith, c.if-len-ne1.true, c.len.ensures, one))

pub returns-clause-judged : goal.returns-clause-judged
returns-clause-judged c db told =
    let one = one_shown db c.in-Some.rows.items c.index.result.now
    (subst (Yields ShowsMeta meta_columns (db.trees 0)) c.in-Some.is told)
    (omega (arith, c.if-len-ne1.false, c.len.ensures)) in
    c.records_of.ensures.judged db (subst (HasMeta db) (sym c.index.ensures) one)
