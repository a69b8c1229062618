use Rattle.std.proofs.Common.{inl, inr}
use Rattle.std.proofs.lemmas.Result.{err_from_is_err_and}
use Rattle.sqlite.specs.Held.{state}
use Rattle.recovery.proofs.ReopeningLaws.{is_reopened, reopens_left, of_answer, of_refusal, of_both, migrated_then}
use Rattle.recovery.proofs.ReopeningLaws.{leaves_then, not_migrated, of_migrating, of_reading, reading_since}
use Rattle.recovery.proofs.ReopeningLaws.{with_cause}
use Rattle.recovery.proofs.reopening.reopen.Goals as goal

pub returns-clause-foreign : goal.returns-clause-foreign
returns-clause-foreign g c none = absurd (c.in_ok-vault.ensures.ours none)

pub returns-in_err-vault-clause-foreign : goal.returns-in_err-vault-clause-foreign
returns-in_err-vault-clause-foreign g c =
    let p = err_from_is_err_and c.from_residual.result c.from_residual.ensures.1 in
    rw (p.1, p.2) (λ none. c.in_err-vault.ensures.foreign none)

pub returns-clause-back : goal.returns-clause-back
returns-clause-back g c none = absurd (c.in_ok-vault.ensures.ours none)

pub returns-in_err-vault-clause-back : goal.returns-in_err-vault-clause-back
returns-in_err-vault-clause-back g c =
    let p = err_from_is_err_and c.from_residual.result c.from_residual.ensures.1 in
    rw (p.1, p.2) (λ none. c.in_err-vault.ensures.back)

pub returns-clause-opened : goal.returns-clause-opened
returns-clause-opened g c = of_answer _ _ _ _ c.with_desk.result
    (λ opening opens clean new schema. is_reopened g.S.Store (state g.S.Store c.args.conn).now c.in_ok-vault.vault
    opening.0 opening.1 (c.in_ok-vault.ensures.migrated (clean new) schema) (opens new))
    c.with_desk.ensures.opens c.with_desk.ensures.clean

pub returns-clause-whole : goal.returns-clause-whole
returns-clause-whole g c = of_answer _ _ _ _ c.with_desk.result
    (λ opening opens clean new. c.in_ok-vault.ensures.whole (clean new))
    c.with_desk.ensures.opens c.with_desk.ensures.clean

pub returns-clause-reopens : goal.returns-clause-reopens
returns-clause-reopens g c = of_answer _ _ _ _ c.with_desk.result
    (λ opening opens clean new. reopens_left g.S.Store c.args.conn opening.0 opening.1
    (λ schema. is_reopened g.S.Store (state g.S.Store c.args.conn).now c.in_ok-vault.vault opening.0 opening.1
    (c.in_ok-vault.ensures.migrated (clean new) schema) (opens new)))
    c.with_desk.ensures.opens c.with_desk.ensures.clean

pub returns-clause-refused : goal.returns-clause-refused
returns-clause-refused g c = of_refusal _ _ _ _ c.with_desk.result
    (λ back reading clean new schema. let adopted = c.in_ok-vault.ensures.migrated (clean new) schema in inr
    (reading, adopted.rows, adopted.stand))
    c.with_desk.ensures.cause c.with_desk.ensures.clean

pub returns-clause-left : goal.returns-clause-left
returns-clause-left g c = of_both _ _ _ _ _ _ c.with_desk.result
    (λ opening read clean new. (
      migrated_then _ _ _ (c.in_ok-vault.ensures.left (clean new)) (read new).0,
      (read new).1,
    ))
    (λ back read clean new. leaves_then _ _ _ back.1 read.0 (c.in_ok-vault.ensures.left (clean new)) (read.1 new))
    (with_cause _ _ _ c.with_desk.result c.with_desk.ensures.cause c.with_desk.ensures.read) c.with_desk.ensures.clean

pub returns-in_err-vault-clause-refused : goal.returns-in_err-vault-clause-refused
returns-in_err-vault-clause-refused g c =
    let p = err_from_is_err_and c.from_residual.result c.from_residual.ensures.1 in
    rw (p.1, p.2) (λ clean schema. inl (c.in_err-vault.ensures.refused clean schema))

pub returns-clause-sound : goal.returns-clause-sound
returns-clause-sound g c = of_refusal _ _ _ _ c.with_desk.result
    (λ back sound clean new history.
    let holds = ((c.in_ok-vault.ensures.migrated (clean new) (inr history.2.schema_is)).holds history.0 history.1
    (inl history.2)).0 in
    reading_since (state g.S.Store c.args.conn) (state g.S.Store c.in_ok-vault.vault.conn) (state g.S.Store back.0)
    c.in_ok-vault.ensures.survives holds.stands.is_open back.1 (sound new history.0 holds))
    c.with_desk.ensures.sound c.with_desk.ensures.clean

pub returns-clause-first : goal.returns-clause-first
returns-clause-first g c = of_refusal _ _ _ _ c.with_desk.result
    (λ back sound clean new history.
    let holds = ((c.in_ok-vault.ensures.migrated (clean new) (inl history.2.schema_is)).holds history.0 history.1
    (inr history.2)).0 in
    not_migrated (state g.S.Store c.args.conn) (state g.S.Store back.0) back.1
    (reading_since (state g.S.Store c.args.conn) (state g.S.Store c.in_ok-vault.vault.conn) (state g.S.Store back.0)
    c.in_ok-vault.ensures.survives holds.stands.is_open back.1 (sound new history.0 holds)))
    c.with_desk.ensures.sound c.with_desk.ensures.clean

pub returns-in_err-vault-clause-first : goal.returns-in_err-vault-clause-first
returns-in_err-vault-clause-first g c =
    let p = err_from_is_err_and c.from_residual.result c.from_residual.ensures.1 in
    rw (p.1, p.2) (λ clean history. of_migrating (state g.S.Store c.args.conn)
    (state g.S.Store c.in_err-vault.field-0.0.0) c.in_err-vault.field-0.0.1
    (c.in_err-vault.ensures.first clean history))

pub returns-in_err-vault-clause-sound : goal.returns-in_err-vault-clause-sound
returns-in_err-vault-clause-sound g c =
    let p = err_from_is_err_and c.from_residual.result c.from_residual.ensures.1 in
    rw (p.1, p.2)
    (λ clean history. of_reading (state g.S.Store c.args.conn) (state g.S.Store c.in_err-vault.field-0.0.0)
    c.in_err-vault.field-0.0.1 (c.in_err-vault.ensures.sound clean history))

pub returns-clause-clean : goal.returns-clause-clean
returns-clause-clean g c =
    of_both _ _ _ _ _ _ c.with_desk.result (λ opening clean same new. c.in_ok-vault.ensures.clean (clean new))
    (λ back clean same new. c.in_ok-vault.ensures.clean (clean new))
    c.with_desk.ensures.clean c.with_desk.ensures.clean
