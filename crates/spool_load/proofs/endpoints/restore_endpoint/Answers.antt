use Rattle.std.proofs.Common.{◌≡◌, true, [], ◌∷◌, sym, subst, ◌∙◌, rules}
use Rattle.sqlite.specs.Held.{state}
use Rattle.relay_types.specs.Values.{are_secrets}
use Rattle.relay_types.specs.Rows.{rows_of}
use Rattle.spool_sql.specs.Stored.{endpoint_of}
use Rattle.spool_sql.proofs.ReadableLemmas.{err_then, handed_on, row_memory}
use Rattle.spool_load.specs.Loading.{IsReadRefusal, NextToRestore}
use Rattle.spool_load.proofs.EndpointLoads.{has_secrets, may_restore_next, on_ok_both, restored_more, secrets_found}
use Rattle.spool_sql.proofs.LegalRows.{legal_readable}
use Rattle.spool_load.proofs.endpoints.restore_endpoint.Goals as goal

pub returns-clause-found : goal.returns-clause-found
returns-clause-found g c clean =
    on_ok_both c.restore.result c.restore.ensures.book c.restore.ensures.names (λ book names records legal tables.
    restored_more records (endpoint_of c.args.row) c.in-Ok.secrets c.args.loaded.now c.restore.new.self
    (λ before after is.
    (rw c.in-Ok.is at c.of.ensures.value) ∙ c.deref.ensures.value
    ∙ secrets_found records before after (endpoint_of c.args.row) c.in_ok-found.found.items is
    (c.in_ok-found.ensures.found clean (rows_of records) tables)) book names)

pub returns-in_err-found-clause-refused : goal.returns-in_err-found-clause-refused
returns-in_err-found-clause-refused g c clean =
    let a = state g.S.Store c.args.tx.now.conn.now in
    let b = state g.S.Store c.select_secrets.new.tx.conn.now in
    handed_on c.from_residual.result c.in_err-found.field-0.0
    (IsReadRefusal a b (NextToRestore c.args.loaded.now (endpoint_of c.args.row ∷ []))) c.from_residual.ensures.1
    (λ is_open records legal tables next. c.in_err-found.ensures.refused clean (rows_of records) tables
    (legal_readable records legal))

pub returns-in_default-clause-refused : goal.returns-in_default-clause-refused
returns-in_default-clause-refused g c clean is_open records legal tables (before, after, is, read) =
    let row = endpoint_of c.args.row in
    let found = secrets_found records before after row c.in_ok-found.found.items is
    (c.in_ok-found.ensures.found clean (rows_of records) tables) in
    let valid = subst (λ secrets. are_secrets secrets ≡ true) (sym (c.deref.ensures.value ∙ found))
    (has_secrets records before after row legal is) in
    search rules

pub returns-clause-refused : goal.returns-clause-refused
returns-clause-refused g c clean =
    let a = state g.S.Store c.args.tx.now.conn.now in
    let b = state g.S.Store c.select_secrets.new.tx.conn.now in
    err_then c.restore.result _ (IsReadRefusal a b (NextToRestore c.args.loaded.now (endpoint_of c.args.row ∷ [])))
    c.restore.ensures.refused
    (λ fault memory is_open records legal tables next. row_memory a b fault
    (memory (may_restore_next records c.args.loaded.now (endpoint_of c.args.row) legal next)))
