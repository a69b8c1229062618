use Rattle.sound_tables.proofs.LookLemmas.{reads_both, reads_failed, reads_first}
use Rattle.sound_tables.proofs.stored.read_endpoint_tables.Goals as goal

pub returns-in_err-endpoints : goal.returns-in_err-endpoints
returns-in_err-endpoints g c =
    let told = c.from_residual in
    reads_first g.S.Store _ _ (λ s own. own) c.in_err-endpoints.ensures _ told.result told.ensures.1

pub returns-in_err-secrets : goal.returns-in_err-secrets
returns-in_err-secrets g c =
    let told = c.from_residual-in_err-secrets in
    reads_failed g.S.Store _ _ _ (λ s own. own) c.in_ok-endpoints.ensures c.in_err-secrets.ensures _ told.result
    told.ensures.1

pub returns : goal.returns
returns g c =
    reads_both g.S.Store _ _ _ (λ s own. own) c.in_ok-endpoints.ensures c.in_ok-secrets.ensures _ _
    (λ db first later. (first, later))
