use Rattle.sound_tables.proofs.LookLemmas.{reads_both, reads_failed, reads_first}
use Rattle.sound_tables.proofs.stored.read_event_tables.Goals as goal

pub returns-in_err-deliveries : goal.returns-in_err-deliveries
returns-in_err-deliveries g c =
    let told = c.from_residual in
    reads_first g.S.Store _ _ (λ s own. own) c.in_err-deliveries.ensures _ told.result told.ensures.1

pub returns-in_err-attempts : goal.returns-in_err-attempts
returns-in_err-attempts g c =
    let told = c.from_residual-in_err-attempts in
    reads_failed g.S.Store _ _ _ (λ s own. own) c.in_ok-deliveries.ensures c.in_err-attempts.ensures _ told.result
    told.ensures.1

pub returns : goal.returns
returns g c =
    reads_both g.S.Store _ _ _ (λ s own. own) c.in_ok-deliveries.ensures c.in_ok-attempts.ensures _ _
    (λ db first later. (first, later))
