-- The log of what threads share.
use Rattle.atomic_table.specs.Seated.{TableId}
use Rattle.delivery.specs.declared.shared.Shared.{Shared}

-- the log of the run
abbrev pub log_of : {L I : Type 0} → Shared L I → TableId
log_of shared = shared.log
