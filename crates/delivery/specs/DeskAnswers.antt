-- What the desk's answers to a claim and to a seal are to those who asked.
use Rattle.std.specs.Prelude.{ℕ, Bool, true, false, Option, Some, None, Result, Ok, Err}
use Rattle.spool.specs.Batches.{BatchValue}
use Rattle.desk.specs.declared.refusal.Fault.{Fault}
use Rattle.desk.specs.declared.refusal.Fault.TheVariants as fault
use Rattle.desk.specs.declared.refusal.Refusal.{Refusal}
use Rattle.desk.specs.Faults.{refusal}
use Rattle.desk.specs.Claims.{JobValue}
use Rattle.delivery.specs.declared.committer.CommitterEnd.TheVariants as end
use Rattle.delivery.specs.declared.committer.HaltCause.TheVariants as cause
use Rattle.delivery.specs.declared.committer.Next.{Next}
use Rattle.delivery.specs.declared.committer.Next.TheVariants as next
use Rattle.delivery.specs.declared.worker.Claimed.{Claimed}
use Rattle.delivery.specs.declared.worker.Claimed.TheVariants as claimed
use Rattle.delivery.specs.declared.worker.Round.{Round}
use Rattle.delivery.specs.declared.worker.Round.TheVariants as round

-- what a submission and a command are refused with once the end was asked for
abbrev pub closing_refusal : Refusal
closing_refusal = refusal 1 fault.Halted

-- how a round ends whose claim is refused: of numbers that are all given out nothing more is posted
abbrev pub round_of : Fault → Round
round_of fault.Halted = round.Halted
round_of fault.OutOfMemory = round.NoMemory
round_of fault = round.Idle

-- how a round ends whose pass has seen more settled records than are found
abbrev pub went_back : (seen found : ℕ) → Round
went_back seen found = round.WentBack (record { seen = seen; found = found })

-- a job, or the end of the round
abbrev pub claimed_of : {g : _} → Result (Option JobValue) Refusal → Claimed g
claimed_of (Ok (Some job)) = claimed.Job job
claimed_of (Ok None) = claimed.RoundOver round.Idle
claimed_of (Err why) = claimed.RoundOver (round_of why.fault)

-- what a committer does whose seal is refused: nothing yet, while another one has a batch
abbrev pub next_after_refusal : Fault → Option Next
next_after_refusal fault.Halted = Some (next.End (end.Halted cause.Halted))
next_after_refusal fault.OutOfMemory = Some next.Refused
next_after_refusal fault = None

-- It commits a batch. If nothing waits it does nothing yet, or is finished once the end was asked for.
abbrev pub next_after_seal : (closing : Bool) → Result (Option BatchValue) Refusal → Option Next
next_after_seal closing (Ok (Some batch)) = Some (next.Commit batch)
next_after_seal true (Ok None) = Some (next.End end.Finished)
next_after_seal false (Ok None) = None
next_after_seal closing (Err why) = next_after_refusal why.fault
