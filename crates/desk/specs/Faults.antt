-- The refusals of a call, in the order in which they are checked.
use Rattle.std.specs.Prelude.{ℕ, Bool, true, false, List, [], ◌∷◌, Result, Ok, Err, if◌then◌else◌}
use Rattle.desk.specs.declared.command.Command.{Command}
use Rattle.desk.specs.declared.command.Command.TheVariants.{PutEndpoint, SetSecrets, SetEnabled, SetSubscribed, Purge}
use Rattle.desk.specs.declared.refusal.Fault.{Fault}
use Rattle.desk.specs.declared.refusal.Fault.TheVariants as fault
use Rattle.desk.specs.declared.refusal.Refusal.{Refusal}

-- whether a fault is there, its number in the call's list, and its name
abbrev pub Faults : Type 0
Faults = List (Bool × ℕ × Fault)

abbrev pub refusal : ℕ → Fault → Refusal
refusal number fault = record { number = number; fault = fault }

-- the first of these faults that is there
abbrev pub first_fault : Faults → Result (Unit {0}) Refusal
first_fault [] = Ok tt
first_fault ((there, number, fault) ∷ rest) = if there then Err (refusal number fault) else first_fault rest

-- what was made, or the refusal by this number where memory was refused
abbrev pub out_of_memory_at : {A E : Type 0} → ℕ → Result A E → Result A Refusal
out_of_memory_at number (Ok made) = Ok made
out_of_memory_at number (Err e) = Err (refusal number fault.OutOfMemory)

-- Whether a submission, an event for a topic, a new endpoint, another change of an endpoint, a subscription, a purge, a
-- claim, or a sealing may be refused by this name.

abbrev pub may_refuse_event : Fault → Bool
may_refuse_event fault.Halted = true
may_refuse_event fault.UnknownEndpoint = true
may_refuse_event fault.Conflict = true
may_refuse_event fault.EndpointBacklog = true
may_refuse_event fault.Backlog = true
may_refuse_event fault.WaitingFull = true
may_refuse_event fault.SeqExhausted = true
may_refuse_event fault.OutOfMemory = true
may_refuse_event fault = false

abbrev pub may_refuse_publish : Fault → Bool
may_refuse_publish fault.UnknownTopic = true
may_refuse_publish fault.UnknownEndpoint = false
may_refuse_publish fault = may_refuse_event fault

abbrev pub may_refuse_put : Fault → Bool
may_refuse_put fault.Halted = true
may_refuse_put fault.Exists = true
may_refuse_put fault.TooManyEndpoints = true
may_refuse_put fault.WaitingFull = true
may_refuse_put fault.SeqExhausted = true
may_refuse_put fault.OutOfMemory = true
may_refuse_put fault = false

abbrev pub may_refuse_set : Fault → Bool
may_refuse_set fault.Halted = true
may_refuse_set fault.UnknownEndpoint = true
may_refuse_set fault.WaitingFull = true
may_refuse_set fault.SeqExhausted = true
may_refuse_set fault.OutOfMemory = true
may_refuse_set fault = false

abbrev pub may_refuse_subscribe : Fault → Bool
may_refuse_subscribe fault.TooManySubscriptions = true
may_refuse_subscribe fault = may_refuse_set fault

abbrev pub may_refuse_purge : Fault → Bool
may_refuse_purge fault.Halted = true
may_refuse_purge fault.WaitingFull = true
may_refuse_purge fault.SeqExhausted = true
may_refuse_purge fault = false

abbrev pub may_refuse_claim : Fault → Bool
may_refuse_claim fault.Halted = true
may_refuse_claim fault.SeqExhausted = true
may_refuse_claim fault.OutOfMemory = true
may_refuse_claim fault = false

abbrev pub may_refuse_seal : Fault → Bool
may_refuse_seal fault.Halted = true
may_refuse_seal fault.BatchOut = true
may_refuse_seal fault.OutOfMemory = true
may_refuse_seal fault = false

abbrev pub may_refuse : Command → Fault → Bool
may_refuse (PutEndpoint name target max secrets) = may_refuse_put
may_refuse (SetSecrets name secrets) = may_refuse_set
may_refuse (SetEnabled name flag) = may_refuse_set
may_refuse (SetSubscribed topic name flag) = may_refuse_subscribe
may_refuse (Purge before) = may_refuse_purge
