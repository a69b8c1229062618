-- The replies of refusals: a status, whether the request may be made again in a second, and a body
-- with the name.
use Rattle.std.specs.Prelude.{ℕ, ◌++◌, true, false, codes}
use Rattle.relay_types.specs.Values.{Text}
use Rattle.desk.specs.declared.refusal.Fault.{Fault}
use Rattle.desk.specs.declared.refusal.Fault.TheVariants as desk
use Rattle.intake_shed.specs.declared.fault.RequestError.{RequestError}
use Rattle.intake_shed.specs.declared.fault.RequestError.TheVariants as ask
use Rattle.intake_shed.specs.declared.refusals.SubmitError.{SubmitError}
use Rattle.intake_shed.specs.declared.refusals.SubmitError.TheVariants as submit
use Rattle.intake_shed.specs.declared.reply.Reply.{Reply}

abbrev pub refusal_text : (name : Text) → Text
refusal_text name = codes "{\"error\":\"" ++ (name ++ codes "\"}")

-- a refusal that is final, and one that may be different a second later
abbrev pub refused : (status : ℕ) (name : Text) → Reply
refused status name = record { status = status; retry = false; body = refusal_text name }

abbrev pub refused_now : (name : Text) → Reply
refused_now name = record { status = 503; retry = true; body = refusal_text name }

-- the reply if an allocation failed
abbrev pub out_of_memory : Reply
out_of_memory = refused_now (codes "OutOfMemory")

-- the reply to a request that isn't read
abbrev pub ask_reply : RequestError → Reply
ask_reply ask.NotFound = refused 404 (codes "NotFound")
ask_reply ask.BadName = refused 400 (codes "BadName")
ask_reply ask.TooLong = refused 413 (codes "TooLong")
ask_reply ask.BadId = refused 400 (codes "BadId")
ask_reply ask.BadBody = refused 400 (codes "BadBody")
ask_reply ask.BadUrl = refused 400 (codes "BadUrl")
ask_reply ask.BadMax = refused 400 (codes "BadMax")
ask_reply ask.BadSecret = refused 400 (codes "BadSecret")
ask_reply ask.BadMoment = refused 400 (codes "BadMoment")
ask_reply ask.OutOfMemory = out_of_memory

-- the reply to a refusal of the desk
abbrev pub fault_reply : Fault → Reply
fault_reply desk.Halted = refused_now (codes "Halted")
fault_reply desk.UnknownEndpoint = refused 404 (codes "UnknownEndpoint")
fault_reply desk.UnknownTopic = refused 404 (codes "UnknownTopic")
fault_reply desk.Conflict = refused 409 (codes "Conflict")
fault_reply desk.Exists = refused 409 (codes "Exists")
fault_reply desk.EndpointBacklog = refused_now (codes "EndpointBacklog")
fault_reply desk.Backlog = refused_now (codes "Backlog")
fault_reply desk.TooManyEndpoints = refused 409 (codes "TooManyEndpoints")
fault_reply desk.TooManySubscriptions = refused 409 (codes "TooManySubscriptions")
fault_reply desk.WaitingFull = refused_now (codes "WaitingFull")
fault_reply desk.SeqExhausted = refused_now (codes "SeqExhausted")
fault_reply desk.BatchOut = refused_now (codes "BatchOut")
fault_reply desk.OutOfMemory = out_of_memory

-- the reply to a change or an event that isn't done
abbrev pub refusal_reply : SubmitError → Reply
refusal_reply (submit.Refused refusal) = fault_reply refusal.fault
refusal_reply submit.Unknown = refused_now (codes "Unknown")
refusal_reply submit.WentBack = refused_now (codes "WentBack")
