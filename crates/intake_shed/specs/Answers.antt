-- The answer to a request whose caller has then seen so many records as settled.
use Rattle.std.specs.Prelude.{◌≡◌, ◌<◌, ◌⊎◌, ℕ, Bool, true, Option, Some, Result, Ok, Err, IsTrue}
use Rattle.relay_types.specs.Values.{Text}
use Rattle.desk.specs.declared.command.Command.{Command}
use Rattle.desk.specs.Desks.{DeskValue, IsCore}
use Rattle.desk.specs.Faults as desk
use Rattle.delivery.specs.Logs.{ChangeValue, IsOfCommand}
use Rattle.intake_shed.specs.Acks.{AckValue, PublishAckValue, AreBelow, IsOfEvent, IsOfPublish}
use Rattle.intake_shed.specs.Done.{IsDone, change_status, change_text, accepted_text, published_text, seqs_of}
use Rattle.intake_shed.specs.Pages.{IsDeskPageReply}
use Rattle.intake_shed.specs.Replies.{out_of_memory, refusal_reply}
use Rattle.intake_shed.specs.Requests.{AsksFor}
use Rattle.intake_shed.specs.declared.ask.Ask.{Ask}
use Rattle.intake_shed.specs.declared.ask.Asked.{Asked}
use Rattle.intake_shed.specs.declared.ask.Asked.TheVariants as asked
use Rattle.intake_shed.specs.declared.refusals.SubmitError.{SubmitError}
use Rattle.intake_shed.specs.declared.refusals.SubmitError.TheVariants as submit
use Rattle.intake_shed.specs.declared.reply.Reply.{Reply}

-- whether this may be why an event that was submitted and waited for is not acknowledged
abbrev pub may_fail_event : SubmitError → Bool
may_fail_event (submit.Refused refusal) = desk.may_refuse_event refusal.fault
may_fail_event submit.Unknown = true
may_fail_event submit.WentBack = true

-- the same of an event for a topic
abbrev pub may_fail_publish : SubmitError → Bool
may_fail_publish (submit.Refused refusal) = desk.may_refuse_publish refusal.fault
may_fail_publish submit.Unknown = true
may_fail_publish submit.WentBack = true

-- the same of a change
abbrev pub may_fail : Command → SubmitError → Bool
may_fail command (submit.Refused refusal) = desk.may_refuse command refusal.fault
may_fail command submit.Unknown = true
may_fail command submit.WentBack = true

-- the desk didn't refuse it
abbrev pub IsNoRefusal : SubmitError → Type 0
IsNoRefusal (submit.Refused refusal) = ⊥
IsNoRefusal submit.Unknown = Unit {0}
IsNoRefusal submit.WentBack = Unit {0}

-- the reply of one of these faults
abbrev pub FailsBy : (may : SubmitError → Bool) → Reply → Type 0
FailsBy may reply = (why : SubmitError) × IsTrue (may why) × (reply ≡ refusal_reply why)

-- the reply to an event that was waited for: it is acknowledged, or this is why it isn't
abbrev pub IsEventReply : Result AckValue SubmitError → Reply → Type 0
IsEventReply (Ok ack) reply = IsDone 202 (accepted_text ack.id ack.seq) reply
IsEventReply (Err why) reply = reply ≡ refusal_reply why

-- the same of an event for a topic
abbrev pub IsPublishReply : Result PublishAckValue SubmitError → Reply → Type 0
IsPublishReply (Ok ack) reply = IsDone 202 (published_text ack.event.id (seqs_of ack.event.tickets)) reply
IsPublishReply (Err why) reply = reply ≡ refusal_reply why

-- An acknowledgement of the event comes with the reply, and was seen to be settled. The reply has
-- its id and its number.
abbrev pub AcceptsEvent : (name id body : Text) (seen : ℕ) → Reply → Option AckValue → Type 0
AcceptsEvent name id body seen reply given = (ack : AckValue) × (given ≡ Some ack)
    × IsOfEvent ack name id body × (ack.seq < seen) × IsDone 202 (accepted_text ack.id ack.seq) reply

-- An acknowledgement of the event for the topic comes with the reply, and was seen to be settled at
-- each subscriber. The reply has its id and its numbers.
abbrev pub AcceptsPublish : (topic id body : Text) (seen : ℕ) → Reply → Option PublishAckValue → Type 0
AcceptsPublish topic id body seen reply published = (ack : PublishAckValue) × (published ≡ Some ack)
    × IsOfPublish ack topic id body × AreBelow seen ack.event.tickets
    × IsDone 202 (published_text ack.event.id (seqs_of ack.event.tickets)) reply

-- A confirmation of the change comes with the reply, and was seen to be settled. The reply has its
-- record's number.
abbrev pub ConfirmsChange : Command → (seen : ℕ) → Reply → Option ChangeValue → Type 0
ConfirmsChange command seen reply confirmed = (change : ChangeValue) × (confirmed ≡ Some change)
    × IsOfCommand change command × (change.seq < seen) × IsDone (change_status command) (change_text change.seq) reply

-- the page of a state of the core that has so many records settled, or no page of it
abbrev pub GivesPageAt : Asked → (seen : ℕ) → Reply → Type 0
GivesPageAt what seen reply =
    ((desk : DeskValue) × IsCore desk × (desk.waiting.settled ≡ seen) × IsDeskPageReply desk what reply)
    ⊎ (reply ≡ refusal_reply submit.WentBack)

-- The answer to what is asked for, whose caller has then seen so many records as settled.
abbrev pub Answers : Asked → (seen : ℕ) → Reply → Option AckValue → Option PublishAckValue → Option ChangeValue
    → Type 0
Answers (asked.Change command) seen reply given published confirmed =
    ConfirmsChange command seen reply confirmed ⊎ FailsBy (may_fail command) reply
Answers (asked.Post name id body) seen reply given published confirmed =
    AcceptsEvent name id body seen reply given ⊎ FailsBy may_fail_event reply
Answers (asked.Publish topic id body) seen reply given published confirmed =
    AcceptsPublish topic id body seen reply published ⊎ FailsBy may_fail_publish reply
Answers asked.Totals seen reply given published confirmed = GivesPageAt asked.Totals seen reply
Answers (asked.Endpoint name) seen reply given published confirmed = GivesPageAt (asked.Endpoint name) seen reply
Answers (asked.Event name id) seen reply given published confirmed = GivesPageAt (asked.Event name id) seen reply

-- the same to a request
abbrev pub AnswersAsk : Ask → (fresh : Text) (seen : ℕ) → Reply → Option AckValue → Option PublishAckValue
    → Option ChangeValue → Type 0
AnswersAsk ask fresh seen reply given published confirmed =
    (what : Asked) × AsksFor ask fresh what × Answers what seen reply given published confirmed

-- this holds, or the reply is out of memory
abbrev pub OrOutOfMemory : Type 0 → Reply → Type 0
OrOutOfMemory IsSo reply = IsSo ⊎ (reply ≡ out_of_memory)
