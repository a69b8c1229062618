-- The answer to what is asked for is that to the request.
use Rattle.std.proofs.Common.{◌≡◌, ◌<◌, ℕ, Ok, Err, IsTrue, ◌⊎◌, inl, inr, subst}
use Rattle.std.specs.Prelude.{Option, Some, Result, IfOk, IfErr}
use Rattle.relay_types.specs.Values.{Text}
use Rattle.delivery.specs.Logs.{ChangeValue}
use Rattle.intake_shed.specs.Acks.{AckValue, PublishAckValue, AreBelow, IsOfEvent, IsOfPublish}
use Rattle.intake_shed.specs.Answers.{Answers, AcceptsEvent, AcceptsPublish, FailsBy}
use Rattle.intake_shed.specs.Answers.{IsPublishReply, IsEventReply}
use Rattle.intake_shed.specs.Answers.{OrOutOfMemory, may_fail_event, may_fail_publish}
use Rattle.intake_shed.specs.Replies.{ask_reply, out_of_memory}
use Rattle.intake_shed.specs.Requests.{IsReadAs, IsRefusedWith}
use Rattle.intake_shed.specs.declared.ask.Asked.{Asked}
use Rattle.intake_shed.specs.declared.ask.Asked.TheVariants as asked
use Rattle.intake_shed.specs.declared.fault.RequestError.{RequestError}
use Rattle.intake_shed.specs.declared.refusals.SubmitError.{SubmitError}
use Rattle.intake_shed.specs.declared.refusals.SubmitError.TheVariants as submit
use Rattle.intake_shed.specs.declared.reply.Reply.{Reply}

-- an event that was waited for is acknowledged, or isn't
pub event_answers : (name id body : Text) (seen : ℕ) (waited : Result AckValue SubmitError) (reply : Reply)
    (given : Option AckValue)
    → IfOk waited (λ ack. IsOfEvent ack name id body) → IfOk waited (λ ack. ack.seq < seen)
    → IfErr waited (λ why. IsTrue (may_fail_event why)) → IsEventReply waited reply
    → IfOk waited (λ ack. given ≡ Some ack)
    → AcceptsEvent name id body seen reply given ⊎ FailsBy may_fail_event reply
event_answers name id body seen (Ok ack) reply given event below may told is = inl (ack, is, event, below, told)
event_answers name id body seen (Err why) reply given event below may told is = inr (why, may, told)

-- so is one for a topic
pub publish_answers : (topic id body : Text) (seen : ℕ) (waited : Result PublishAckValue SubmitError) (reply : Reply)
    (published : Option PublishAckValue) → IfOk waited (λ ack. IsOfPublish ack topic id body)
    → IfOk waited (λ ack. AreBelow seen ack.event.tickets) → IfErr waited (λ why. IsTrue (may_fail_publish why))
    → IsPublishReply waited reply → IfOk waited (λ ack. published ≡ Some ack)
    → AcceptsPublish topic id body seen reply published ⊎ FailsBy may_fail_publish reply
publish_answers topic id body seen (Ok ack) reply published event below may told is = inl (ack, is, event, below, told)
publish_answers topic id body seen (Err why) reply published event below may told is = inr (why, may, told)

abbrev was_read : Asked → Result Asked Reply
was_read what = Ok what

abbrev was_refused : Reply → Result Asked Reply
was_refused reply = Err reply

same_asked : (a b : Asked) → was_read a ≡ was_read b → a ≡ b
same_asked a b e = cc

same_reply : (a b : Reply) → was_refused a ≡ was_refused b → a ≡ b
same_reply a b e = cc

-- what is asked for is the one thing that the request asks for
pub answers_what : (read what : Asked) (seen : ℕ) (reply : Reply) (given : Option AckValue)
    (published : Option PublishAckValue)
    (confirmed : Option ChangeValue) → IsReadAs (Ok read) what → Answers read seen reply given published confirmed
    → OrOutOfMemory (Answers what seen reply given published confirmed) reply
answers_what read what seen reply given published confirmed (inl e) h =
    inl (subst (λ (a : Asked). Answers a seen reply given published confirmed) (same_asked read what e) h)
answers_what read what seen reply given published confirmed (inr e) h = cc

-- a request that asks for something and isn't read is out of memory
pub not_read_lacks : (what : Asked) (P : Type 0) (reply : Reply) → IsReadAs (Err reply) what → OrOutOfMemory P reply
not_read_lacks what P reply (inl e) = cc
not_read_lacks what P reply (inr e) = inr (same_reply reply out_of_memory e)

-- what is refused isn't read
pub read_not_refused : (read : Asked) (why : RequestError) → IsRefusedWith (Ok read) why → ⊥
read_not_refused read why (inl e) = cc
read_not_refused read why (inr e) = cc

pub refused_reply : (why : RequestError) (reply : Reply) → IsRefusedWith (Err reply) why
    → OrOutOfMemory (reply ≡ ask_reply why) reply
refused_reply why reply (inl e) = inl (same_reply reply (ask_reply why) e)
refused_reply why reply (inr e) = inr (same_reply reply out_of_memory e)
