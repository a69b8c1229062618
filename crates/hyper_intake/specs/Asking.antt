-- The reply to a request, as far as `hyper` shows it.
use Rattle.std.specs.Prelude.{◌≡◌, ◌⊎◌, ℕ, true, false, List, Option, Result, Ok, Err, map, codes}
use Rattle.relay_types.specs.Values.{Text}
use Rattle.hyper.specs.declared.error.Error.{Error}
use Rattle.http.specs.declared.request.Parts.{Parts}
use Rattle.http.specs.declared.response.Response.{Response}
use Rattle.http_body_util.specs.declared.collected.Collected.{Collected}
use Rattle.http_body_util.specs.Collected.{collected_bytes}
use Rattle.http_body_util.specs.declared.full.Full.{Full}
use Rattle.http_body_util.specs.declared.limited.LimitedError.{LimitedError}
use Rattle.http_body_util.specs.declared.limited.LimitedError.TheVariants.{LengthLimit, Body}
use Rattle.relay_types.specs.declared.record.Record.{Record}
use Rattle.delivery.specs.Logs.{ChangeValue}
use Rattle.intake_shed.specs.Acks.{AckValue, AreInLog, PublishAckValue}
use Rattle.intake_shed.specs.Answers.{AnswersAsk, OrOutOfMemory}
use Rattle.intake_shed.specs.Requests.{IsRefusal}
use Rattle.intake_shed.specs.declared.ask.Ask.{Ask}
use Rattle.intake_shed.specs.declared.ask.AskBody.{AskBody}
use Rattle.intake_shed.specs.declared.ask.AskBody.TheVariants.{Whole, TooLong}
use Rattle.intake_shed.specs.declared.reply.Reply.{Reply}
use Rattle.relay_host.specs.Fresh.{IsMadeId}
use Rattle.hyper_intake.specs.Responses.{IsNotImplemented, Responds}
use Rattle.hyper_intake.specs.Shown.{has_unknown_coding, path_shown, values_shown}

-- what is asked by this head and this body
pub record IsAskOf (head : Parts) (sent : AskBody) (ask : Ask) : Type 0 where
  pub method : ask.method.now ≡ head.method
  pub path : ask.path.now ≡ path_shown head.uri
  pub ids : map (λ id. id.now) ask.ids.now ≡ values_shown head.headers (codes "webhook-id")
  pub body : ask.body ≡ sent

-- The reply is that to what is asked, and a log that goes on from the history before the run has the event that it
-- acknowledges, or the change that it confirms. An event without an id is given one that was made for it. Or memory is
-- lacking.
abbrev pub RepliesTo : (is_base : List Record → Type 0) → Parts → AskBody → Reply → Type 0
RepliesTo is_base head body reply = OrOutOfMemory ((ask : Ask) × (fresh : Text) × (seen : ℕ)
    × (given : Option AckValue) × (published : Option PublishAckValue) × (confirmed : Option ChangeValue)
    × IsAskOf head body ask × IsMadeId fresh × AreInLog is_base given published confirmed
    × (IsRefusal ask reply ⊎ AnswersAsk ask fresh seen reply given published confirmed)) reply

-- the body that came of it: whole, or longer than it may be; of one that was cut there is none
abbrev pub IsBodyOf : Result Collected (LimitedError Error) → AskBody → Type 0
IsBodyOf (Ok collected) (Whole bytes) = bytes.now ≡ collected_bytes collected
IsBodyOf (Ok collected) TooLong = ⊥
IsBodyOf (Err LengthLimit) body = body ≡ TooLong
IsBodyOf (Err (Body error)) body = ⊥

-- The response is that of the reply to this head and the body that came, or memory is lacking; to a coding that isn't
-- known it is one of its own.
abbrev pub IsResponseTo : (is_base : List Record → Type 0) → Parts → Result Collected (LimitedError Error)
    → Response (Full (List ℕ)) → Type 0
IsResponseTo is_base head gathered response =
    ((has_unknown_coding head.headers ≡ true) × IsNotImplemented response)
    ⊎ ((has_unknown_coding head.headers ≡ false) × (reply : Reply) × Responds reply response
    × OrOutOfMemory ((body : AskBody) × IsBodyOf gathered body × RepliesTo is_base head body reply) reply)
