-- What the service of a connection serves, and what its futures give.
use Rattle.std.specs.Prelude.{◌≡◌, ℕ, List, Option, Some, Result, IfOk, IfSome}
use Rattle.std.specs.Arc.{arc_value}
use Rattle.std.specs.declared.alloc.Global.{Global}
use Rattle.std.specs.declared.sync.Arc.{Arc}
use Rattle.std.specs.declared.sync.Mutex.{Mutex}
use Rattle.std.specs.declared.sync.atomic.AtomicU64.{AtomicU64}
use Rattle.relay_types.specs.declared.limits.TheConstants.{MAX_BODY_BYTES}
use Rattle.relay_types.specs.declared.record.Record.{Record}
use Rattle.hyper.specs.declared.error.Error.{Error}
use Rattle.http.specs.declared.request.Parts.{Parts}
use Rattle.http.specs.declared.request.Request.{Request}
use Rattle.http.specs.declared.response.Response.{Response}
use Rattle.http.specs.Request.{head_of, body_of}
use Rattle.http_body_util.specs.declared.collected.Collected.{Collected}
use Rattle.http_body_util.specs.declared.combinators.collect.Collect.{Collect}
use Rattle.http_body_util.specs.declared.full.Full.{Full}
use Rattle.http_body_util.specs.declared.limited.Limited.{Limited}
use Rattle.http_body_util.specs.declared.limited.LimitedError.{LimitedError}
use Rattle.http_body_util.specs.Collected.{IsCollectOf}
use Rattle.delivery.specs.declared.shared.Shared.{Shared}
use Rattle.intake_shed.specs.declared.latest.LatestAck.{LatestAck}
use Rattle.hyper_intake.specs.Asking.{IsResponseTo}
use Rattle.hyper_intake.specs.declared.service.Answering.{Answering}
use Rattle.hyper_intake.specs.declared.service.Intake.{Intake}

module _ {R L I : Type 0} where
  -- the desk that threads share
  abbrev pub shared_of : Intake R L I → Arc (Shared L I) Global
  shared_of intake = intake.owners.shared

  -- where acknowledgements are handed in
  abbrev pub latest_of : Intake R L I → Arc (Mutex (LatestAck I)) Global
  latest_of intake = intake.owners.latest

  -- the count of answered requests
  abbrev pub answered_of : Intake R L I → Arc AtomicU64 Global
  answered_of intake = intake.owners.answered

  -- The future answers this request over what the service serves. Of its body no more is read than an event may have.
  pub record Takes {B : Type 0} (intake : Intake R L I) (request : Request B)
      (future : Answering R L I (Collect (Limited B))) : Type 0 where
    pub head : future.head ≡ Some (head_of request)
    pub body : IsCollectOf future.body (record { remaining = MAX_BODY_BYTES; inner = body_of request })
    pub over : IfSome future.owners (λ owners. arc_value owners.shared ≡ arc_value (shared_of intake))

-- If the body comes so, the response to this head may be this one, or there is none.
abbrev pub MayRespond : {E : Type 0} (is_base : List Record → Type 0)
    (comes : Result Collected (LimitedError Error) → Type 0) → Option Parts → Result (Response (Full (List ℕ))) E
    → Type 0
MayRespond is_base comes asked response = (gathered : Result Collected (LimitedError Error)) × comes gathered
    × IfSome asked (λ head. IfOk response (IsResponseTo is_base head gathered))
