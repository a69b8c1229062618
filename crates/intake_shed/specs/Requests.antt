-- What a request asks for, and why it is refused: the first check that fails decides.
use Rattle.std.specs.Prelude.{◌≡◌, ◌⊎◌, true, false, Bool, ◌&&◌, nat_le, List, [], ◌∷◌, length, codes}
use Rattle.std.specs.Prelude.{Result, Ok, Err, IsTrue}
use Rattle.serde_json.specs.Data.{Data}
use Rattle.relay_types.specs.declared.limits.TheConstants.{MAX_BODY_BYTES}
use Rattle.relay_types.specs.Values.{Text, is_msg_id}
use Rattle.text_lines.specs.Parts.{texts}
use Rattle.desk.specs.declared.command.Command.{Command}
use Rattle.desk.specs.declared.command.Command.TheVariants as change
use Rattle.intake_shed.specs.Bodies.{IsJson, SaysCommand, IsBadPut, IsBadSecrets, IsBadFlag, IsBadBefore, IsBadByValue}
use Rattle.intake_shed.specs.RouteTable.{RouteValue, Put, SetSecrets, SetEnabled, SetSubscribed, Submit, Publish}
use Rattle.intake_shed.specs.RouteTable.{Retention}
use Rattle.intake_shed.specs.RouteTable.{Totals, Endpoint, Event, IsRouteOf, before_query, has_name}
use Rattle.intake_shed.specs.Replies.{ask_reply, out_of_memory}
use Rattle.intake_shed.specs.declared.ask.Ask.{Ask}
use Rattle.intake_shed.specs.declared.ask.AskBody.{AskBody}
use Rattle.intake_shed.specs.declared.ask.AskBody.TheVariants.{Whole, TooLong}
use Rattle.intake_shed.specs.declared.ask.Asked.{Asked}
use Rattle.intake_shed.specs.declared.ask.Asked.TheVariants as asked
use Rattle.intake_shed.specs.declared.fault.RequestError.{RequestError}
use Rattle.intake_shed.specs.declared.fault.RequestError.TheVariants as fault
use Rattle.intake_shed.specs.declared.reply.Reply.{Reply}

-- the request is on this route of the table
abbrev pub IsOnRoute : RouteValue → Ask → Type 0
IsOnRoute route ask = IsRouteOf route ask.method.now (before_query ask.path.now)

-- whether the body is whole, and has at most 65,536 bytes
abbrev pub is_within_limit : AskBody → Bool
is_within_limit (Whole bytes) = nat_le (length bytes.now) MAX_BODY_BYTES
is_within_limit TooLong = false

-- the bytes of a body that is within the limit
abbrev pub bytes_of : AskBody → Text
bytes_of (Whole bytes) = bytes.now
bytes_of TooLong = []

-- whether there is no id, or one valid id
abbrev pub has_one_id : (ids : List Text) → Bool
has_one_id [] = true
has_one_id (id ∷ []) = is_msg_id id
has_one_id (id ∷ other ∷ ids) = false

-- the id that is given, or else a fresh one
abbrev pub id_of : (ids : List Text) (fresh : Text) → Text
id_of [] fresh = fresh
id_of (id ∷ ids) fresh = id

abbrev pub has_id : RouteValue → Ask → Bool
has_id (Submit name) ask = has_one_id (texts ask.ids.now)
has_id (Publish topic) ask = has_one_id (texts ask.ids.now)
has_id (Event name id) ask = is_msg_id id
has_id route ask = true

-- the checks of a request's names, size and id
abbrev pub passes_checks : RouteValue → Ask → Bool
passes_checks route ask = has_name route && (is_within_limit ask.body && has_id route ask)

-- the route of what is asked for
abbrev pub route_of_command : Command → RouteValue
route_of_command (change.PutEndpoint name target max secrets) = Put name
route_of_command (change.SetSecrets name secrets) = SetSecrets name
route_of_command (change.SetEnabled name flag) = SetEnabled name
route_of_command (change.SetSubscribed topic name flag) = SetSubscribed name topic
route_of_command (change.Purge before) = Retention

abbrev pub route_of_asked : Asked → RouteValue
route_of_asked (asked.Change command) = route_of_command command
route_of_asked (asked.Post name id body) = Submit name
route_of_asked (asked.Publish topic id body) = Publish topic
route_of_asked asked.Totals = Totals
route_of_asked (asked.Endpoint name) = Endpoint name
route_of_asked (asked.Event name id) = Event name id

-- what is asked for is what the body, or the ids and the body, say
abbrev pub AgreesWithBody : Ask → (fresh : Text) → Asked → Type 0
AgreesWithBody ask fresh (asked.Change command) = (value : Data) × IsJson (bytes_of ask.body) value
    × SaysCommand value command
AgreesWithBody ask fresh (asked.Post name id body) = (id ≡ id_of (texts ask.ids.now) fresh) × (body ≡ bytes_of ask.body)
AgreesWithBody ask fresh (asked.Publish topic id body) = (id ≡ id_of (texts ask.ids.now) fresh)
    × (body ≡ bytes_of ask.body)
AgreesWithBody ask fresh _ = Unit {0}

-- what a request asks for: it is on that route, passes the checks, and its body agrees
pub record AsksFor (ask : Ask) (fresh : Text) (what : Asked) : Type 0 where
  pub on_route : IsOnRoute (route_of_asked what) ask
  pub passes : IsTrue (passes_checks (route_of_asked what) ask)
  pub says : AgreesWithBody ask fresh what

-- Why a body is refused: only a PUT's can be bad. An allocation may fail for each body that is read
-- or copied.
abbrev pub IsBadBody : RouteValue → (body : Text) → RequestError → Type 0
IsBadBody (Put name) body why = IsBadByValue IsBadPut body why
IsBadBody (SetSecrets name) body why = IsBadByValue IsBadSecrets body why
IsBadBody (SetEnabled name) body why = IsBadByValue (IsBadFlag (codes "enabled")) body why
IsBadBody (SetSubscribed name topic) body why = IsBadByValue (IsBadFlag (codes "subscribed")) body why
IsBadBody Retention body why = IsBadByValue IsBadBefore body why
IsBadBody (Submit name) body fault.OutOfMemory = Unit {0}
IsBadBody (Publish topic) body fault.OutOfMemory = Unit {0}
IsBadBody route body why = ⊥

-- why a request on this route is refused: it passes the checks before this one, and fails this one
abbrev pub FailsOnRoute : RouteValue → Ask → RequestError → Type 0
FailsOnRoute route ask fault.BadName = has_name route ≡ false
FailsOnRoute route ask fault.TooLong = IsTrue (has_name route) × (is_within_limit ask.body ≡ false)
FailsOnRoute route ask fault.BadId = IsTrue (has_name route && is_within_limit ask.body) × (has_id route ask ≡ false)
FailsOnRoute route ask why = IsTrue (passes_checks route ask) × IsBadBody route (bytes_of ask.body) why

-- the first check that fails: the request is on no route, or fails a check on its route
abbrev pub IsRefusedFor : Ask → RequestError → Type 0
IsRefusedFor ask fault.NotFound = (route : RouteValue) → ¬ IsOnRoute route ask
IsRefusedFor ask fault.OutOfMemory = ⊥
IsRefusedFor ask why = (route : RouteValue) × IsOnRoute route ask × FailsOnRoute route ask why

-- an allocation may fail for a body that is read or copied, after the checks of names, size and id
abbrev pub MayRunOutOfMemory : Ask → Type 0
MayRunOutOfMemory ask = (route : RouteValue) × IsOnRoute route ask × FailsOnRoute route ask fault.OutOfMemory

-- why a request isn't read: a check failed, or an allocation
abbrev pub IsNotReadFor : Ask → RequestError → Type 0
IsNotReadFor ask fault.OutOfMemory = MayRunOutOfMemory ask
IsNotReadFor ask why = IsRefusedFor ask why

-- the reply to a request that isn't read: that of the failed check, or out of memory
abbrev pub IsRefusal : Ask → Reply → Type 0
IsRefusal ask reply = (why : RequestError) × (reply ≡ ask_reply why) × IsNotReadFor ask why

-- the answer is this one, or out of memory
abbrev pub IsReadAs : Result Asked Reply → Asked → Type 0
IsReadAs result what = (result ≡ Ok what) ⊎ (result ≡ Err out_of_memory)

-- the answer is the reply of this check, or out of memory
abbrev pub IsRefusedWith : Result Asked Reply → RequestError → Type 0
IsRefusedWith result why = (result ≡ Err (ask_reply why)) ⊎ (result ≡ Err out_of_memory)
