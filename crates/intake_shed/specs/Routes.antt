-- The routes of the code, and the parts of a path.
use Rattle.std.specs.Prelude.{◌≡◌, ℕ, [], ◌∷◌, ◌++◌, IsTrue, codes}
use Rattle.relay_types.specs.Values.{Text}
use Rattle.text_lines.specs.Parts.{has_no}
use Rattle.intake_shed.specs.RouteTable.{RouteValue, Put, SetSecrets, SetEnabled, SetSubscribed, Submit, Publish}
use Rattle.intake_shed.specs.RouteTable.{Retention}
use Rattle.intake_shed.specs.RouteTable.{Totals, Endpoint, Event}
use Rattle.intake_shed.specs.declared.routes.Route.{Route}
use Rattle.intake_shed.specs.declared.routes.Route.TheVariants as route

abbrev pub route_value : Route → RouteValue
route_value (route.Put name) = Put name.now
route_value (route.SetSecrets name) = SetSecrets name.now
route_value (route.SetEnabled name) = SetEnabled name.now
route_value (route.SetSubscribed name topic) = SetSubscribed name.now topic.now
route_value (route.Submit name) = Submit name.now
route_value (route.Publish topic) = Publish topic.now
route_value route.Retention = Retention
route_value route.Totals = Totals
route_value (route.Endpoint name) = Endpoint name.now
route_value (route.Event name id) = Event name.now id.now

-- nothing, or it begins with the mark
abbrev pub StartsAt : (mark : ℕ) → Text → Type 0
StartsAt mark [] = Unit {0}
StartsAt mark (c ∷ rest) = c ≡ mark

-- the route of an endpoint of this name has this method, and this rest after the name
abbrev pub IsAfterName : RouteValue → (method name rest : Text) → Type 0
IsAfterName (Put its) method name rest = (method ≡ codes "PUT") × (name ≡ its) × (rest ≡ [])
IsAfterName (SetSecrets its) method name rest = (method ≡ codes "PUT") × (name ≡ its) × (rest ≡ codes "/secrets")
IsAfterName (SetEnabled its) method name rest = (method ≡ codes "PUT") × (name ≡ its) × (rest ≡ codes "/enabled")
IsAfterName (SetSubscribed its topic) method name rest = (method ≡ codes "PUT") × (name ≡ its)
    × (rest ≡ codes "/topics/" ++ topic) × IsTrue (has_no 47 topic)
IsAfterName (Submit its) method name rest = (method ≡ codes "POST") × (name ≡ its) × (rest ≡ codes "/events")
IsAfterName (Publish topic) method name rest = ⊥
IsAfterName Retention method name rest = ⊥
IsAfterName Totals method name rest = ⊥
IsAfterName (Endpoint its) method name rest = (method ≡ codes "GET") × (name ≡ its) × (rest ≡ [])
IsAfterName (Event its id) method name rest = (method ≡ codes "GET") × (name ≡ its) × (rest ≡ codes "/events/" ++ id)
    × IsTrue (has_no 47 id)
