-- The table of requests, one route a line. A request is on a route if its method is the route's,
-- and its path, with the query cut off, is the route's path printed with these parts. Nothing is
-- decoded.
use Rattle.std.specs.Prelude.{◌≡◌, ◌==◌, ◌&&◌, true, Bool, List, [], ◌∷◌, ◌++◌, IsTrue, codes}
use Rattle.std.specs.List.{list_all, before_first}
use Rattle.relay_types.specs.Values.{Text, is_name}
use Rattle.text_lines.specs.Parts.{has_no}

-- a route, with the parts of its path that each request fills in
pub data RouteValue : Type 0 where
  Put : (name : Text) → RouteValue
  SetSecrets : (name : Text) → RouteValue
  SetEnabled : (name : Text) → RouteValue
  SetSubscribed : (name topic : Text) → RouteValue
  Submit : (name : Text) → RouteValue
  Publish : (topic : Text) → RouteValue
  Retention : RouteValue
  Totals : RouteValue
  Endpoint : (name : Text) → RouteValue
  Event : (name id : Text) → RouteValue

abbrev pub method_of : RouteValue → Text
method_of (Put name) = codes "PUT"
method_of (SetSecrets name) = codes "PUT"
method_of (SetEnabled name) = codes "PUT"
method_of (SetSubscribed name topic) = codes "PUT"
method_of (Submit name) = codes "POST"
method_of (Publish topic) = codes "POST"
method_of Retention = codes "PUT"
method_of Totals = codes "GET"
method_of (Endpoint name) = codes "GET"
method_of (Event name id) = codes "GET"

-- the path of an endpoint, and what follows its name
abbrev pub endpoint_path : (name rest : Text) → Text
endpoint_path name rest = codes "/v1/endpoints/" ++ (name ++ rest)

-- the path of a topic's events
abbrev pub topic_path : (topic : Text) → Text
topic_path topic = codes "/v1/topics/" ++ (topic ++ codes "/events")

abbrev pub path_of : RouteValue → Text
path_of (Put name) = endpoint_path name []
path_of (SetSecrets name) = endpoint_path name (codes "/secrets")
path_of (SetEnabled name) = endpoint_path name (codes "/enabled")
path_of (SetSubscribed name topic) = endpoint_path name (codes "/topics/" ++ topic)
path_of (Submit name) = endpoint_path name (codes "/events")
path_of (Publish topic) = topic_path topic
path_of Retention = codes "/v1/retention"
path_of Totals = codes "/v1/status"
path_of (Endpoint name) = endpoint_path name []
path_of (Event name id) = endpoint_path name (codes "/events/" ++ id)

-- the parts that a request fills in: any bytes but `/`, also none
abbrev pub parts_of : RouteValue → List Text
parts_of (Put name) = name ∷ []
parts_of (SetSecrets name) = name ∷ []
parts_of (SetEnabled name) = name ∷ []
parts_of (SetSubscribed name topic) = name ∷ topic ∷ []
parts_of (Submit name) = name ∷ []
parts_of (Publish topic) = topic ∷ []
parts_of Retention = []
parts_of Totals = []
parts_of (Endpoint name) = name ∷ []
parts_of (Event name id) = name ∷ id ∷ []

-- a path up to its first `?`
abbrev pub before_query : (path : Text) → Text
before_query path = before_first (λ c. c == 63) path

-- these are the route's method and path
pub record IsRouteOf (route : RouteValue) (method path : Text) : Type 0 where
  pub of_method : method ≡ method_of route
  pub of_path : path ≡ path_of route
  pub no_slash : IsTrue (list_all (has_no 47) (parts_of route))

-- whether the names of the endpoint and of the topic, if the route has them, are names
abbrev pub has_name : RouteValue → Bool
has_name (Put name) = is_name name
has_name (SetSecrets name) = is_name name
has_name (SetEnabled name) = is_name name
has_name (SetSubscribed name topic) = is_name name && is_name topic
has_name (Submit name) = is_name name
has_name (Publish topic) = is_name topic
has_name Retention = true
has_name Totals = true
has_name (Endpoint name) = is_name name
has_name (Event name id) = is_name name
