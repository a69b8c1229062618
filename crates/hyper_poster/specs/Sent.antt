-- A request as it is handed to a connection.
use Rattle.std.specs.Prelude.{◌≡◌, ◌==◌, if◌then◌else◌, ℕ, List, [], Option, Some, None, length, map, codes}
use Rattle.http_header.specs.FieldValue.{FieldValue, plain_value}
use Rattle.http_header.specs.HeaderMap.{Entries, append_all}
use Rattle.http_uri.specs.Uri.{HasParts}
use Rattle.http.specs.Request.{head_of, body_of}
use Rattle.http.specs.declared.request.Request.{Request}
use Rattle.http_body_util.specs.declared.full.Full.{Full}
use Rattle.webhook_request.specs.Requests.{HeaderField, name_text}
use Rattle.webhook_request.specs.Requests as relay

-- a header as `http` has it
abbrev pub field : HeaderField → List ℕ × FieldValue
field header = (name_text header.name, plain_value header.value)

-- the headers in their order, and no other
abbrev pub fields : List HeaderField → Entries FieldValue
fields headers = append_all [] (map field headers)

-- the body of these bytes, which is none where there are none
abbrev pub bytes_sent : List ℕ → Option (List ℕ)
bytes_sent bytes = if length bytes == 0 then None else Some bytes

-- What is handed to the connection is a POST, and says what the request of an attempt says: what it asks for, its
-- headers, the event's bytes.
pub record IsSentRequest (request : relay.Request) (sent : Request (Full (List ℕ))) : Type 0 where
  pub method : (head_of sent).method ≡ codes "POST"
  pub target : HasParts (head_of sent).uri None None request.target
  pub headers : (head_of sent).headers ≡ fields request.headers
  pub body : (body_of sent).buf ≡ bytes_sent request.body
