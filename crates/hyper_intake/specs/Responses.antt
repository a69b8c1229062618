-- The response of a reply.
use Rattle.std.specs.Prelude.{◌≡◌, ◌⊎◌, ◌==◌, if◌then◌else◌, ℕ, Bool, List, [], ◌∷◌, Some, None, length, codes}
use Rattle.http_header.specs.FieldValue.{FieldValue, plain_value}
use Rattle.http_header.specs.HeaderMap.{Entries}
use Rattle.http.specs.StatusCode.{IsStatusCode}
use Rattle.http.specs.Response.{head_of, body_of}
use Rattle.http.specs.declared.response.Response.{Response}
use Rattle.http_body_util.specs.declared.full.Full.{Full}
use Rattle.intake_shed.specs.declared.reply.Reply.{Reply}
use Rattle.intake_shed.specs.Replies.{out_of_memory}

-- the headers: the type of the body, and when to come again
abbrev pub fields_of : (retry : Bool) → Entries FieldValue
fields_of retry =
    (codes "content-type", plain_value (codes "application/json") ∷ [])
    ∷ (if retry then (codes "retry-after", plain_value (codes "1") ∷ []) ∷ [] else [])

-- The response has the reply's status, these headers and no others, and the reply's body.
pub record IsResponseOf (reply : Reply) (response : Response (Full (List ℕ))) : Type 0 where
  pub status : IsStatusCode reply.status → (head_of response).status ≡ reply.status
  pub headers : (head_of response).headers ≡ fields_of reply.retry
  pub body : (body_of response).buf ≡ (if length reply.body == 0 then None else Some reply.body)

-- the response of a reply, or that memory lacks
abbrev pub Responds : Reply → Response (Full (List ℕ)) → Type 0
Responds reply response = IsResponseOf reply response ⊎ IsResponseOf out_of_memory response

-- The response has no field, and no body: the body came in a coding that isn't known (RFC 9110, section 15.6.2).
pub record IsNotImplemented (response : Response (Full (List ℕ))) : Type 0 where
  pub status : (head_of response).status ≡ 501
  pub headers : (head_of response).headers ≡ []
  pub body : (body_of response).buf ≡ None
