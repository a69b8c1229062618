-- The request of a post to a subscriber.
use Rattle.std.specs.Prelude.{ℕ, Bool, ◌||◌, List, [], ◌∷◌, ◌++◌, length, codes, decimal}
use Rattle.std.specs.List.{list_all}
use Rattle.relay_types.specs.Values.{Text, Seconds, is_between, is_lower, is_one_of, is_text}
use Rattle.relay_types.specs.Values.{authority_of, host_of, port_of, path_of}
use Rattle.hmac_signer.specs.Signature.{signature_header}
use Rattle.webhook_request.specs.declared.header.HeaderName.{HeaderName}
use Rattle.webhook_request.specs.declared.header.HeaderName.TheVariants.{Host, UserAgent, ContentType, ContentLength}
use Rattle.webhook_request.specs.declared.header.HeaderName.TheVariants.{Connection}
use Rattle.webhook_request.specs.declared.header.HeaderName.TheVariants.{WebhookId, WebhookTimestamp, WebhookSignature}

-- a header: which one, and its value
pub record HeaderField : Type 0 where
  pub name : HeaderName
  pub value : Text

-- a header's name, in lower case
abbrev pub name_text : HeaderName → Text
name_text Host = codes "host"
name_text UserAgent = codes "user-agent"
name_text ContentType = codes "content-type"
name_text ContentLength = codes "content-length"
name_text Connection = codes "connection"
name_text WebhookId = codes "webhook-id"
name_text WebhookTimestamp = codes "webhook-timestamp"
name_text WebhookSignature = codes "webhook-signature"

abbrev pub header : (name : HeaderName) (value : Text) → HeaderField
header name value = record { name = name; value = value }

-- 1 to 32 characters of `a-z` and `-`
abbrev pub is_token : Text → Bool
is_token text = is_text 1 32 (λ c. is_lower c || is_one_of (codes "-") c) text

-- visible characters of ASCII, and spaces
abbrev pub is_printable : Text → Bool
is_printable text = list_all (is_between 32 126) text

-- where a request is sent, and what it says
pub record Request : Type 0 where
  pub host : Text
  pub port : ℕ
  pub method : Text
  pub target : Text
  pub headers : List HeaderField
  pub body : Text

-- the subscriber's host and port as they are written, who posts, what the body is, and that no other request follows
abbrev pub connection_headers : (target body : Text) → List HeaderField
connection_headers target body =
    header Host (authority_of target)
    ∷ header UserAgent (codes "relayd/1")
    ∷ header ContentType (codes "application/json")
    ∷ header ContentLength (decimal (length body))
    ∷ header Connection (codes "close")
    ∷ []

-- the headers of Standard Webhooks 1.0.0
abbrev pub webhook_headers : (id : Text) (at : Seconds) (signature : Text) → List HeaderField
webhook_headers id at signature =
    header WebhookId id ∷ header WebhookTimestamp (decimal at) ∷ header WebhookSignature signature ∷ []

abbrev pub headers_of : (target : Text) (secrets : List Text) (id : Text) (at : Seconds) (body : Text)
    → List HeaderField
headers_of target secrets id at body =
    connection_headers target body ++ webhook_headers id at (signature_header secrets id at body)

-- the request of an attempt
abbrev pub request_of : (target : Text) (secrets : List Text) (id : Text) (at : Seconds) (body : Text) → Request
request_of target secrets id at body = record {
  host = host_of target;
  port = port_of target;
  method = codes "POST";
  target = path_of target;
  headers = headers_of target secrets id at body;
  body = body;
}
