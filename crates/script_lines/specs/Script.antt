-- The lines of a script: which text is which call. A text that is none is a bad line. The grammar
-- is a relation by printing: a line is these words, with one space between.
use Rattle.std.specs.Prelude.{◌≡◌, ◌⊎◌, ℕ, ◌<◌, ◌≤◌, ◌^◌, Bool, true, false, ◌&&◌, List, [], ◌∷◌, length, IsTrue, codes}
use Rattle.std.specs.Prelude.{decimal}
use Rattle.relay_types.specs.Values.{Text, Seq, Seconds, is_name, is_msg_id, is_target, is_max_limit, is_body}
use Rattle.relay_types.specs.Values.{is_moment, is_between}
use Rattle.retry_table.specs.declared.post.PostResult.{PostResult}
use Rattle.retry_table.specs.declared.post.PostResult.TheVariants.{Answered, TimedOut, Unreached, Unsent}
use Rattle.text_lines.specs.Parts.{line, HasParts}
use Rattle.text_lines.specs.Words.{IsSecretsWord, IsBodyWord}
use Rattle.script_lines.specs.declared.call.Call.{Call}
use Rattle.script_lines.specs.declared.call.Call.TheVariants as on
use Rattle.script_lines.specs.declared.call.Line.{Line}
use Rattle.script_lines.specs.declared.call.Line.TheVariants as as_line

-- the words after the first one of a call
abbrev pub IsPut : (words : List Text) (name target : Text) (max : ℕ) (secrets : List Text) → Type 0
IsPut words name target max secrets = (word : List ℕ) × IsSecretsWord word secrets
    × (words ≡ name ∷ target ∷ decimal max ∷ word ∷ [])
    × IsTrue (is_name name && (is_target target && is_max_limit max))

abbrev pub IsSecrets : (words : List Text) (name : Text) (secrets : List Text) → Type 0
IsSecrets words name secrets = (word : List ℕ) × IsSecretsWord word secrets × (words ≡ name ∷ word ∷ [])
    × IsTrue (is_name name)

-- of a call that names an endpoint, and nothing else; and of one that also names a topic
abbrev pub IsNamed : (words : List Text) (name : Text) → Type 0
IsNamed words name = (words ≡ name ∷ []) × IsTrue (is_name name)

abbrev pub IsSubscribed : (words : List Text) (topic name : Text) → Type 0
IsSubscribed words topic name = (words ≡ topic ∷ name ∷ []) × IsTrue (is_name topic && is_name name)

abbrev pub IsTold : (words : List Text) (seq : Seq) → Type 0
IsTold words seq = (words ≡ decimal seq ∷ []) × (seq < 2 ^ 64)

-- of an event, for an endpoint or for a topic, whose names have one form
abbrev pub IsSubmit : (words : List Text) (now : Seconds) (name id body : Text) → Type 0
IsSubmit words now name id body = (word : List ℕ) × IsBodyWord word body × (words ≡ decimal now ∷ name ∷ id ∷ word ∷ [])
    × IsTrue (is_moment now && (is_name name && (is_msg_id id && is_body body)))

-- of a call that names a moment, and nothing else
abbrev pub IsMoment : (words : List Text) (now : Seconds) → Type 0
IsMoment words now = (words ≡ decimal now ∷ []) × IsTrue (is_moment now)

-- the words of a post's result; a round trip is in microseconds
abbrev pub IsResult : (words : List Text) → PostResult → Type 0
IsResult words (Answered status rtt) = (words ≡ decimal status ∷ decimal rtt ∷ []) × IsTrue (is_between 100 999 status)
    × (rtt < 2 ^ 63)
IsResult words (TimedOut rtt) = (words ≡ codes "timeout" ∷ decimal rtt ∷ []) × (rtt < 2 ^ 63)
IsResult words Unreached = words ≡ codes "unreached" ∷ []
IsResult words Unsent = words ≡ codes "unsent" ∷ []

abbrev pub IsSpend : (words : List Text) (delivery : Seq) (now : Seconds) (post : PostResult) → Type 0
IsSpend words delivery now post = (results : List Text) × IsResult results post
    × (words ≡ decimal delivery ∷ decimal now ∷ results)
    × (delivery < 2 ^ 64) × IsTrue (is_moment now)

abbrev pub IsShow : (words : List Text) (name id : Text) → Type 0
IsShow words name id = (words ≡ name ∷ id ∷ []) × IsTrue (is_name name && is_msg_id id)

-- the words aren't the arguments of such a call
abbrev pub AreArgumentsOfNoPut : List (List ℕ) → Type 0
AreArgumentsOfNoPut words = (name target : List ℕ) (max : ℕ) (secrets : List (List ℕ))
    → ¬ IsPut words name target max secrets

abbrev pub AreArgumentsOfNoSecrets : List (List ℕ) → Type 0
AreArgumentsOfNoSecrets words = (name : List ℕ) (secrets : List (List ℕ)) → ¬ IsSecrets words name secrets

abbrev pub AreArgumentsOfNoSubmit : List (List ℕ) → Type 0
AreArgumentsOfNoSubmit words = (now : ℕ) (name id body : List ℕ) → ¬ IsSubmit words now name id body

abbrev pub AreWordsOfNoResult : List (List ℕ) → Type 0
AreWordsOfNoResult words = (post : PostResult) → ¬ IsResult words post

abbrev pub AreArgumentsOfNoSpend : List (List ℕ) → Type 0
AreArgumentsOfNoSpend words = (delivery now : ℕ) (post : PostResult) → ¬ IsSpend words delivery now post

abbrev pub AreArgumentsOfNoName : List (List ℕ) → Type 0
AreArgumentsOfNoName words = (name : List ℕ) → ¬ IsNamed words name

abbrev pub AreArgumentsOfNoTopic : List (List ℕ) → Type 0
AreArgumentsOfNoTopic words = (topic name : List ℕ) → ¬ IsSubscribed words topic name

abbrev pub AreArgumentsOfNoEvent : List (List ℕ) → Type 0
AreArgumentsOfNoEvent words = (name id : List ℕ) → ¬ IsShow words name id

-- the words are the arguments of such a call
abbrev pub AreArgumentsOfPut : List (List ℕ) → Call → Type 0
AreArgumentsOfPut words (on.Put name target max secrets) = IsPut words name target max secrets
AreArgumentsOfPut words call = ⊥

abbrev pub AreArgumentsOfSecrets : List (List ℕ) → Call → Type 0
AreArgumentsOfSecrets words (on.Secrets name secrets) = IsSecrets words name secrets
AreArgumentsOfSecrets words call = ⊥

abbrev pub AreArgumentsOfSubscribed : List (List ℕ) → (flag : Bool) → Call → Type 0
AreArgumentsOfSubscribed words flag (on.Subscribed topic name set) = (set ≡ flag) × IsSubscribed words topic name
AreArgumentsOfSubscribed words flag call = ⊥

abbrev pub AreArgumentsOfSubmit : List (List ℕ) → Call → Type 0
AreArgumentsOfSubmit words (on.Submit now name id body) = IsSubmit words now name id body
AreArgumentsOfSubmit words call = ⊥

abbrev pub AreArgumentsOfPublish : List (List ℕ) → Call → Type 0
AreArgumentsOfPublish words (on.Publish now topic id body) = IsSubmit words now topic id body
AreArgumentsOfPublish words call = ⊥

abbrev pub AreArgumentsOfSpend : List (List ℕ) → Call → Type 0
AreArgumentsOfSpend words (on.Spend delivery now post) = IsSpend words delivery now post
AreArgumentsOfSpend words call = ⊥

abbrev pub AreArgumentsOfShow : List (List ℕ) → Call → Type 0
AreArgumentsOfShow words (on.ShowEndpoint name) = IsNamed words name
AreArgumentsOfShow words (on.Show name id) = IsShow words name id
AreArgumentsOfShow words call = ⊥

-- the first word of a call, and its arguments by the words after it
abbrev pub call_word : Call → List ℕ
call_word (on.Put name target max secrets) = codes "put"
call_word (on.Secrets name secrets) = codes "secrets"
call_word (on.Enabled name true) = codes "enable"
call_word (on.Enabled name false) = codes "disable"
call_word (on.Subscribed topic name true) = codes "subscribe"
call_word (on.Subscribed topic name false) = codes "unsubscribe"
call_word (on.Submit now name id body) = codes "submit"
call_word (on.Publish now topic id body) = codes "publish"
call_word (on.Purge before) = codes "purge"
call_word (on.Told seq) = codes "told"
call_word on.Seal = codes "seal"
call_word on.Commit = codes "commit"
call_word on.Settle = codes "settle"
call_word on.Unseal = codes "unseal"
call_word on.Halt = codes "halt"
call_word (on.Claim now) = codes "claim"
call_word (on.Spend delivery now post) = codes "spend"
call_word (on.Limits name) = codes "limits"
call_word (on.ShowEndpoint name) = codes "show"
call_word (on.Show name id) = codes "show"

abbrev pub AreArguments : List (List ℕ) → Call → Type 0
AreArguments words (on.Put name target max secrets) = IsPut words name target max secrets
AreArguments words (on.Secrets name secrets) = IsSecrets words name secrets
AreArguments words (on.Enabled name flag) = IsNamed words name
AreArguments words (on.Subscribed topic name flag) = IsSubscribed words topic name
AreArguments words (on.Submit now name id body) = IsSubmit words now name id body
AreArguments words (on.Publish now topic id body) = IsSubmit words now topic id body
AreArguments words (on.Purge before) = IsMoment words before
AreArguments words (on.Told seq) = IsTold words seq
AreArguments words on.Seal = words ≡ []
AreArguments words on.Commit = words ≡ []
AreArguments words on.Settle = words ≡ []
AreArguments words on.Unseal = words ≡ []
AreArguments words on.Halt = words ≡ []
AreArguments words (on.Claim now) = IsMoment words now
AreArguments words (on.Spend delivery now post) = IsSpend words delivery now post
AreArguments words (on.Limits name) = IsNamed words name
AreArguments words (on.ShowEndpoint name) = IsNamed words name
AreArguments words (on.Show name id) = IsShow words name id

-- A target and secrets are allocated once all words are read, and a body once the words before it
-- are. Other words aren't allocated.
abbrev pub MayAllocateForPut : List (List ℕ) → Type 0
MayAllocateForPut words = (name : List ℕ) × (target : List ℕ) × (max : ℕ) × (secrets : List (List ℕ))
    × IsPut words name target max secrets

abbrev pub MayAllocateForSecrets : List (List ℕ) → Type 0
MayAllocateForSecrets words = (name : List ℕ) × (secrets : List (List ℕ)) × IsSecrets words name secrets

abbrev pub MayAllocateForSubmit : List (List ℕ) → Type 0
MayAllocateForSubmit words = (now : ℕ) × (name id body : List ℕ) × (words ≡ decimal now ∷ name ∷ id ∷ body ∷ [])
    × IsTrue (is_moment now && (is_name name && is_msg_id id))

-- a first word, and those after it
abbrev pub MayAllocate : List ℕ → List (List ℕ) → Type 0
MayAllocate word words =
    ((word ≡ codes "put") × MayAllocateForPut words)
    ⊎ (((word ≡ codes "secrets") × MayAllocateForSecrets words)
    ⊎ (((word ≡ codes "submit") ⊎ (word ≡ codes "publish")) × MayAllocateForSubmit words))

-- the call has a target or a body, which several calls can share
abbrev pub HasShared : Call → Type 0
HasShared (on.Put name target max secrets) = Unit {0}
HasShared (on.Submit now name id body) = Unit {0}
HasShared (on.Publish now topic id body) = Unit {0}
HasShared call = ⊥

-- the words of a call
abbrev pub IsCall : List (List ℕ) → Call → Type 0
IsCall words call = (arguments : List (List ℕ)) × (words ≡ call_word call ∷ arguments) × AreArguments arguments call

-- the text has no more words than a call may have
abbrev pub HasFewWords : List ℕ → Type 0
HasFewWords text = (words : List (List ℕ)) × HasParts 32 text words × (length words ≤ 5)

-- a text is the call whose words it has
abbrev pub IsLineOfCall : List ℕ → Call → Type 0
IsLineOfCall text call = (words : List (List ℕ)) × (text ≡ line words) × IsCall words call

-- the text is this line
abbrev pub IsLine : List ℕ → Line → Type 0
IsLine text (as_line.Call call) = IsLineOfCall text call
IsLine text as_line.Stop = text ≡ codes "stop"

-- a law: a text is at most one line
abbrev pub HasOneLineAtMost : Type 0
HasOneLineAtMost = (text : List ℕ) (one other : Line) → IsLine text one → IsLine text other → one ≡ other
