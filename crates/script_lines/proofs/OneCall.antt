-- A text is at most one line.
use Rattle.std.proofs.Common.{◌≡◌, ◌<◌, ◌^◌, ℕ, Bool, true, false, List, [], ◌∷◌, get_or, arith, codes, decimal, IsTrue}
use Rattle.std.proofs.Common.{refl, sym, ap, subst, lit<, ◌∙◌}
use Rattle.std.specs.Prelude.{◌&&◌, bytes_eq, nat_le}
use Rattle.std.proofs.lemmas.Bool.{and_parts}
use Rattle.std.proofs.lemmas.Fmt.{decimal_injective}
use Rattle.relay_types.specs.Values.{is_between, is_name, is_msg_id, is_target, is_max_limit, is_moment, is_body}
use Rattle.text_lines.specs.Words.{IsSecretsWord, IsBodyWord}
use Rattle.text_lines.proofs.CleanWords.{at_most}
use Rattle.text_lines.proofs.HexLaws.{one_body}
use Rattle.text_lines.proofs.WordLaws.{one_secrets}
use Rattle.std.specs.Str.{all_ascii_digits}
use Rattle.std.proofs.lemmas.Fmt.{digits_decimal}
use Rattle.std.proofs.lemmas.Str.Parse.{numerals_by_value, tells_all_ascii_digits}
use Rattle.text_lines.proofs.NumberLaws.{true_not_false}
use Rattle.retry_table.specs.declared.post.PostResult.{PostResult}
use Rattle.retry_table.specs.declared.post.PostResult.TheVariants.{Answered, TimedOut, Unreached, Unsent}
use Rattle.script_lines.specs.declared.call.Call.{Call}
use Rattle.script_lines.specs.declared.call.Call.TheVariants as on
use Rattle.script_lines.specs.declared.call.Line.{Line}
use Rattle.script_lines.specs.declared.call.Line.TheVariants as as_line
use Rattle.script_lines.specs.Script.{IsPut, IsSecrets, IsNamed, IsSubscribed, IsTold, IsSubmit, IsMoment, IsResult}
use Rattle.script_lines.specs.Script.{IsSpend, IsShow, call_word, AreArguments, IsCall, IsLineOfCall, IsLine}
use Rattle.script_lines.specs.Script.{HasOneLineAtMost}
use Rattle.script_lines.proofs.CallLaws.{only_put, only_secrets, only_enable, only_disable, only_submit, only_publish}
use Rattle.script_lines.proofs.CallLaws.{only_purge, only_told}
use Rattle.script_lines.proofs.CallLaws.{only_claim, only_spend, only_limits, only_show, only_seal, only_commit}
use Rattle.script_lines.proofs.CallLaws.{only_settle, only_unseal, only_halt, only_subscribe, only_unsubscribe}
use Rattle.script_lines.proofs.CleanCalls.{the_call, parts_of_call}

same_put : (words : List (List ℕ)) (name target : List ℕ) (max : ℕ) (secrets : List (List ℕ)) (name' target' : List ℕ)
    (max' : ℕ) (secrets' : List (List ℕ)) → IsPut words name target max secrets
    → IsPut words name' target' max' secrets' → on.Put name target max secrets ≡ on.Put name' target' max' secrets'
same_put words name target max secrets name' target' max' secrets' (word, reads, e, valid) (word', reads', e', valid') =
    let names : name ≡ name' = cc in
    let targets : target ≡ target' = cc in
    let maxima : max ≡ max' = decimal_injective max max' (small name target max valid) (small name' target' max' valid')
    (cc) in
    let written : word' ≡ word = cc in
    let all : secrets ≡ secrets' = one_secrets word secrets secrets' reads
    (subst (λ w. IsSecretsWord w secrets') written reads') in
    λ i. on.Put (names i) (targets i) (maxima i) (all i)
  where
    small : (name target : List ℕ) (max : ℕ) → IsTrue (is_name name && (is_target target && is_max_limit max))
        → max < 2 ^ 64
    small name target max valid =
        let limit = and_parts (is_target target) (is_max_limit max)
        (and_parts (is_name name) (is_target target && is_max_limit max) valid).1 in
        at_most max 1000 (and_parts (nat_le 1 max) (nat_le max 1000) limit.1).1 (lit< tt)

-- an event's arguments make one call, whichever word is before them
same_event : (make : ℕ → List ℕ → List ℕ → List ℕ → Call) (words : List (List ℕ)) (now : ℕ) (name id body : List ℕ)
    (now' : ℕ) (name' id' body' : List ℕ)
    → IsSubmit words now name id body → IsSubmit words now' name' id' body' → make now name id body
    ≡ make now' name' id' body'
same_event make words now name id body now' name' id' body' (word, reads, e, valid) (word', reads', e', valid') =
    let moments : now ≡ now' = decimal_injective now now' (small now name id body valid)
    (small now' name' id' body' valid') (cc) in
    let names : name ≡ name' = cc in
    let ids : id ≡ id' = cc in
    let written : word' ≡ word = cc in
    let bodies : body ≡ body' = one_body word body body' reads (subst (λ w. IsBodyWord w body') written reads') in
    λ i. make (moments i) (names i) (ids i) (bodies i)
  where
    small : (now : ℕ) (name id body : List ℕ)
        → IsTrue (is_moment now && (is_name name && (is_msg_id id && is_body body))) → now < 2 ^ 64
    small now name id body valid = at_most now (2 ^ 40)
        (and_parts (is_moment now) (is_name name && (is_msg_id id && is_body body)) valid).0 (lit< tt)

same_show : (words : List (List ℕ)) (name id name' id' : List ℕ) → IsShow words name id → IsShow words name' id'
    → on.Show name id ≡ on.Show name' id'
same_show words name id name' id' (e, valid) (e', valid') =
    let names : name ≡ name' = cc in
    let ids : id ≡ id' = cc in
    λ i. on.Show (names i) (ids i)

same_pair : (words : List (List ℕ)) (topic name topic' name' : List ℕ) (flag : Bool) → IsSubscribed words topic name
    → IsSubscribed words topic' name'
    → on.Subscribed topic name flag ≡ on.Subscribed topic' name' flag
same_pair words topic name topic' name' flag (e, valid) (e', valid') =
    let topics : topic ≡ topic' = cc in
    let names : name ≡ name' = cc in
    λ i. on.Subscribed (topics i) (names i) flag

same_secrets : (words : List (List ℕ)) (name : List ℕ) (secrets : List (List ℕ)) (name' : List ℕ)
    (secrets' : List (List ℕ)) → IsSecrets words name secrets → IsSecrets words name' secrets'
    → on.Secrets name secrets ≡ on.Secrets name' secrets'
same_secrets words name secrets name' secrets' (word, reads, e, valid) (word', reads', e', valid') =
    let names : name ≡ name' = cc in
    let written : word' ≡ word = cc in
    let all : secrets ≡ secrets' = one_secrets word secrets secrets' reads
    (subst (λ w. IsSecretsWord w secrets') written reads') in
    λ i. on.Secrets (names i) (all i)

same_name : (words : List (List ℕ)) (name name' : List ℕ) → IsNamed words name → IsNamed words name' → name ≡ name'
same_name words name name' (e, valid) (e', valid') = cc

same_seq : (words : List (List ℕ)) (seq seq' : ℕ) → IsTold words seq → IsTold words seq' → seq ≡ seq'
same_seq words seq seq' (e, small) (e', small') = decimal_injective seq seq' small small' (cc)

same_moment : (words : List (List ℕ)) (now now' : ℕ) → IsMoment words now → IsMoment words now' → now ≡ now'
same_moment words now now' (e, valid) (e', valid') =
    decimal_injective now now' (at_most now (2 ^ 40) valid (lit< tt)) (at_most now' (2 ^ 40) valid' (lit< tt)) (cc)

-- no number is a word of letters
no_number : (n : ℕ) → n < 2 ^ 64 → decimal n ≡ codes "timeout" → ⊥
no_number n small e =
    true_not_false (sym (subst (λ (ds : List ℕ). all_ascii_digits ds ≡ true) e
    (digits_decimal (numerals_by_value (λ ds. all_ascii_digits ds ≡ true) tells_all_ascii_digits) n small)))

below : (n k : ℕ) → n < k → k < 2 ^ 64 → n < 2 ^ 64
below n k h small = omega (arith, h, small)

status_small : (status : ℕ) → IsTrue (is_between 100 999 status) → status < 2 ^ 64
status_small status valid = at_most status 999 (and_parts (nat_le 100 status) (nat_le status 999) valid).1 (lit< tt)

same_rtt : (rtt rtt' : ℕ) → rtt < 2 ^ 63 → rtt' < 2 ^ 63 → decimal rtt ≡ decimal rtt' → rtt ≡ rtt'
same_rtt rtt rtt' small small' e = decimal_injective rtt rtt' (below rtt (2 ^ 63) small (lit< tt))
    (below rtt' (2 ^ 63) small' (lit< tt)) e

same_result : (words : List (List ℕ)) (post post' : PostResult) → IsResult words post → IsResult words post'
    → post ≡ post'
same_result words (Answered status rtt) (Answered status' rtt') (e, valid, small) (e', valid', small') =
    let statuses : status ≡ status' = decimal_injective status status' (status_small status valid)
    (status_small status' valid') (cc) in
    let trips : rtt ≡ rtt' = same_rtt rtt rtt' small small' (cc) in
    λ i. Answered (statuses i) (trips i)
same_result words (TimedOut rtt) (TimedOut rtt') (e, small) (e', small') = ap TimedOut
    (same_rtt rtt rtt' small small' (cc))
same_result words (Answered status rtt) (TimedOut rtt') (e, valid, small) (e', small') = absurd
    (no_number status (status_small status valid) (cc))
same_result words (TimedOut rtt) (Answered status' rtt') (e, small) (e', valid', small') = absurd
    (no_number status' (status_small status' valid') (cc))
same_result words Unreached Unreached e e' = refl
same_result words Unsent Unsent e e' = refl
same_result words Unreached Unsent e e' = absurd (unsent_or_unreached words e e')
  where
    unsent_or_unreached : (words : List (List ℕ)) → words ≡ codes "unreached" ∷ [] → words ≡ codes "unsent" ∷ [] → ⊥
    unsent_or_unreached words e e' = cc
same_result words Unsent Unreached e e' = absurd (unreached_or_unsent words e e')
  where
    unreached_or_unsent : (words : List (List ℕ)) → words ≡ codes "unsent" ∷ [] → words ≡ codes "unreached" ∷ [] → ⊥
    unreached_or_unsent words e e' = cc
same_result words (Answered status rtt) Unreached (e, valid, small) e' = cc
same_result words (Answered status rtt) Unsent (e, valid, small) e' = cc
same_result words (TimedOut rtt) Unreached (e, small) e' = cc
same_result words (TimedOut rtt) Unsent (e, small) e' = cc
same_result words Unreached (Answered status rtt) e (e', valid, small) = cc
same_result words Unreached (TimedOut rtt) e (e', small) = cc
same_result words Unsent (Answered status rtt) e (e', valid, small) = cc
same_result words Unsent (TimedOut rtt) e (e', small) = cc

same_spend : (words : List (List ℕ)) (delivery now : ℕ) (post : PostResult) (delivery' now' : ℕ) (post' : PostResult)
    → IsSpend words delivery now post → IsSpend words delivery' now' post'
    → on.Spend delivery now post ≡ on.Spend delivery' now' post'
same_spend words delivery now post delivery' now' post' (results, told, e, small, valid)
    (results', told', e', small', valid') =
    let deliveries : delivery ≡ delivery' = decimal_injective delivery delivery' small small' (cc) in
    let moments : now ≡ now' = decimal_injective now now' (at_most now (2 ^ 40) valid (lit< tt))
    (at_most now' (2 ^ 40) valid' (lit< tt)) (cc) in
    let others : results' ≡ results = cc in
    let posts : post ≡ post' = same_result results post post' told (subst (λ xs. IsResult xs post') others told') in
    λ i. on.Spend (deliveries i) (moments i) (posts i)

-- one word is not two
name_or_event : (words : List (List ℕ)) (name name' id : List ℕ) → IsNamed words name → IsShow words name' id → ⊥
name_or_event words name name' id (e, valid) (e', valid') = cc

-- one word and the words after it are those of at most one call
same_arguments_of : (words : List (List ℕ)) (a b : Call) → call_word a ≡ call_word b → AreArguments words a
    → AreArguments words b → a ≡ b
same_arguments_of words (on.Put name target max secrets) b e h =
    only_put (λ call. on.Put name target max secrets ≡ call) (codes "put") words refl
    (λ name' target' max' secrets' k. same_put words name target max secrets name' target' max' secrets' h k) b e
same_arguments_of words (on.Secrets name secrets) b e h =
    only_secrets (λ call. on.Secrets name secrets ≡ call) (codes "secrets") words refl
    (λ name' secrets' k. same_secrets words name secrets name' secrets' h k) b e
same_arguments_of words (on.Enabled name true) b e h =
    only_enable (λ call. on.Enabled name true ≡ call) (codes "enable") words refl
    (λ name' k. ap (λ n. on.Enabled n true) (same_name words name name' h k)) b e
same_arguments_of words (on.Enabled name false) b e h =
    only_disable (λ call. on.Enabled name false ≡ call) (codes "disable") words refl
    (λ name' k. ap (λ n. on.Enabled n false) (same_name words name name' h k)) b e
same_arguments_of words (on.Subscribed topic name true) b e h =
    only_subscribe (λ call. on.Subscribed topic name true ≡ call) (codes "subscribe") words refl
    (λ topic' name' k. same_pair words topic name topic' name' true h k) b e
same_arguments_of words (on.Subscribed topic name false) b e h =
    only_unsubscribe (λ call. on.Subscribed topic name false ≡ call) (codes "unsubscribe") words refl
    (λ topic' name' k. same_pair words topic name topic' name' false h k) b e
same_arguments_of words (on.Submit now name id body) b e h =
    only_submit (λ call. on.Submit now name id body ≡ call) (codes "submit") words refl
    (λ now' name' id' body' k. same_event on.Submit words now name id body now' name' id' body' h k) b e
same_arguments_of words (on.Publish now topic id body) b e h =
    only_publish (λ call. on.Publish now topic id body ≡ call) (codes "publish") words refl
    (λ now' topic' id' body' k. same_event on.Publish words now topic id body now' topic' id' body' h k) b e
same_arguments_of words (on.Purge before) b e h =
    only_purge (λ call. on.Purge before ≡ call) (codes "purge") words refl
    (λ before' k. ap on.Purge (same_moment words before before' h k)) b e
same_arguments_of words (on.Told seq) b e h =
    only_told (λ call. on.Told seq ≡ call) (codes "told") words refl
    (λ seq' k. ap on.Told (same_seq words seq seq' h k)) b e
same_arguments_of words on.Seal b e h = only_seal (λ call. on.Seal ≡ call) (codes "seal") words refl (λ none. refl) b e
same_arguments_of words on.Commit b e h = only_commit (λ call. on.Commit ≡ call) (codes "commit") words refl
    (λ none. refl) b e
same_arguments_of words on.Settle b e h = only_settle (λ call. on.Settle ≡ call) (codes "settle") words refl
    (λ none. refl) b e
same_arguments_of words on.Unseal b e h = only_unseal (λ call. on.Unseal ≡ call) (codes "unseal") words refl
    (λ none. refl) b e
same_arguments_of words on.Halt b e h = only_halt (λ call. on.Halt ≡ call) (codes "halt") words refl (λ none. refl) b e
same_arguments_of words (on.Claim now) b e h =
    only_claim (λ call. on.Claim now ≡ call) (codes "claim") words refl
    (λ now' k. ap on.Claim (same_moment words now now' h k)) b e
same_arguments_of words (on.Spend delivery now post) b e h =
    only_spend (λ call. on.Spend delivery now post ≡ call) (codes "spend") words refl
    (λ delivery' now' post' k. same_spend words delivery now post delivery' now' post' h k) b e
same_arguments_of words (on.Limits name) b e h =
    only_limits (λ call. on.Limits name ≡ call) (codes "limits") words refl
    (λ name' k. ap on.Limits (same_name words name name' h k)) b e
same_arguments_of words (on.ShowEndpoint name) b e h =
    only_show (λ call. on.ShowEndpoint name ≡ call) (codes "show") words refl
    (λ name' k. ap on.ShowEndpoint (same_name words name name' h k))
    (λ name' id k. absurd (name_or_event words name name' id h k)) b e
same_arguments_of words (on.Show name id) b e h =
    only_show (λ call. on.Show name id ≡ call) (codes "show") words refl
    (λ name' k. absurd (name_or_event words name' name id k h))
    (λ name' id' k. same_show words name id name' id' h k) b e

same_call : (words : List (List ℕ)) (a b : Call) → IsCall words a → IsCall words b → a ≡ b
same_call words a b (behind, e, h) (behind', e', h') =
    let first : call_word a ≡ call_word b = cc in
    let others : behind' ≡ behind = cc in
    same_arguments_of behind a b first h (subst (λ xs. AreArguments xs b) others h')

one_call : (text : List ℕ) (a b : Call) → IsLineOfCall text a → IsLineOfCall text b → a ≡ b
one_call text a b (words, e, call) other = same_call words a b call
    (the_call text words b (parts_of_call text words a e call) other)

-- no call has the word of a stop
other_word : (call : Call) → bytes_eq (call_word call) (codes "stop") ≡ false
other_word (on.Enabled name true) = refl
other_word (on.Enabled name false) = refl
other_word (on.Subscribed topic name true) = refl
other_word (on.Subscribed topic name false) = refl
other_word call = refl

pub stop_is_no_call : (call : Call) → IsLineOfCall (codes "stop") call → ⊥
stop_is_no_call call reads =
    let (arguments, is, told) = the_call (codes "stop") (codes "stop" ∷ []) call (refl, (λ none. cc), refl) reads in
    let word : codes "stop" ≡ call_word call = ap (λ (ws : List (List ℕ)). get_or ws 0 []) is in
    absurd (let no : true ≡ false = ap (λ w. bytes_eq w (codes "stop")) word ∙ other_word call in cc)

pub no_line : (text : List ℕ) → ((call : Call) → IsLineOfCall text call → ⊥) → (text ≡ codes "stop" → ⊥) → (line : Line)
    → IsLine text line → ⊥
no_line text calls stop (as_line.Call call) h = calls call h
no_line text calls stop as_line.Stop h = stop h

pub one_line_at_most : HasOneLineAtMost
one_line_at_most text (as_line.Call a) (as_line.Call b) one other = ap as_line.Call (one_call text a b one other)
one_line_at_most text (as_line.Call a) as_line.Stop one other = absurd
    (stop_is_no_call a (subst (λ t. IsLineOfCall t a) other one))
one_line_at_most text as_line.Stop (as_line.Call b) one other = absurd
    (stop_is_no_call b (subst (λ t. IsLineOfCall t b) one other))
one_line_at_most text as_line.Stop as_line.Stop one other = refl
