-- A request asks for at most one thing or fails one check, and not both.
use Rattle.std.proofs.Common.{◌≡◌, ◌≢◌, ℕ, Bool, true, false, List, [], ◌∷◌, Err, IsTrue, ◌&&◌, ◌⊎◌, inl, inr, codes}
use Rattle.std.proofs.Common.{refl, sym, ap, ◌∙◌, subst}
use Rattle.std.specs.List.{join_with_byte}
use Rattle.std.proofs.lemmas.Bool.{and_parts}
use Rattle.text_lines.specs.Words.{AreSecretTexts}
use Rattle.text_lines.proofs.NumberLaws.{true_not_false, some_equal}
use Rattle.text_lines.proofs.WordLaws.{one_secrets}
use Rattle.serde_json.specs.Data.{Num, unsigned, Data, boolean, number, string, array}
use Rattle.relay_types.specs.Values.{Text, is_target, is_max_limit, is_moment}
use Rattle.desk.specs.declared.command.Command.TheVariants as change
use Rattle.intake_shed.specs.Bodies.{IsJson, HasPutMembers, HasSecrets, HasFlag, HasBefore, strings, is_before, is_max}
use Rattle.intake_shed.specs.Bodies.{AreNoSecrets, SaysCommand, IsBadMember, IsBadPut, IsBadSecrets, IsBadFlag}
use Rattle.intake_shed.specs.Bodies.{IsBadBefore}
use Rattle.intake_shed.specs.Bodies.{IsBadByValue}
use Rattle.intake_shed.specs.RouteTable.{RouteValue, Put, SetSecrets, SetEnabled, SetSubscribed, Submit, Publish}
use Rattle.intake_shed.specs.RouteTable.{Retention}
use Rattle.intake_shed.specs.RouteTable.{Totals, Endpoint, Event, before_query, has_name}
use Rattle.intake_shed.specs.Replies.{ask_reply, out_of_memory}
use Rattle.intake_shed.specs.Requests.{IsOnRoute, AsksFor, AgreesWithBody, IsBadBody, FailsOnRoute, IsRefusedFor}
use Rattle.intake_shed.specs.Requests.{IsNotReadFor, IsReadAs}
use Rattle.intake_shed.specs.Requests.{IsRefusedWith, route_of_asked, is_within_limit, has_id, passes_checks, bytes_of}
use Rattle.intake_shed.specs.declared.ask.Ask.{Ask}
use Rattle.intake_shed.specs.declared.ask.Asked.{Asked}
use Rattle.intake_shed.specs.declared.ask.Asked.TheVariants as asked
use Rattle.intake_shed.specs.declared.fault.RequestError.{RequestError}
use Rattle.intake_shed.specs.declared.fault.RequestError.TheVariants as fault
use Rattle.intake_shed.specs.declared.reply.Reply.{Reply}
use Rattle.intake_shed.proofs.OneRoute.{one_route}

-- ---- a body has one value, and one member of each name

one_value : (body : Text) (a b : Data) → IsJson body a → IsJson body b → a ≡ b
one_value body a b h k = some_equal (sym h.1 ∙ k.1)

same_string : (a b : Text) → string a ≡ string b → a ≡ b
same_string a b e = cc

same_number : (a b : Num) → number a ≡ number b → a ≡ b
same_number a b e = cc

same_strings : (a b : List Text) → strings a ≡ strings b → a ≡ b
same_strings [] [] e = refl
same_strings [] (y ∷ b) e = cc
same_strings (x ∷ a) [] e = cc
same_strings (x ∷ a) (y ∷ b) e =
    let head : x ≡ y = cc in
    let tail : strings a ≡ strings b = cc in
    let rest = same_strings a b tail in
    cc

same_array : (a b : List Text) → array (strings a) ≡ array (strings b) → a ≡ b
same_array a b e =
    let items : strings a ≡ strings b = cc in
    same_strings a b items

one_list : (value : Data) (a b : List Text) → HasSecrets value a → HasSecrets value b → a ≡ b
one_list value a b h k = same_array a b (some_equal (sym h ∙ k))

one_flag : (value : Data) (name : Text) (a b : Bool) → HasFlag value name a → HasFlag value name b → a ≡ b
one_flag value name a b h k =
    let same : boolean a ≡ boolean b = some_equal (sym h ∙ k) in
    cc

one_before : (value : Data) (a b : Num) → HasBefore value a → HasBefore value b → a ≡ b
one_before value a b h k = same_number a b (some_equal (sym h ∙ k))

one_url : (value : Data) (url url' : Text) (max max' : Num) (list list' : List Text)
    → HasPutMembers value url max list → HasPutMembers value url' max' list' → url ≡ url'
one_url value url url' max max' list list' h k = same_string url url' (some_equal (sym h.of_url ∙ k.of_url))

one_max : (value : Data) (url url' : Text) (max max' : Num) (list list' : List Text)
    → HasPutMembers value url max list → HasPutMembers value url' max' list' → max ≡ max'
one_max value url url' max max' list list' h k = same_number max max' (some_equal (sym h.of_max ∙ k.of_max))

one_texts : (value : Data) (url url' : Text) (max max' : Num) (list list' : List Text)
    → HasPutMembers value url max list → HasPutMembers value url' max' list' → list ≡ list'
one_texts value url url' max max' list list' h k = one_list value list list' h.of_secrets k.of_secrets

one_secrets_list : (texts a b : List Text) → AreSecretTexts texts a → AreSecretTexts texts b → a ≡ b
one_secrets_list texts a b h k = one_secrets (join_with_byte 44 texts) a b (texts, refl, h) (texts, refl, k)

-- ---- a body fails one check

not_both : (b : Bool) → IsTrue b → b ≡ false → ⊥
not_both b holds fails = true_not_false (sym holds ∙ fails)

-- the first bad member
one_bad_member : (url : Text) (max : Num) (list : List Text) (a b : RequestError) → a ≢ fault.OutOfMemory
    → b ≢ fault.OutOfMemory
    → IsBadMember url max list a → IsBadMember url max list b → a ≡ b
one_bad_member url max list fault.NotFound b m n h k = absurd h
one_bad_member url max list fault.BadName b m n h k = absurd h
one_bad_member url max list fault.TooLong b m n h k = absurd h
one_bad_member url max list fault.BadId b m n h k = absurd h
one_bad_member url max list fault.BadBody b m n h k = absurd h
one_bad_member url max list fault.BadUrl fault.NotFound m n h k = absurd k
one_bad_member url max list fault.BadUrl fault.BadName m n h k = absurd k
one_bad_member url max list fault.BadUrl fault.TooLong m n h k = absurd k
one_bad_member url max list fault.BadUrl fault.BadId m n h k = absurd k
one_bad_member url max list fault.BadUrl fault.BadBody m n h k = absurd k
one_bad_member url max list fault.BadUrl fault.BadUrl m n h k = refl
one_bad_member url max list fault.BadUrl fault.BadMax m n h k = absurd (not_both _ k.0 h)
one_bad_member url max list fault.BadUrl fault.BadSecret m n h k = absurd
    (not_both _ (and_parts (is_target url) (is_max max) k.0).0 h)
one_bad_member url max list fault.BadUrl fault.BadMoment m n h k = absurd k
one_bad_member url max list fault.BadUrl fault.OutOfMemory m n h k = absurd (n refl)
one_bad_member url max list fault.BadMax fault.NotFound m n h k = absurd k
one_bad_member url max list fault.BadMax fault.BadName m n h k = absurd k
one_bad_member url max list fault.BadMax fault.TooLong m n h k = absurd k
one_bad_member url max list fault.BadMax fault.BadId m n h k = absurd k
one_bad_member url max list fault.BadMax fault.BadBody m n h k = absurd k
one_bad_member url max list fault.BadMax fault.BadUrl m n h k = absurd (not_both _ h.0 k)
one_bad_member url max list fault.BadMax fault.BadMax m n h k = refl
one_bad_member url max list fault.BadMax fault.BadSecret m n h k = absurd
    (not_both _ (and_parts (is_target url) (is_max max) k.0).1 h.1)
one_bad_member url max list fault.BadMax fault.BadMoment m n h k = absurd k
one_bad_member url max list fault.BadMax fault.OutOfMemory m n h k = absurd (n refl)
one_bad_member url max list fault.BadSecret fault.NotFound m n h k = absurd k
one_bad_member url max list fault.BadSecret fault.BadName m n h k = absurd k
one_bad_member url max list fault.BadSecret fault.TooLong m n h k = absurd k
one_bad_member url max list fault.BadSecret fault.BadId m n h k = absurd k
one_bad_member url max list fault.BadSecret fault.BadBody m n h k = absurd k
one_bad_member url max list fault.BadSecret fault.BadUrl m n h k = absurd
    (not_both _ (and_parts (is_target url) (is_max max) h.0).0 k)
one_bad_member url max list fault.BadSecret fault.BadMax m n h k = absurd
    (not_both _ (and_parts (is_target url) (is_max max) h.0).1 k.1)
one_bad_member url max list fault.BadSecret fault.BadSecret m n h k = refl
one_bad_member url max list fault.BadSecret fault.BadMoment m n h k = absurd k
one_bad_member url max list fault.BadSecret fault.OutOfMemory m n h k = absurd (n refl)
one_bad_member url max list fault.BadMoment b m n h k = absurd h
one_bad_member url max list fault.OutOfMemory b m n h k = absurd (m refl)

-- members that are good
good_members : (url : Text) (max : Num) (list secrets : List Text) (why : RequestError) → why ≢ fault.OutOfMemory
    → IsTrue (is_target url && is_max max) → AreSecretTexts list secrets → IsBadMember url max list why → ⊥
good_members url max list secrets fault.NotFound m good are h = h
good_members url max list secrets fault.BadName m good are h = h
good_members url max list secrets fault.TooLong m good are h = h
good_members url max list secrets fault.BadId m good are h = h
good_members url max list secrets fault.BadBody m good are h = h
good_members url max list secrets fault.BadUrl m good are h = not_both _ (and_parts (is_target url) (is_max max) good).0
    h
good_members url max list secrets fault.BadMax m good are h = not_both _ (and_parts (is_target url) (is_max max) good).1
    h.1
good_members url max list secrets fault.BadSecret m good are h = h.1 secrets are
good_members url max list secrets fault.BadMoment m good are h = h
good_members url max list secrets fault.OutOfMemory m good are h = m refl

-- the body of a new endpoint lacks a member, or has a bad one
abbrev LacksPut : (body : Text) → Type 0
LacksPut body = (value : Data) → IsJson body value → (url : Text) (max : Num) (list : List Text)
    → ¬ HasPutMembers value url max list

abbrev HasBadMembers : (value : Data) → RequestError → Type 0
HasBadMembers value why = (url : Text) × (max : Num) × (list : List Text) × HasPutMembers value url max list
    × IsBadMember url max list why

abbrev HasBadPut : (body : Text) → RequestError → Type 0
HasBadPut body why = (value : Data) × IsJson body value × HasBadMembers value why

put_stage : (body : Text) (why : RequestError) → why ≢ fault.OutOfMemory → IsBadByValue IsBadPut body why
    → ((why ≡ fault.BadBody) × LacksPut body) ⊎ HasBadPut body why
put_stage body fault.NotFound m h = inr h
put_stage body fault.BadName m h = inr h
put_stage body fault.TooLong m h = inr h
put_stage body fault.BadId m h = inr h
put_stage body fault.BadBody m h = inl (refl, h)
put_stage body fault.BadUrl m h = inr h
put_stage body fault.BadMax m h = inr h
put_stage body fault.BadSecret m h = inr h
put_stage body fault.BadMoment m h = inr h
put_stage body fault.OutOfMemory m h = absurd (m refl)

same_bad_put : (body : Text) (a b : RequestError) → a ≢ fault.OutOfMemory → b ≢ fault.OutOfMemory → HasBadPut body a
    → HasBadPut body b → a ≡ b
same_bad_put body a b m n (v, json, (url, max, list, members, bad)) (v', json', (url', max', list', members', bad')) =
    let value : v' ≡ v = one_value body v' v json' json in
    let moved : HasPutMembers v url' max' list' = subst (λ x. HasPutMembers x url' max' list') value members' in
    let of_url = one_url v url' url max' max list' list moved members in
    let of_max = one_max v url' url max' max list' list moved members in
    let of_list = one_texts v url' url max' max list' list moved members in
    one_bad_member url max list a b m n bad
    (subst (λ x. IsBadMember x max list b) of_url
    (subst (λ x. IsBadMember url' x list b) of_max (subst (λ x. IsBadMember url' max' x b) of_list bad')))

one_put_fault : (body : Text) (a b : RequestError) → a ≢ fault.OutOfMemory → b ≢ fault.OutOfMemory
    → ((a ≡ fault.BadBody) × LacksPut body) ⊎ HasBadPut body a → ((b ≡ fault.BadBody) × LacksPut body)
    ⊎ HasBadPut body b → a ≡ b
one_put_fault body a b m n (inl (e, lacks)) (inl (f, none)) = e ∙ sym f
one_put_fault body a b m n (inl (e, lacks)) (inr (v, json, (url, max, list, members, bad))) = absurd
    (lacks v json url max list members)
one_put_fault body a b m n (inr (v, json, (url, max, list, members, bad))) (inl (f, lacks)) = absurd
    (lacks v json url max list members)
one_put_fault body a b m n (inr h) (inr k) = same_bad_put body a b m n h k

-- the body of other secrets lacks them, or has bad ones
abbrev LacksList : (body : Text) → Type 0
LacksList body = (value : Data) → IsJson body value → (list : List Text) → ¬ HasSecrets value list

abbrev HasBadTexts : (value : Data) → Type 0
HasBadTexts value = (list : List Text) × HasSecrets value list × AreNoSecrets list

abbrev HasBadList : (body : Text) → Type 0
HasBadList body = (value : Data) × IsJson body value × HasBadTexts value

secrets_stage : (body : Text) (why : RequestError) → why ≢ fault.OutOfMemory → IsBadByValue IsBadSecrets body why
    → ((why ≡ fault.BadBody) × LacksList body) ⊎ ((why ≡ fault.BadSecret) × HasBadList body)
secrets_stage body fault.NotFound m h = absurd h.2
secrets_stage body fault.BadName m h = absurd h.2
secrets_stage body fault.TooLong m h = absurd h.2
secrets_stage body fault.BadId m h = absurd h.2
secrets_stage body fault.BadBody m h = inl (refl, h)
secrets_stage body fault.BadUrl m h = absurd h.2
secrets_stage body fault.BadMax m h = absurd h.2
secrets_stage body fault.BadSecret m h = inr (refl, h)
secrets_stage body fault.BadMoment m h = absurd h.2
secrets_stage body fault.OutOfMemory m h = absurd (m refl)

one_secrets_fault : (body : Text) (a b : RequestError) → ((a ≡ fault.BadBody) × LacksList body)
    ⊎ ((a ≡ fault.BadSecret) × HasBadList body)
    → ((b ≡ fault.BadBody) × LacksList body) ⊎ ((b ≡ fault.BadSecret) × HasBadList body) → a ≡ b
one_secrets_fault body a b (inl (e, lacks)) (inl (f, none)) = e ∙ sym f
one_secrets_fault body a b (inl (e, lacks)) (inr (f, (v, json, (list, has, bad)))) = absurd (lacks v json list has)
one_secrets_fault body a b (inr (e, (v, json, (list, has, bad)))) (inl (f, lacks)) = absurd (lacks v json list has)
one_secrets_fault body a b (inr (e, h)) (inr (f, k)) = e ∙ sym f

-- the body of a flag lacks it
abbrev LacksFlag : (name body : Text) → Type 0
LacksFlag name body = (value : Data) → IsJson body value → (flag : Bool) → ¬ HasFlag value name flag

flag_stage : (name body : Text) (why : RequestError) → why ≢ fault.OutOfMemory → IsBadByValue (IsBadFlag name) body why
    → (why ≡ fault.BadBody) × LacksFlag name body
flag_stage name body fault.NotFound m h = absurd h.2
flag_stage name body fault.BadName m h = absurd h.2
flag_stage name body fault.TooLong m h = absurd h.2
flag_stage name body fault.BadId m h = absurd h.2
flag_stage name body fault.BadBody m h = (refl, h)
flag_stage name body fault.BadUrl m h = absurd h.2
flag_stage name body fault.BadMax m h = absurd h.2
flag_stage name body fault.BadSecret m h = absurd h.2
flag_stage name body fault.BadMoment m h = absurd h.2
flag_stage name body fault.OutOfMemory m h = absurd (m refl)

one_flag_fault : (name body : Text) (a b : RequestError) → a ≢ fault.OutOfMemory → b ≢ fault.OutOfMemory
    → IsBadByValue (IsBadFlag name) body a → IsBadByValue (IsBadFlag name) body b → a ≡ b
one_flag_fault name body a b m n h k = (flag_stage name body a m h).0 ∙ sym (flag_stage name body b n k).0

-- the body of a purge lacks its moment, or has a bad one
abbrev LacksBefore : (body : Text) → Type 0
LacksBefore body = (value : Data) → IsJson body value → (before : Num) → ¬ HasBefore value before

abbrev HasBadMoment : (value : Data) → Type 0
HasBadMoment value = (before : Num) × HasBefore value before × (is_before before ≡ false)

abbrev HasBadBefore : (body : Text) → Type 0
HasBadBefore body = (value : Data) × IsJson body value × HasBadMoment value

before_stage : (body : Text) (why : RequestError) → why ≢ fault.OutOfMemory → IsBadByValue IsBadBefore body why
    → ((why ≡ fault.BadBody) × LacksBefore body) ⊎ ((why ≡ fault.BadMoment) × HasBadBefore body)
before_stage body fault.NotFound m h = absurd h.2
before_stage body fault.BadName m h = absurd h.2
before_stage body fault.TooLong m h = absurd h.2
before_stage body fault.BadId m h = absurd h.2
before_stage body fault.BadBody m h = inl (refl, h)
before_stage body fault.BadUrl m h = absurd h.2
before_stage body fault.BadMax m h = absurd h.2
before_stage body fault.BadSecret m h = absurd h.2
before_stage body fault.BadMoment m h = inr (refl, h)
before_stage body fault.OutOfMemory m h = absurd (m refl)

one_before_fault : (body : Text) (a b : RequestError)
    → ((a ≡ fault.BadBody) × LacksBefore body) ⊎ ((a ≡ fault.BadMoment) × HasBadBefore body)
    → ((b ≡ fault.BadBody) × LacksBefore body) ⊎ ((b ≡ fault.BadMoment) × HasBadBefore body) → a ≡ b
one_before_fault body a b (inl (e, lacks)) (inl (f, none)) = e ∙ sym f
one_before_fault body a b (inl (e, lacks)) (inr (f, (v, json, (before, has, bad)))) = absurd (lacks v json before has)
one_before_fault body a b (inr (e, (v, json, (before, has, bad)))) (inl (f, lacks)) = absurd (lacks v json before has)
one_before_fault body a b (inr (e, h)) (inr (f, k)) = e ∙ sym f

-- the body of an event is never bad
no_bad_event : (name body : Text) (why : RequestError) → why ≢ fault.OutOfMemory → IsBadBody (Submit name) body why → ⊥
no_bad_event name body fault.NotFound m h = h
no_bad_event name body fault.BadName m h = h
no_bad_event name body fault.TooLong m h = h
no_bad_event name body fault.BadId m h = h
no_bad_event name body fault.BadBody m h = h
no_bad_event name body fault.BadUrl m h = h
no_bad_event name body fault.BadMax m h = h
no_bad_event name body fault.BadSecret m h = h
no_bad_event name body fault.BadMoment m h = h
no_bad_event name body fault.OutOfMemory m h = m refl

no_bad_publish : (topic body : Text) (why : RequestError) → why ≢ fault.OutOfMemory → IsBadBody (Publish topic) body why
    → ⊥
no_bad_publish topic body fault.NotFound m h = h
no_bad_publish topic body fault.BadName m h = h
no_bad_publish topic body fault.TooLong m h = h
no_bad_publish topic body fault.BadId m h = h
no_bad_publish topic body fault.BadBody m h = h
no_bad_publish topic body fault.BadUrl m h = h
no_bad_publish topic body fault.BadMax m h = h
no_bad_publish topic body fault.BadSecret m h = h
no_bad_publish topic body fault.BadMoment m h = h
no_bad_publish topic body fault.OutOfMemory m h = m refl

one_bad_body : (route : RouteValue) (body : Text) (a b : RequestError) → a ≢ fault.OutOfMemory → b ≢ fault.OutOfMemory
    → IsBadBody route body a → IsBadBody route body b → a ≡ b
one_bad_body (Put name) body a b m n h k = one_put_fault body a b m n (put_stage body a m h) (put_stage body b n k)
one_bad_body (SetSecrets name) body a b m n h k = one_secrets_fault body a b (secrets_stage body a m h)
    (secrets_stage body b n k)
one_bad_body (SetEnabled name) body a b m n h k = one_flag_fault (codes "enabled") body a b m n h k
one_bad_body (SetSubscribed name topic) body a b m n h k = one_flag_fault (codes "subscribed") body a b m n h k
one_bad_body (Submit name) body a b m n h k = absurd (no_bad_event name body a m h)
one_bad_body (Publish topic) body a b m n h k = absurd (no_bad_publish topic body a m h)
one_bad_body Retention body a b m n h k =
    one_before_fault body a b (before_stage body a m h) (before_stage body b n k)
one_bad_body Totals body a b m n h k = absurd h
one_bad_body (Endpoint name) body a b m n h k = absurd h
one_bad_body (Event name id) body a b m n h k = absurd h

-- ---- a request fails one check

-- which check on a route it is
abbrev Stage : RouteValue → Ask → RequestError → Type 0
Stage route ask why = ((why ≡ fault.BadName) × (has_name route ≡ false))
    ⊎ (((why ≡ fault.TooLong) × IsTrue (has_name route) × (is_within_limit ask.body ≡ false))
    ⊎ (((why ≡ fault.BadId) × IsTrue (has_name route && is_within_limit ask.body) × (has_id route ask ≡ false))
    ⊎ (IsTrue (passes_checks route ask) × IsBadBody route (bytes_of ask.body) why)))

stage : (route : RouteValue) (ask : Ask) (why : RequestError) → FailsOnRoute route ask why → Stage route ask why
stage route ask fault.NotFound h = inr (inr (inr h))
stage route ask fault.BadName h = inl (refl, h)
stage route ask fault.TooLong h = inr (inl (refl, h.0, h.1))
stage route ask fault.BadId h = inr (inr (inl (refl, h.0, h.1)))
stage route ask fault.BadBody h = inr (inr (inr h))
stage route ask fault.BadUrl h = inr (inr (inr h))
stage route ask fault.BadMax h = inr (inr (inr h))
stage route ask fault.BadSecret h = inr (inr (inr h))
stage route ask fault.BadMoment h = inr (inr (inr h))
stage route ask fault.OutOfMemory h = inr (inr (inr h))

name_passes : (route : RouteValue) (ask : Ask) → IsTrue (passes_checks route ask) → IsTrue (has_name route)
name_passes route ask h = (and_parts (has_name route) (is_within_limit ask.body && has_id route ask) h).0

body_passes : (route : RouteValue) (ask : Ask) → IsTrue (passes_checks route ask) → IsTrue (is_within_limit ask.body)
body_passes route ask h = (and_parts (is_within_limit ask.body) (has_id route ask)
    (and_parts (has_name route) (is_within_limit ask.body && has_id route ask) h).1).0

id_passes : (route : RouteValue) (ask : Ask) → IsTrue (passes_checks route ask) → IsTrue (has_id route ask)
id_passes route ask h = (and_parts (is_within_limit ask.body) (has_id route ask)
    (and_parts (has_name route) (is_within_limit ask.body && has_id route ask) h).1).1

one_stage : (route : RouteValue) (ask : Ask) (a b : RequestError) → a ≢ fault.OutOfMemory → b ≢ fault.OutOfMemory
    → Stage route ask a → Stage route ask b → a ≡ b
one_stage route ask a b m n (inl (e, x)) (inl (f, z)) = e ∙ sym f
one_stage route ask a b m n (inl (e, x)) (inr (inl (f, z, u))) = absurd (not_both _ z x)
one_stage route ask a b m n (inl (e, x)) (inr (inr (inl (f, z, u)))) = absurd
    (not_both _ (and_parts (has_name route) (is_within_limit ask.body) z).0 x)
one_stage route ask a b m n (inl (e, x)) (inr (inr (inr (z, u)))) = absurd (not_both _ (name_passes route ask z) x)
one_stage route ask a b m n (inr (inl (e, x, y))) (inl (f, z)) = absurd (not_both _ x z)
one_stage route ask a b m n (inr (inl (e, x, y))) (inr (inl (f, z, u))) = e ∙ sym f
one_stage route ask a b m n (inr (inl (e, x, y))) (inr (inr (inl (f, z, u)))) = absurd
    (not_both _ (and_parts (has_name route) (is_within_limit ask.body) z).1 y)
one_stage route ask a b m n (inr (inl (e, x, y))) (inr (inr (inr (z, u)))) = absurd
    (not_both _ (body_passes route ask z) y)
one_stage route ask a b m n (inr (inr (inl (e, x, y)))) (inl (f, z)) = absurd
    (not_both _ (and_parts (has_name route) (is_within_limit ask.body) x).0 z)
one_stage route ask a b m n (inr (inr (inl (e, x, y)))) (inr (inl (f, z, u))) = absurd
    (not_both _ (and_parts (has_name route) (is_within_limit ask.body) x).1 u)
one_stage route ask a b m n (inr (inr (inl (e, x, y)))) (inr (inr (inl (f, z, u)))) = e ∙ sym f
one_stage route ask a b m n (inr (inr (inl (e, x, y)))) (inr (inr (inr (z, u)))) = absurd
    (not_both _ (id_passes route ask z) y)
one_stage route ask a b m n (inr (inr (inr (x, y)))) (inl (f, z)) = absurd (not_both _ (name_passes route ask x) z)
one_stage route ask a b m n (inr (inr (inr (x, y)))) (inr (inl (f, z, u))) = absurd
    (not_both _ (body_passes route ask x) u)
one_stage route ask a b m n (inr (inr (inr (x, y)))) (inr (inr (inl (f, z, u)))) = absurd
    (not_both _ (id_passes route ask x) u)
one_stage route ask a b m n (inr (inr (inr (x, y)))) (inr (inr (inr (z, u)))) = one_bad_body route (bytes_of ask.body) a
    b
    m n y u

one_failure_on_route : (a b : RequestError) (ask : Ask) → a ≢ fault.OutOfMemory → b ≢ fault.OutOfMemory
    → (route : RouteValue) × IsOnRoute route ask × FailsOnRoute route ask a → (route : RouteValue) × IsOnRoute route ask
    × FailsOnRoute route ask b → a ≡ b
one_failure_on_route a b ask m n (route, on, h) (other, stands, k) =
    let same : other ≡ route = one_route other route ask.method.now (before_query ask.path.now) stands on in
    one_stage route ask a b m n (stage route ask a h) (stage route ask b (subst (λ l. FailsOnRoute l ask b) same k))

-- it is on a route, and is refused there
abbrev is_memory : RequestError → Bool
is_memory fault.NotFound = false
is_memory fault.BadName = false
is_memory fault.TooLong = false
is_memory fault.BadId = false
is_memory fault.BadBody = false
is_memory fault.BadUrl = false
is_memory fault.BadMax = false
is_memory fault.BadSecret = false
is_memory fault.BadMoment = false
is_memory fault.OutOfMemory = true

no_memory : (why : RequestError) → is_memory why ≡ false → why ≢ fault.OutOfMemory
no_memory why e h = true_not_false (ap is_memory (sym h) ∙ e)

abbrev FailsOnItsRoute : Ask → RequestError → Type 0
FailsOnItsRoute ask why = (route : RouteValue) × IsOnRoute route ask × FailsOnRoute route ask why

abbrev OnRoute : Ask → RequestError → Type 0
OnRoute ask why = (why ≢ fault.OutOfMemory) × FailsOnItsRoute ask why

abbrev NoRoute : Ask → RequestError → Type 0
NoRoute ask why = (why ≡ fault.NotFound) × ((route : RouteValue) → ¬ IsOnRoute route ask)

refused_on_route : (ask : Ask) (why : RequestError) → IsRefusedFor ask why → NoRoute ask why ⊎ OnRoute ask why
refused_on_route ask fault.NotFound h = inl (refl, h)
refused_on_route ask fault.BadName h = inr (no_memory fault.BadName refl, h)
refused_on_route ask fault.TooLong h = inr (no_memory fault.TooLong refl, h)
refused_on_route ask fault.BadId h = inr (no_memory fault.BadId refl, h)
refused_on_route ask fault.BadBody h = inr (no_memory fault.BadBody refl, h)
refused_on_route ask fault.BadUrl h = inr (no_memory fault.BadUrl refl, h)
refused_on_route ask fault.BadMax h = inr (no_memory fault.BadMax refl, h)
refused_on_route ask fault.BadSecret h = inr (no_memory fault.BadSecret refl, h)
refused_on_route ask fault.BadMoment h = inr (no_memory fault.BadMoment refl, h)
refused_on_route ask fault.OutOfMemory h = absurd h

one_check_on_route : (ask : Ask) (a b : RequestError) → NoRoute ask a ⊎ OnRoute ask a → NoRoute ask b ⊎ OnRoute ask b
    → a ≡ b
one_check_on_route ask a b (inl (e, none)) (inl (f, lacks)) = e ∙ sym f
one_check_on_route ask a b (inl (e, none)) (inr (n, (route, on, k))) = absurd (none route on)
one_check_on_route ask a b (inr (m, (route, on, h))) (inl (f, none)) = absurd (none route on)
one_check_on_route ask a b (inr (m, h)) (inr (n, k)) = one_failure_on_route a b ask m n h k

pub one_check : (ask : Ask) (a b : RequestError) → IsRefusedFor ask a → IsRefusedFor ask b → a ≡ b
one_check ask a b h k = one_check_on_route ask a b (refused_on_route ask a h) (refused_on_route ask b k)

-- ---- what is asked for isn't refused

says_put : (body url : Text) (limit : ℕ) (texts secrets : List Text) (value : Data) (why : RequestError)
    → why ≢ fault.OutOfMemory
    → IsJson body value → HasPutMembers value url (unsigned limit) texts → IsTrue (is_target url && is_max_limit limit)
    → AreSecretTexts texts secrets
    → ((why ≡ fault.BadBody) × LacksPut body) ⊎ HasBadPut body why → ⊥
says_put body url limit texts secrets value why m json members good are (inl (e, lacks)) = lacks value json url
    (unsigned limit) texts members
says_put body url limit texts secrets v why m json members good are
    (inr (v', json', (url', max', list', members', bad'))) =
    let value : v' ≡ v = one_value body v' v json' json in
    let moved : HasPutMembers v url' max' list' = subst (λ x. HasPutMembers x url' max' list') value members' in
    let of_url = one_url v url' url max' (unsigned limit) list' texts moved members in
    let of_max = one_max v url' url max' (unsigned limit) list' texts moved members in
    let of_list = one_texts v url' url max' (unsigned limit) list' texts moved members in
    good_members url (unsigned limit) texts secrets why m good are
    (subst (λ x. IsBadMember x (unsigned limit) texts why) of_url
    (subst (λ x. IsBadMember url' x texts why) of_max (subst (λ x. IsBadMember url' max' x why) of_list bad')))

says_secrets : (body : Text) (texts secrets : List Text) (value : Data) (why : RequestError) → IsJson body value
    → HasSecrets value texts → AreSecretTexts texts secrets
    → ((why ≡ fault.BadBody) × LacksList body) ⊎ ((why ≡ fault.BadSecret) × HasBadList body) → ⊥
says_secrets body texts secrets v why json has are (inl (e, lacks)) = lacks v json texts has
says_secrets body texts secrets v why json has are (inr (e, (v', json', (list', has', bad')))) =
    let value : v' ≡ v = one_value body v' v json' json in
    let same : list' ≡ texts = one_list v list' texts (subst (λ x. HasSecrets x list') value has') has in
    bad' secrets (subst (λ x. AreSecretTexts x secrets) (sym same) are)

says_before : (body : Text) (before : ℕ) (value : Data) (why : RequestError) → IsJson body value
    → HasBefore value (unsigned before) → IsTrue (is_moment before)
    → ((why ≡ fault.BadBody) × LacksBefore body) ⊎ ((why ≡ fault.BadMoment) × HasBadBefore body) → ⊥
says_before body before v why json has good (inl (e, lacks)) = lacks v json (unsigned before) has
says_before body before v why json has good (inr (e, (v', json', (before', has', bad')))) =
    let value : v' ≡ v = one_value body v' v json' json in
    let same : before' ≡ unsigned before =
    one_before v before' (unsigned before) (subst (λ x. HasBefore x before') value has') has in
    not_both (is_before before') (subst (λ x. IsTrue (is_before x)) (sym same) good) bad'

says_no_bad : (ask : Ask) (fresh : Text) (what : Asked) (why : RequestError) → why ≢ fault.OutOfMemory
    → AgreesWithBody ask fresh what
    → IsBadBody (route_of_asked what) (bytes_of ask.body) why → ⊥
says_no_bad ask fresh (asked.Change (change.PutEndpoint name url limit secrets)) why m
    (value, json, (texts, members, good, are)) h =
    says_put (bytes_of ask.body) url limit texts secrets value why m json members good are
    (put_stage (bytes_of ask.body) why m h)
says_no_bad ask fresh (asked.Change (change.SetSecrets name secrets)) why m (value, json, (texts, has, are)) h =
    says_secrets (bytes_of ask.body) texts secrets value why json has are (secrets_stage (bytes_of ask.body) why m h)
says_no_bad ask fresh (asked.Change (change.SetEnabled name flag)) why m (value, json, has) h =
    (flag_stage (codes "enabled") (bytes_of ask.body) why m h).1 value json flag has
says_no_bad ask fresh (asked.Change (change.SetSubscribed topic name flag)) why m (value, json, has) h =
    (flag_stage (codes "subscribed") (bytes_of ask.body) why m h).1 value json flag has
says_no_bad ask fresh (asked.Change (change.Purge before)) why m (value, json, (has, good)) h =
    says_before (bytes_of ask.body) before value why json has good (before_stage (bytes_of ask.body) why m h)
says_no_bad ask fresh (asked.Post name id body) why m says h = no_bad_event name (bytes_of ask.body) why m h
says_no_bad ask fresh (asked.Publish topic id body) why m says h = no_bad_publish topic (bytes_of ask.body) why m h
says_no_bad ask fresh asked.Totals why m says h = h
says_no_bad ask fresh (asked.Endpoint name) why m says h = h
says_no_bad ask fresh (asked.Event name id) why m says h = h

passes_stage : (ask : Ask) (fresh : Text) (what : Asked) (why : RequestError) → why ≢ fault.OutOfMemory
    → AsksFor ask fresh what
    → Stage (route_of_asked what) ask why → ⊥
passes_stage ask fresh what why m asks (inl (e, x)) = not_both _ (name_passes (route_of_asked what) ask asks.passes) x
passes_stage ask fresh what why m asks (inr (inl (e, x, y))) = not_both _
    (body_passes (route_of_asked what) ask asks.passes) y
passes_stage ask fresh what why m asks (inr (inr (inl (e, x, y)))) = not_both _
    (id_passes (route_of_asked what) ask asks.passes) y
passes_stage ask fresh what why m asks (inr (inr (inr (x, y)))) = says_no_bad ask fresh what why m asks.says y

asked_on_route : (ask : Ask) (fresh : Text) (what : Asked) (why : RequestError) → AsksFor ask fresh what
    → NoRoute ask why
    ⊎ OnRoute ask why → ⊥
asked_on_route ask fresh what why asks (inl (e, none)) = none (route_of_asked what) asks.on_route
asked_on_route ask fresh what why asks (inr (m, (route, on, h))) =
    let same : route ≡ route_of_asked what = one_route route (route_of_asked what) ask.method.now
    (before_query ask.path.now) on
    asks.on_route in
    passes_stage ask fresh what why m asks
    (stage (route_of_asked what) ask why (subst (λ l. FailsOnRoute l ask why) same h))

pub asked_not_refused : (ask : Ask) (fresh : Text) (what : Asked) (why : RequestError) → AsksFor ask fresh what
    → IsRefusedFor ask why → ⊥
asked_not_refused ask fresh what why asks h = asked_on_route ask fresh what why asks (refused_on_route ask why h)

-- ---- one thing is asked for

abbrev name_of : RouteValue → Text
name_of (Put name) = name
name_of (SetSecrets name) = name
name_of (SetEnabled name) = name
name_of (SetSubscribed name topic) = name
name_of (Submit name) = name
name_of (Publish topic) = topic
name_of Retention = []
name_of Totals = []
name_of (Endpoint name) = name
name_of (Event name id) = name

abbrev id_in : RouteValue → Text
id_in (Event name id) = id
id_in route = []

abbrev topic_of : RouteValue → Text
topic_of (SetSubscribed name topic) = topic
topic_of route = []

one_put : (x y u v : Text) (l k : ℕ) (s t : List Text) (body : Text) → x ≡ y
    → (value : Data) × IsJson body value × SaysCommand value (change.PutEndpoint x u l s)
    → (value : Data) × IsJson body value × SaysCommand value (change.PutEndpoint y v k t)
    → asked.Change (change.PutEndpoint x u l s) ≡ asked.Change (change.PutEndpoint y v k t)
one_put x y u v l k s t body e (value, json, (texts, members, good, are))
    (value', json', (texts', members', good', are')) =
    let same : value' ≡ value = one_value body value' value json' json in
    let moved : HasPutMembers value v (unsigned k) texts' = subst (λ d. HasPutMembers d v (unsigned k) texts') same
    members' in
    let of_url : u ≡ v = one_url value u v (unsigned l) (unsigned k) texts texts' members moved in
    let of_max : unsigned l ≡ unsigned k = one_max value u v (unsigned l) (unsigned k) texts texts' members moved in
    let of_limit : l ≡ k = cc in
    let of_list : texts' ≡ texts = one_texts value v u (unsigned k) (unsigned l) texts' texts moved members in
    let of_secrets : s ≡ t = one_secrets_list texts s t are (subst (λ ts. AreSecretTexts ts t) of_list are') in
    cc

one_set : (x y : Text) (s t : List Text) (body : Text) → x ≡ y
    → (value : Data) × IsJson body value × SaysCommand value (change.SetSecrets x s)
    → (value : Data) × IsJson body value × SaysCommand value (change.SetSecrets y t)
    → asked.Change (change.SetSecrets x s) ≡ asked.Change (change.SetSecrets y t)
one_set x y s t body e (value, json, (texts, has, are)) (value', json', (texts', has', are')) =
    let same : value' ≡ value = one_value body value' value json' json in
    let of_list : texts' ≡ texts = one_list value texts' texts (subst (λ d. HasSecrets d texts') same has') has in
    let of_secrets : s ≡ t = one_secrets_list texts s t are (subst (λ ts. AreSecretTexts ts t) of_list are') in
    cc

same_flag : (name body : Text) (u v : Bool) → (value : Data) × IsJson body value × HasFlag value name u
    → (value : Data) × IsJson body value × HasFlag value name v → u ≡ v
same_flag name body u v (value, json, has) (value', json', has') =
    let same : value' ≡ value = one_value body value' value json' json in
    one_flag value name u v has (subst (λ d. HasFlag d name v) same has')

one_flagged : (x y : Text) (u v : Bool) → x ≡ y → u ≡ v
    → asked.Change (change.SetEnabled x u) ≡ asked.Change (change.SetEnabled y v)
one_flagged x y u v e of_flag = cc

one_subscribed : (s t x y : Text) (u v : Bool) → s ≡ t → x ≡ y → u ≡ v
    → asked.Change (change.SetSubscribed s x u) ≡ asked.Change (change.SetSubscribed t y v)
one_subscribed s t x y u v of_topic e of_flag = cc

one_purge : (n k : ℕ) (body : Text) → (value : Data) × IsJson body value × SaysCommand value (change.Purge n)
    → (value : Data) × IsJson body value × SaysCommand value (change.Purge k)
    → asked.Change (change.Purge n) ≡ asked.Change (change.Purge k)
one_purge n k body (value, json, (has, good)) (value', json', (has', good')) =
    let same : value' ≡ value = one_value body value' value json' json in
    let numbers : unsigned n ≡ unsigned k =
    one_before value (unsigned n) (unsigned k) has (subst (λ d. HasBefore d (unsigned k)) same has') in
    let moments : n ≡ k = cc in
    cc

one_of_body : (a b : Asked) (ask : Ask) (fresh : Text) → route_of_asked a ≡ route_of_asked b
    → AgreesWithBody ask fresh a
    → AgreesWithBody ask fresh b → a ≡ b
one_of_body (asked.Change (change.PutEndpoint x u l s)) (asked.Change (change.PutEndpoint y v k t)) ask fresh e h g =
    one_put x y u v l k s t (bytes_of ask.body) (ap name_of e) h g
one_of_body (asked.Change (change.PutEndpoint x u l s)) (asked.Change (change.SetSecrets y t)) ask fresh e h g = cc
one_of_body (asked.Change (change.PutEndpoint x u l s)) (asked.Change (change.SetEnabled y v)) ask fresh e h g = cc
one_of_body (asked.Change (change.PutEndpoint x u l s)) (asked.Change (change.SetSubscribed t y v)) ask fresh e h g = cc
one_of_body (asked.Change (change.PutEndpoint x u l s)) (asked.Change (change.Purge k)) ask fresh e h g = cc
one_of_body (asked.Change (change.PutEndpoint x u l s)) (asked.Post y v t) ask fresh e h g = cc
one_of_body (asked.Change (change.PutEndpoint x u l s)) (asked.Publish y v t) ask fresh e h g = cc
one_of_body (asked.Change (change.PutEndpoint x u l s)) asked.Totals ask fresh e h g = cc
one_of_body (asked.Change (change.PutEndpoint x u l s)) (asked.Endpoint y) ask fresh e h g = cc
one_of_body (asked.Change (change.PutEndpoint x u l s)) (asked.Event y v) ask fresh e h g = cc
one_of_body (asked.Change (change.SetSecrets x s)) (asked.Change (change.PutEndpoint y v k t)) ask fresh e h g = cc
one_of_body (asked.Change (change.SetSecrets x s)) (asked.Change (change.SetSecrets y t)) ask fresh e h g =
    one_set x y s t (bytes_of ask.body) (ap name_of e) h g
one_of_body (asked.Change (change.SetSecrets x s)) (asked.Change (change.SetEnabled y v)) ask fresh e h g = cc
one_of_body (asked.Change (change.SetSecrets x s)) (asked.Change (change.SetSubscribed t y v)) ask fresh e h g = cc
one_of_body (asked.Change (change.SetSecrets x s)) (asked.Change (change.Purge k)) ask fresh e h g = cc
one_of_body (asked.Change (change.SetSecrets x s)) (asked.Post y v t) ask fresh e h g = cc
one_of_body (asked.Change (change.SetSecrets x s)) (asked.Publish y v t) ask fresh e h g = cc
one_of_body (asked.Change (change.SetSecrets x s)) asked.Totals ask fresh e h g = cc
one_of_body (asked.Change (change.SetSecrets x s)) (asked.Endpoint y) ask fresh e h g = cc
one_of_body (asked.Change (change.SetSecrets x s)) (asked.Event y v) ask fresh e h g = cc
one_of_body (asked.Change (change.SetEnabled x u)) (asked.Change (change.PutEndpoint y v k t)) ask fresh e h g = cc
one_of_body (asked.Change (change.SetEnabled x u)) (asked.Change (change.SetSecrets y t)) ask fresh e h g = cc
one_of_body (asked.Change (change.SetEnabled x u)) (asked.Change (change.SetEnabled y v)) ask fresh e h g =
    one_flagged x y u v (ap name_of e) (same_flag (codes "enabled") (bytes_of ask.body) u v h g)
one_of_body (asked.Change (change.SetEnabled x u)) (asked.Change (change.SetSubscribed t y v)) ask fresh e h g = cc
one_of_body (asked.Change (change.SetEnabled x u)) (asked.Change (change.Purge k)) ask fresh e h g = cc
one_of_body (asked.Change (change.SetEnabled x u)) (asked.Post y v t) ask fresh e h g = cc
one_of_body (asked.Change (change.SetEnabled x u)) (asked.Publish y v t) ask fresh e h g = cc
one_of_body (asked.Change (change.SetEnabled x u)) asked.Totals ask fresh e h g = cc
one_of_body (asked.Change (change.SetEnabled x u)) (asked.Endpoint y) ask fresh e h g = cc
one_of_body (asked.Change (change.SetEnabled x u)) (asked.Event y v) ask fresh e h g = cc
one_of_body (asked.Change (change.SetSubscribed s x u)) (asked.Change (change.PutEndpoint y v k t)) ask fresh e h g = cc
one_of_body (asked.Change (change.SetSubscribed s x u)) (asked.Change (change.SetSecrets y t)) ask fresh e h g = cc
one_of_body (asked.Change (change.SetSubscribed s x u)) (asked.Change (change.SetEnabled y v)) ask fresh e h g = cc
one_of_body (asked.Change (change.SetSubscribed s x u)) (asked.Change (change.SetSubscribed t y v)) ask fresh e h g =
    one_subscribed s t x y u v (ap topic_of e) (ap name_of e)
    (same_flag (codes "subscribed") (bytes_of ask.body) u v h g)
one_of_body (asked.Change (change.SetSubscribed s x u)) (asked.Change (change.Purge k)) ask fresh e h g = cc
one_of_body (asked.Change (change.SetSubscribed s x u)) (asked.Post y v t) ask fresh e h g = cc
one_of_body (asked.Change (change.SetSubscribed s x u)) (asked.Publish y v t) ask fresh e h g = cc
one_of_body (asked.Change (change.SetSubscribed s x u)) asked.Totals ask fresh e h g = cc
one_of_body (asked.Change (change.SetSubscribed s x u)) (asked.Endpoint y) ask fresh e h g = cc
one_of_body (asked.Change (change.SetSubscribed s x u)) (asked.Event y v) ask fresh e h g = cc
one_of_body (asked.Change (change.Purge n)) (asked.Change (change.PutEndpoint y v k t)) ask fresh e h g = cc
one_of_body (asked.Change (change.Purge n)) (asked.Change (change.SetSecrets y t)) ask fresh e h g = cc
one_of_body (asked.Change (change.Purge n)) (asked.Change (change.SetEnabled y v)) ask fresh e h g = cc
one_of_body (asked.Change (change.Purge n)) (asked.Change (change.SetSubscribed t y v)) ask fresh e h g = cc
one_of_body (asked.Change (change.Purge n)) (asked.Change (change.Purge k)) ask fresh e h g =
    one_purge n k (bytes_of ask.body) h g
one_of_body (asked.Change (change.Purge n)) (asked.Post y v t) ask fresh e h g = cc
one_of_body (asked.Change (change.Purge n)) (asked.Publish y v t) ask fresh e h g = cc
one_of_body (asked.Change (change.Purge n)) asked.Totals ask fresh e h g = cc
one_of_body (asked.Change (change.Purge n)) (asked.Endpoint y) ask fresh e h g = cc
one_of_body (asked.Change (change.Purge n)) (asked.Event y v) ask fresh e h g = cc
one_of_body (asked.Post x u s) (asked.Change (change.PutEndpoint y v k t)) ask fresh e h g = cc
one_of_body (asked.Post x u s) (asked.Change (change.SetSecrets y t)) ask fresh e h g = cc
one_of_body (asked.Post x u s) (asked.Change (change.SetEnabled y v)) ask fresh e h g = cc
one_of_body (asked.Post x u s) (asked.Change (change.SetSubscribed t y v)) ask fresh e h g = cc
one_of_body (asked.Post x u s) (asked.Change (change.Purge k)) ask fresh e h g = cc
one_of_body (asked.Post x u s) (asked.Post y v t) ask fresh e h g = let n : x ≡ y = ap name_of e in let of_id : u ≡ v =
    h.0 ∙ sym g.0 in let of_body : s ≡ t = h.1 ∙ sym g.1 in cc
one_of_body (asked.Post x u s) (asked.Publish y v t) ask fresh e h g = cc
one_of_body (asked.Post x u s) asked.Totals ask fresh e h g = cc
one_of_body (asked.Post x u s) (asked.Endpoint y) ask fresh e h g = cc
one_of_body (asked.Post x u s) (asked.Event y v) ask fresh e h g = cc
one_of_body (asked.Publish x u s) (asked.Change (change.PutEndpoint y v k t)) ask fresh e h g = cc
one_of_body (asked.Publish x u s) (asked.Change (change.SetSecrets y t)) ask fresh e h g = cc
one_of_body (asked.Publish x u s) (asked.Change (change.SetEnabled y v)) ask fresh e h g = cc
one_of_body (asked.Publish x u s) (asked.Change (change.SetSubscribed t y v)) ask fresh e h g = cc
one_of_body (asked.Publish x u s) (asked.Change (change.Purge k)) ask fresh e h g = cc
one_of_body (asked.Publish x u s) (asked.Post y v t) ask fresh e h g = cc
one_of_body (asked.Publish x u s) (asked.Publish y v t) ask fresh e h g =
    let n : x ≡ y = ap name_of e in
    let of_id : u ≡ v = h.0 ∙ sym g.0 in
    let of_body : s ≡ t = h.1 ∙ sym g.1 in
    cc
one_of_body (asked.Publish x u s) asked.Totals ask fresh e h g = cc
one_of_body (asked.Publish x u s) (asked.Endpoint y) ask fresh e h g = cc
one_of_body (asked.Publish x u s) (asked.Event y v) ask fresh e h g = cc
one_of_body asked.Totals (asked.Change (change.PutEndpoint y v k t)) ask fresh e h g = cc
one_of_body asked.Totals (asked.Change (change.SetSecrets y t)) ask fresh e h g = cc
one_of_body asked.Totals (asked.Change (change.SetEnabled y v)) ask fresh e h g = cc
one_of_body asked.Totals (asked.Change (change.SetSubscribed t y v)) ask fresh e h g = cc
one_of_body asked.Totals (asked.Change (change.Purge k)) ask fresh e h g = cc
one_of_body asked.Totals (asked.Post y v t) ask fresh e h g = cc
one_of_body asked.Totals (asked.Publish y v t) ask fresh e h g = cc
one_of_body asked.Totals asked.Totals ask fresh e h g = refl
one_of_body asked.Totals (asked.Endpoint y) ask fresh e h g = cc
one_of_body asked.Totals (asked.Event y v) ask fresh e h g = cc
one_of_body (asked.Endpoint x) (asked.Change (change.PutEndpoint y v k t)) ask fresh e h g = cc
one_of_body (asked.Endpoint x) (asked.Change (change.SetSecrets y t)) ask fresh e h g = cc
one_of_body (asked.Endpoint x) (asked.Change (change.SetEnabled y v)) ask fresh e h g = cc
one_of_body (asked.Endpoint x) (asked.Change (change.SetSubscribed t y v)) ask fresh e h g = cc
one_of_body (asked.Endpoint x) (asked.Change (change.Purge k)) ask fresh e h g = cc
one_of_body (asked.Endpoint x) (asked.Post y v t) ask fresh e h g = cc
one_of_body (asked.Endpoint x) (asked.Publish y v t) ask fresh e h g = cc
one_of_body (asked.Endpoint x) asked.Totals ask fresh e h g = cc
one_of_body (asked.Endpoint x) (asked.Endpoint y) ask fresh e h g = let n : x ≡ y = ap name_of e in cc
one_of_body (asked.Endpoint x) (asked.Event y v) ask fresh e h g = cc
one_of_body (asked.Event x u) (asked.Change (change.PutEndpoint y v k t)) ask fresh e h g = cc
one_of_body (asked.Event x u) (asked.Change (change.SetSecrets y t)) ask fresh e h g = cc
one_of_body (asked.Event x u) (asked.Change (change.SetEnabled y v)) ask fresh e h g = cc
one_of_body (asked.Event x u) (asked.Change (change.SetSubscribed t y v)) ask fresh e h g = cc
one_of_body (asked.Event x u) (asked.Change (change.Purge k)) ask fresh e h g = cc
one_of_body (asked.Event x u) (asked.Post y v t) ask fresh e h g = cc
one_of_body (asked.Event x u) (asked.Publish y v t) ask fresh e h g = cc
one_of_body (asked.Event x u) asked.Totals ask fresh e h g = cc
one_of_body (asked.Event x u) (asked.Endpoint y) ask fresh e h g = cc
one_of_body (asked.Event x u) (asked.Event y v) ask fresh e h g = let n : x ≡ y = ap name_of e in let of_id : u ≡ v =
    ap id_in e in cc

pub one_asked : (ask : Ask) (fresh : Text) (a b : Asked) → AsksFor ask fresh a → AsksFor ask fresh b → a ≡ b
one_asked ask fresh a b h k =
    one_of_body a b ask fresh (one_route (route_of_asked a) (route_of_asked b) ask.method.now
    (before_query ask.path.now)
    h.on_route k.on_route) h.says k.says

-- ---- so the answer is the one that the request asks for

pub not_read : (ask : Ask) (why : RequestError) (reply : Reply) → reply ≡ ask_reply why → IsNotReadFor ask why
    → (reply ≡ out_of_memory) ⊎ ((why : RequestError) × (reply ≡ ask_reply why) × IsRefusedFor ask why)
not_read ask fault.NotFound reply e h = inr (fault.NotFound, e, h)
not_read ask fault.BadName reply e h = inr (fault.BadName, e, h)
not_read ask fault.TooLong reply e h = inr (fault.TooLong, e, h)
not_read ask fault.BadId reply e h = inr (fault.BadId, e, h)
not_read ask fault.BadBody reply e h = inr (fault.BadBody, e, h)
not_read ask fault.BadUrl reply e h = inr (fault.BadUrl, e, h)
not_read ask fault.BadMax reply e h = inr (fault.BadMax, e, h)
not_read ask fault.BadSecret reply e h = inr (fault.BadSecret, e, h)
not_read ask fault.BadMoment reply e h = inr (fault.BadMoment, e, h)
not_read ask fault.OutOfMemory reply e h = inl e

pub refuses_with : (ask : Ask) (reply : Reply) (why : RequestError) → (reply ≡ out_of_memory)
    ⊎ ((other : RequestError) × (reply ≡ ask_reply other) × IsRefusedFor ask other)
    → IsRefusedFor ask why → IsRefusedWith (Err reply) why
refuses_with ask reply why (inl e) h = inr (ap Err e)
refuses_with ask reply why (inr (other, e, k)) h = inl (ap Err (e ∙ ap ask_reply (one_check ask other why k h)))

pub lacks_memory : (ask : Ask) (fresh : Text) (what : Asked) (reply : Reply)
    → (reply ≡ out_of_memory) ⊎ ((other : RequestError) × (reply ≡ ask_reply other) × IsRefusedFor ask other)
    → AsksFor ask fresh what → IsReadAs (Err reply) what
lacks_memory ask fresh what reply (inl e) h = inr (ap Err e)
lacks_memory ask fresh what reply (inr (other, e, k)) h = absurd (asked_not_refused ask fresh what other h k)
