-- What the bodies of requests say. The crate `serde_json` defines which value a body has.
use Rattle.std.specs.Prelude.{◌≡◌, Bool, false, List, [], ◌∷◌, ◌&&◌, Some, IsTrue, codes}
use Rattle.std.specs.Str.{IsUtf8}
use Rattle.serde_json.specs.Data.{Num, unsigned, negative, float}
use Rattle.serde_json.specs.Data.{Data, boolean, number, string, array, Items, no_items, item}
use Rattle.serde_json.specs.Find.{get}
use Rattle.serde_json.specs.Read.{read}
use Rattle.relay_types.specs.Values.{Text, is_target, is_max_limit, is_moment}
use Rattle.text_lines.specs.Words.{AreSecretTexts}
use Rattle.desk.specs.declared.command.Command.{Command}
use Rattle.desk.specs.declared.command.Command.TheVariants.{PutEndpoint, SetSecrets, SetEnabled, SetSubscribed, Purge}
use Rattle.intake_shed.specs.declared.fault.RequestError.{RequestError}
use Rattle.intake_shed.specs.declared.fault.RequestError.TheVariants.{BadBody, BadUrl, BadMax, BadSecret, BadMoment}
use Rattle.intake_shed.specs.declared.fault.RequestError.TheVariants.{OutOfMemory}

-- the text has this value
abbrev pub IsJson : (body : Text) → Data → Type 0
IsJson body value = IsUtf8 body × (read body ≡ Some value)

-- a list of texts
abbrev pub strings : List Text → Items
strings [] = no_items
strings (text ∷ texts) = item (string text) (strings texts)

-- The members of a value that is an object. It may have others.
pub record HasPutMembers (value : Data) (url : Text) (max : Num) (secrets : List Text) : Type 0 where
  pub of_url : get (codes "url") value ≡ Some (string url)
  pub of_max : get (codes "max") value ≡ Some (number max)
  pub of_secrets : get (codes "secrets") value ≡ Some (array (strings secrets))

abbrev pub HasSecrets : (value : Data) (secrets : List Text) → Type 0
HasSecrets value secrets = get (codes "secrets") value ≡ Some (array (strings secrets))

abbrev pub HasFlag : (value : Data) (name : Text) (flag : Bool) → Type 0
HasFlag value name flag = get name value ≡ Some (boolean flag)

abbrev pub HasBefore : (value : Data) (before : Num) → Type 0
HasBefore value before = get (codes "before") value ≡ Some (number before)

-- whether the number is a whole one from 1 to 1000. One that is written with a point or an exponent
-- is a float.
abbrev pub is_max : Num → Bool
is_max (unsigned n) = is_max_limit n
is_max (negative z) = false
is_max (float x) = false

-- whether it is a whole one from 0 to 2^40
abbrev pub is_before : Num → Bool
is_before (unsigned n) = is_moment n
is_before (negative z) = false
is_before (float x) = false

-- no list of secrets is written by these texts
abbrev pub AreNoSecrets : List Text → Type 0
AreNoSecrets texts = (secrets : List Text) → ¬ AreSecretTexts texts secrets

-- What the value says: the new endpoint, the secrets, the flag, or the moment of this command.
abbrev pub SaysCommand : (value : Data) → Command → Type 0
SaysCommand value (PutEndpoint name target max secrets) = (texts : List Text)
    × HasPutMembers value target (unsigned max) texts
    × IsTrue (is_target target && is_max_limit max) × AreSecretTexts texts secrets
SaysCommand value (SetSecrets name secrets) = (texts : List Text) × HasSecrets value texts
    × AreSecretTexts texts secrets
SaysCommand value (SetEnabled name flag) = HasFlag value (codes "enabled") flag
SaysCommand value (SetSubscribed topic name flag) = HasFlag value (codes "subscribed") flag
SaysCommand value (Purge before) = HasBefore value (unsigned before) × IsTrue (is_moment before)

-- the first of these members that is bad: the url, the max, the secrets
abbrev pub IsBadMember : (url : Text) (max : Num) (secrets : List Text) → RequestError → Type 0
IsBadMember url max secrets BadUrl = is_target url ≡ false
IsBadMember url max secrets BadMax = IsTrue (is_target url) × (is_max max ≡ false)
IsBadMember url max secrets BadSecret = IsTrue (is_target url && is_max max) × AreNoSecrets secrets
IsBadMember url max secrets OutOfMemory = Unit {0}
IsBadMember url max secrets why = ⊥

-- Why a value is refused: it doesn't have the members, each of its kind, or one of them is bad.
abbrev pub IsBadPut : (value : Data) → RequestError → Type 0
IsBadPut value BadBody = (url : Text) (max : Num) (secrets : List Text) → ¬ HasPutMembers value url max secrets
IsBadPut value OutOfMemory = Unit {0}
IsBadPut value why = (url : Text) × (max : Num) × (secrets : List Text)
    × HasPutMembers value url max secrets × IsBadMember url max secrets why

abbrev pub IsBadSecrets : (value : Data) → RequestError → Type 0
IsBadSecrets value BadBody = (secrets : List Text) → ¬ HasSecrets value secrets
IsBadSecrets value BadSecret = (secrets : List Text) × HasSecrets value secrets × AreNoSecrets secrets
IsBadSecrets value OutOfMemory = Unit {0}
IsBadSecrets value why = ⊥

abbrev pub IsBadFlag : (name : Text) (value : Data) → RequestError → Type 0
IsBadFlag name value BadBody = (flag : Bool) → ¬ HasFlag value name flag
IsBadFlag name value OutOfMemory = Unit {0}
IsBadFlag name value why = ⊥

abbrev pub IsBadBefore : (value : Data) → RequestError → Type 0
IsBadBefore value BadBody = (before : Num) → ¬ HasBefore value before
IsBadBefore value BadMoment = (before : Num) × HasBefore value before × (is_before before ≡ false)
IsBadBefore value OutOfMemory = Unit {0}
IsBadBefore value why = ⊥

-- why a body is refused: for its value, or as BadBody if it has no value
abbrev pub IsBadByValue : (IsBad : Data → RequestError → Type 0) → (body : Text) → RequestError → Type 0
IsBadByValue IsBad body BadBody = (value : Data) → IsJson body value → IsBad value BadBody
IsBadByValue IsBad body OutOfMemory = Unit {0}
IsBadByValue IsBad body why = (value : Data) × IsJson body value × IsBad value why
