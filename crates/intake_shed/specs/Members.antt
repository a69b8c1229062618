-- The members of a value that is read.
use Rattle.std.specs.Prelude.{◌≡◌, ◌⊎◌, ◌&&◌, List, Some, Result, IsTrue, IfErr}
use Rattle.relay_types.specs.Values.{Text, is_target, is_max_limit}
use Rattle.text_lines.specs.Words.{AreSecretTexts}
use Rattle.serde_json.specs.Data.{Num, unsigned, Data, number, string}
use Rattle.serde_json.specs.Find.{get}
use Rattle.desk.specs.declared.command.Command.{Command}
use Rattle.desk.specs.declared.command.Command.TheVariants.{PutEndpoint}
use Rattle.intake_shed.specs.declared.fault.RequestError.{RequestError}
use Rattle.intake_shed.specs.declared.fault.RequestError.TheVariants.{BadBody, OutOfMemory}

abbrev pub HasTextMember : (value : Data) (name text : Text) → Type 0
HasTextMember value name text = get name value ≡ Some (string text)

abbrev pub HasNumberMember : (value : Data) (name : Text) → Num → Type 0
HasNumberMember value name n = get name value ≡ Some (number n)

-- only a bad body, or a failed allocation, is a fault here
abbrev pub IsBodyFault : {A : Type 0} → Result A RequestError → Type 0
IsBodyFault result = IfErr result (λ fault. (fault ≡ BadBody) ⊎ (fault ≡ OutOfMemory))

-- the command of a new endpoint with these members
abbrev pub IsPutOf : (name url : Text) (max : Num) (secrets : List Text) → Command → Type 0
IsPutOf name url max secrets (PutEndpoint its target limit given) =
    (its ≡ name) × (target ≡ url) × (max ≡ unsigned limit)
    × IsTrue (is_target url && is_max_limit limit) × AreSecretTexts secrets given
IsPutOf name url max secrets command = ⊥
