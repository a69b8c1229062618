-- What `relayd sign` is asked by its arguments, and what it writes, by how it ends.
use Rattle.std.specs.Prelude.{◌≡◌, ℕ, ◌<◌, ◌≤◌, false, List, length, decimal, Option, Result, Ok, Err, IsTrue, IfSome}
use Rattle.std.specs.Io.KnownBytes.{Appends, Keeps}
use Rattle.hmac_signer.specs.Signature.{signature_header}
use Rattle.relay_types.specs.Values.{is_msg_id, is_moment}
use Rattle.relay_types.specs.declared.limits.TheConstants.{MAX_BODY_BYTES}
use Rattle.relay_types.specs.declared.fault.ReadFault.{ReadFault}
use Rattle.relay_types.specs.declared.fault.ReadFault.TheVariants.{BadId, BadMoment, BadSecret}
use Rattle.text_lines.specs.declared.fault.StreamFault.TheVariants.{TooLong, Read, Write, OutOfMemory}
use Rattle.text_lines.specs.Words.{AreSecretTexts}
use Rattle.text_lines.specs.Streams.{AppendsFront, with_feed}
use Rattle.command_interface.specs.declared.exit_status.CommandFault.{CommandFault}
use Rattle.command_interface.specs.declared.exit_status.CommandFault.TheVariants.{Argument, Ended}
use Rattle.tool_commands.specs.declared.sign_command.SignWords.{SignWords}
use Rattle.command_interface.specs.Reports.{Reports}

-- the text of a moment, in whole seconds
abbrev pub IsMomentText : List ℕ → ℕ → Type 0
IsMomentText text moment = IsTrue (is_moment moment) × (text ≡ decimal moment)

-- the arguments read as this id, this moment and these secrets
abbrev pub AreAsked : List ℕ → List ℕ → List (List ℕ) → SignWords → Type 0
AreAsked id at texts asked = IsTrue (is_msg_id id) × (asked.id ≡ id) × IsMomentText at asked.at
    × AreSecretTexts texts asked.secrets

-- the header of the body, and a line feed
abbrev pub signed_line : SignWords → List ℕ → List ℕ
signed_line asked body = with_feed (signature_header asked.secrets asked.id asked.at body)

-- an id, a moment and secrets are read from the arguments, of which this holds
abbrev pub Asks : List ℕ → List ℕ → List (List ℕ) → (SignWords → Type 0) → Type 0
Asks id at texts Holds = (asked : SignWords) × AreAsked id at texts asked × Holds asked

-- the first two arguments, which are read before the secrets
abbrev pub HasIdAndMoment : List ℕ → List ℕ → Type 0
HasIdAndMoment id at = IsTrue (is_msg_id id) × ((moment : ℕ) × IsMomentText at moment)

-- This is the first refusal of the arguments, read in their order.
abbrev pub Refuses : List ℕ → List ℕ → List (List ℕ) → ReadFault → Type 0
Refuses id at texts BadId = is_msg_id id ≡ false
Refuses id at texts BadMoment = IsTrue (is_msg_id id) × ((moment : ℕ) → IsMomentText at moment → ⊥)
Refuses id at texts BadSecret = HasIdAndMoment id at × ((secrets : List (List ℕ)) → AreSecretTexts texts secrets → ⊥)
Refuses id at texts fault = ⊥

-- Known bytes of a reader are a body within its bound, and those of a writer grew by its line.
abbrev pub Signs : Option (List ℕ) → Option (List ℕ) → Option (List ℕ) → SignWords → Type 0
Signs input old new asked = IfSome input (λ body. (length body ≤ MAX_BODY_BYTES)
    × Appends old new (signed_line asked body))

-- the same with a front of the line
abbrev pub SignsFront : Option (List ℕ) → Option (List ℕ) → Option (List ℕ) → SignWords → Type 0
SignsFront input old new asked = IfSome input (λ body. (length body ≤ MAX_BODY_BYTES)
    × AppendsFront old new (signed_line asked body))

-- known bytes of a reader are more than a body has room for
abbrev pub IsNoBody : Option (List ℕ) → Type 0
IsNoBody input = IfSome input (λ body. MAX_BODY_BYTES < length body)

-- What is written at an end. Memory may be refused only once an id and a moment were read.
abbrev pub WritesSignature : List ℕ → List ℕ → List (List ℕ) → Option (List ℕ) → Option (List ℕ) → Option (List ℕ)
    → Result (Unit {0}) CommandFault → Type 0
WritesSignature id at texts input old new (Ok done) = Asks id at texts (Signs input old new)
WritesSignature id at texts input old new (Err (Argument fault)) = Refuses id at texts fault × Keeps old new
WritesSignature id at texts input old new (Err (Ended TooLong)) =
    Asks id at texts (λ asked. IsNoBody input) × Keeps old new
WritesSignature id at texts input old new (Err (Ended Read)) = Asks id at texts (λ asked. Keeps old new)
WritesSignature id at texts input old new (Err (Ended Write)) = Asks id at texts (SignsFront input old new)
WritesSignature id at texts input old new (Err (Ended OutOfMemory)) = HasIdAndMoment id at × Keeps old new
WritesSignature id at texts input old new _ = ⊥

-- So it is, and the exit status and standard error tell of the same end.
abbrev pub ReportsSignature : List ℕ → List ℕ → List (List ℕ) → Option (List ℕ) → Option (List ℕ) → Option (List ℕ)
    → Option (List ℕ) → Option (List ℕ) → ℕ → Type 0
ReportsSignature id at texts input old new untold told status =
    Reports (WritesSignature id at texts input old new) untold told status
