-- How the signing of a body ends.
use Rattle.std.proofs.Common.{◌≡◌, ◌≢◌, ℕ, ◌⊎◌, inl, inr, List, Option, Err, sym, subst, ◌∙◌}
use Rattle.std.specs.Io.KnownBytes.{Keeps}
use Rattle.text_lines.specs.declared.fault.StreamFault.{StreamFault}
use Rattle.text_lines.specs.declared.fault.StreamFault.TheVariants.{TooLong, Read, Write, OutOfMemory}
use Rattle.tool_commands.specs.declared.sign_command.SignWords.{SignWords}
use Rattle.command_interface.specs.declared.exit_status.CommandFault.TheVariants.{Ended}
use Rattle.tool_commands.specs.Signs.{AreAsked, SignsFront, IsNoBody, WritesSignature}

-- a fault after the arguments were read
pub failed : (id at : List ℕ) (texts : List (List ℕ)) (asked : SignWords) (input old new : Option (List ℕ))
    (fault : StreamFault) → AreAsked id at texts asked
    → (fault ≡ TooLong → IsNoBody input) → (fault ≡ Write → SignsFront input old new asked) → (fault ≡ Write)
    ⊎ Keeps old new
    → (fault ≡ TooLong) ⊎ ((fault ≡ Read) ⊎ ((fault ≡ Write) ⊎ (fault ≡ OutOfMemory)))
    → WritesSignature id at texts input old new (Err (Ended fault))
failed id at texts asked input old new fault h long cut unwritten why = by why
  where
    at_fault : (named : StreamFault) → fault ≡ named → WritesSignature id at texts input old new (Err (Ended named))
        → WritesSignature id at texts input old new (Err (Ended fault))
    at_fault named e = subst (λ f. WritesSignature id at texts input old new (Err (Ended f))) (sym e)

    kept : (named : StreamFault) → fault ≡ named → named ≢ Write → Keeps old new
    kept named e other = elim unwritten [ inl w ↦ absurd (other (sym e ∙ w)) | inr same ↦ same ]

    by : (fault ≡ TooLong) ⊎ ((fault ≡ Read) ⊎ ((fault ≡ Write) ⊎ (fault ≡ OutOfMemory)))
        → WritesSignature id at texts input old new (Err (Ended fault))
    by (inl e) = at_fault TooLong e ((asked, h, long e), kept TooLong e (λ w. cc))
    by (inr (inl e)) = at_fault Read e (asked, h, kept Read e (λ w. cc))
    by (inr (inr (inl e))) = at_fault Write e (asked, h, cut e)
    by (inr (inr (inr e))) = at_fault OutOfMemory e ((h.0, (asked.at, h.2)), kept OutOfMemory e (λ w. cc))
