use Rattle.std.proofs.Common.{◌≡◌, ℕ, List, [], ◌∷◌, ◌++◌, Option, Some, None, Result, Ok, Err, IfSome, OnOk, sym}
use Rattle.std.proofs.Common.{subst, ◌∙◌, ap}
use Rattle.std.proofs.lemmas.Fmt.{contents_after_writes}
use Rattle.std.specs.Fmt.{WritesText, ◌++?◌}
use Rattle.std.specs.Io.KnownBytes.{Appends}
use Rattle.std.specs.Prelude.{codes}
use Rattle.arrayvec.specs.ArrayString.{ArrayString}
use Rattle.text_lines.specs.Streams.{AppendsFront}
use Rattle.text_lines.proofs.StreamLaws.{AppendsFront-none, AppendsFront-from_end}
use Rattle.command_interface.specs.Reports.{fault_line}
use Rattle.command_interface.proofs.exit_status.tell_fault.Given.{Over}
use Rattle.command_interface.proofs.exit_status.tell_fault.Goals as goal

-- The bytes are the line of the fault, if its text is known.
abbrev IsLine : List ℕ → Option (List ℕ) → Type 0
IsLine bytes text = IfSome text (λ known. bytes ≡ fault_line known)

-- a text that was empty is what was written into it
line_written : (old new : ArrayString) (text : Option (List ℕ)) → old.bytes ≡ []
    → WritesText (λ (s : ArrayString) (bs : List ℕ) (t : ArrayString). t.bytes ≡ s.bytes ++ bs) old
    (Some (codes "relayd: ") ++? (text ++? Some (10 ∷ []))) new
    → IsLine new.bytes text
line_written old new None empty wrote = tt
line_written old new (Some known) empty wrote =
    contents_after_writes (λ (s : ArrayString) (bs : List ℕ) (t : ArrayString). t.bytes ≡ s.bytes ++ bs)
    (λ (s : ArrayString). s.bytes) (λ w bs v e. e) old (fault_line known) new wrote
    ∙ ap (λ xs. xs ++ fault_line known) empty

module _ (P : List ℕ → Type 0) (bytes : List ℕ) where
  of_line : (text : Option (List ℕ)) → IsLine bytes text → P bytes → IfSome text (λ known. P (fault_line known))
  of_line None is holds = tt
  of_line (Some known) is holds = subst P is holds

  of_line_on_ok : {T E : Type 0} (r : Result T E) (text : Option (List ℕ)) → IsLine bytes text → OnOk r (P bytes)
      → OnOk r (IfSome text (λ known. P (fault_line known)))
  of_line_on_ok (Ok x) text is holds = of_line text is holds
  of_line_on_ok (Err e) text is holds = tt

of_any : (P : List ℕ → Type 0) (text : Option (List ℕ)) → ((known : List ℕ) → P known) → IfSome text P
of_any P None holds = tt
of_any P (Some known) holds = holds known

is_line : (g : Over) (c : goal.After-write_bytes g) → IsLine c.as_bytes.result.now (g.F.Display.output c.args.fault.now)
is_line g c =
    subst (λ (bytes : List ℕ). IsLine bytes (g.F.Display.output c.args.fault.now))
    (sym (c.as_bytes.ensures.value ∙ c.as_str.ensures.value))
    (line_written c.new-line.result c.writeln.new.self (g.F.Display.output c.args.fault.now) c.new-line.ensures
    c.in-Ok.ensures.writes)

pub returns-in-Ok-clause-told : goal.returns-in-Ok-clause-told
returns-in-Ok-clause-told g c =
    of_line_on_ok (Appends (g.E.Write.contents c.args.errors.now) (g.E.Write.contents c.write_bytes.new.output))
    c.as_bytes.result.now
    c.write_bytes.result (g.F.Display.output c.args.fault.now) (is_line g c) c.write_bytes.ensures.written

pub returns-in-Ok-clause-front : goal.returns-in-Ok-clause-front
returns-in-Ok-clause-front g c =
    of_line (AppendsFront (g.E.Write.contents c.args.errors.now) (g.E.Write.contents c.write_bytes.new.output))
    c.as_bytes.result.now
    (g.F.Display.output c.args.fault.now) (is_line g c)
    (AppendsFront-from_end c.write_bytes.result _ _ _ c.write_bytes.ensures.written c.write_bytes.ensures.failed)

pub returns-in-Err-clause-front : goal.returns-in-Err-clause-front
returns-in-Err-clause-front g c = of_any _ (g.F.Display.output c.args.fault.now)
    (λ known. AppendsFront-none (g.E.Write.contents c.args.errors.now) (fault_line known))
