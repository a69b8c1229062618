-- After a stop the store is opened again on what was left.
use Rattle.std.proofs.Common.{◌≡◌, List, [], ◌∷◌, length, take, Result, Ok, Err, inl, inr, refl, sym, ap, subst, ◌∙◌}
use Rattle.std.proofs.Math.Seq.{take-length}
use Rattle.std.specs.Prelude.{IfOk, IsTrue}
use Rattle.sqlite.specs.Store.{Ghosts}
use Rattle.sqlite.specs.Held.{Held, state}
use Rattle.relay_types.specs.Records.{History, records_of}
use Rattle.spool.specs.Vaults.{VaultValue}
use Rattle.script_lines.specs.declared.call.Call.{Call}
use Rattle.script_lines.specs.declared.call.Line.TheVariants as as_line
use Rattle.script_lines.specs.declared.reply.Reply.{Reply}
use Rattle.script_lines.specs.declared.reply.Reply.TheVariants as says
use Rattle.desk.specs.World.{World, Nothing}
use Rattle.desk.specs.Desks.{DeskValue, StandsFor}
use Rattle.recovery.specs.Left.{FindsLeft}
use Rattle.recovery.specs.Reopenings.{AreOpenedAtOne, IsOpenBehind, ReopensLeft, opening_of}
use Rattle.drill.specs.declared.calls.Core.{Core}
use Rattle.drill.specs.Cores.{CoreStandsFor}
use Rattle.drill.specs.declared.player.State.{State}
use Rattle.drill.specs.declared.player.State.TheVariants.{Open}
use Rattle.drill.specs.declared.runner.Runner.{Runner}
use Rattle.drill.specs.Moves.{Session, answer_to}
use Rattle.drill.specs.Replays.{AnswersLine}
use Rattle.drill.specs.Restarts.{OpensAgain}
use Rattle.drill.specs.Runners.{Answers, RunStandsFor}
use Rattle.drill.specs.Worlds.{session_of}
use Rattle.drill.proofs.CommitLaws.{rows_kept}

starts_again : {L S : Type 0} (g : Ghosts S) (s : Session) (core : Core L) (desk : DeskValue) (vault : VaultValue S)
    (left : List _) → core.desk.waiting.mark ≡ vault.mark
    → ((w : World) → StandsFor desk w → w.out ≡ Nothing → w.live ≡ []
    → CoreStandsFor core (record { world = w; tickets = [] }))
    → AreOpenedAtOne g desk vault s.world left → (next : Session) × OpensAgain s left (says.Reopened vault.next) next
    × RunStandsFor g core vault next
starts_again g s core desk vault [] marked stands none = absurd none
starts_again g s core desk vault (steps ∷ others) marked stands (inl (on, holds)) =
    let first : History = take steps s.world.history in
    let (free, (held, stop)) = holds.holds in (
      session_of (opening_of first),
      inl (ap says.Reopened (held.next ∙ ap (λ (h : History). length (records_of h)) (take-length first)), refl),
      record { stands = stands (opening_of first) on refl refl; holds = holds; mark = marked },
    )
starts_again g s core desk vault (steps ∷ others) marked stands (inr more) =
    let (next, opens, on) = starts_again g s core desk vault others marked stands more in (next, inr opens, on)

-- The store was open, so what survives a stop was in it.
pub stop_taken : {L S : Type 0} (g : Ghosts S) (s : Session) (before : Core L) (old : VaultValue S) (conn : Held S)
    (core : Core L) (desk : DeskValue) (vault : VaultValue S) → RunStandsFor g before old s → conn ≡ old.conn
    → IsOpenBehind (state g conn) (state g vault.conn) → ReopensLeft g conn desk vault → core.desk.waiting.mark
    ≡ vault.mark
    → ((w : World) → StandsFor desk w → w.out ≡ Nothing → w.live ≡ []
    → CoreStandsFor core (record { world = w; tickets = [] }))
    → (next : Session) × OpensAgain s s.world.left (says.Reopened vault.next) next × RunStandsFor g core vault next
stop_taken g s before old conn core desk vault on same (may, is_open) reopens marked stands =
    let was_open = subst (λ c. IsTrue (state g c).is_open) same (may.stays is_open).0 in
    let found = subst (λ c. FindsLeft g c s.world) (sym same) ((rows_kept g old s.world on.holds).finds was_open) in
    starts_again g s core desk vault s.world.left marked stands (reopens s.world on.stands.desk.books.legal found)

-- The player does what its runner does

module _ {L S : Type 0} (g : Ghosts S) (old new : State L S g) (runner after : Runner L S g) where
  one_runner : {a b : Runner L S g} → Open a ≡ Open b → a ≡ b
  one_runner e = cc

  stood : (s : Session) (first : Runner L S g) → old ≡ Open runner → old ≡ Open first
      → RunStandsFor g first.core first.vault s → RunStandsFor g runner.core runner.vault s
  stood s first was is on = subst (λ (r : Runner L S g). RunStandsFor g r.core r.vault s) (one_runner (sym is ∙ was)) on

  pub call_taken : (event : Call) (reply : Reply) → old ≡ Open runner → new ≡ Open after
      → Answers g runner.core runner.vault (λ s. answer_to s event) reply after.core after.vault
      → AnswersLine g old (as_line.Call event) reply new
  call_taken event reply was is answers s (first, same, on) =
      let (next, told, stands) = answers s (stood s first was same on) in (next, told, (after, is, stands))

  pub reopening_taken : (reply : Reply) → old ≡ Open runner → new ≡ Open after
      → ((s : Session) → RunStandsFor g runner.core runner.vault s → (next : Session)
      × OpensAgain s s.world.left reply next × RunStandsFor g after.core after.vault next)
      → AnswersLine g old as_line.Stop reply new
  reopening_taken reply was is opens s (first, same, on) =
      let (next, leads, stands) = opens s (stood s first was same on) in (next, leads, (after, is, stands))

-- the facts of an answer
module _ {A E : Type 0} (P Q : A → Type 0) where
  pub on_ok : (r : Result A E) → ((x : A) → P x → Q x) → IfOk r P → IfOk r Q
  on_ok (Ok x) then p = then x p
  on_ok (Err e) then p = tt
