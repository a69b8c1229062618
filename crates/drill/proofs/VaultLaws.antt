-- A call of the desk leaves the store as it is, and what the store is for the world.
use Rattle.std.proofs.Common.{◌≡◌, ℕ, ◌≤◌, false, List, [], ◌∷◌, length, inl, inr, refl, sym, ap, subst, ◌∙◌, arith}
use Rattle.std.specs.List.{AllByRecursion}
use Rattle.sqlite.specs.Store.{Ghosts}
use Rattle.sqlite.specs.Held.{state}
use Rattle.relay_types.specs.Rows.{Rows, rows_of}
use Rattle.spool_sql.specs.Steps.{Stands}
use Rattle.spool.specs.Vaults.{VaultValue}
use Rattle.script_lines.specs.declared.call.Call.{Call}
use Rattle.script_lines.specs.declared.reply.Reply.{Reply}
use Rattle.desk.specs.World.{World, Out, Nothing, Batch, Receipt, Doubt}
use Rattle.desk.specs.Moves.{with_halt}
use Rattle.drill.specs.Moves.{Session, MayReply, answer_to}
use Rattle.drill.specs.Cores.{is_commit}
use Rattle.recovery.specs.Left.{IsOpenAt, AreOfSteps, LeavesBy, HoldsLeft, VaultStandsFor}
use Rattle.drill.proofs.CoreLaws.{Goes, same_first}
use Rattle.drill.proofs.FollowLaws.{follows}

pub leaves_goes : (w next : World) (o : Out) → Goes w next → LeavesBy o w → LeavesBy o next
leaves_goes w next Nothing g (inl e) = inl (g.left ∙ e ∙ ap (λ k. k ∷ []) (sym g.settled))
leaves_goes w next Nothing g (inr (h, e)) = inr
    (g.halted ∙ h, g.left ∙ e ∙ (λ i. sym g.settled i ∷ sym g.sealed i ∷ []))
leaves_goes w next Batch g e = g.left ∙ e ∙ ap (λ k. k ∷ []) (sym g.settled)
leaves_goes w next Receipt g e = g.left ∙ e ∙ ap (λ k. k ∷ []) (sym g.sealed)
leaves_goes w next Doubt g e = g.left ∙ e ∙ (λ i. sym g.settled i ∷ sym g.sealed i ∷ [])

-- only the settled steps and the sealed ones survive a crash
pub each_left : (P : ℕ → Type 0) (w : World) (o : Out) → LeavesBy o w → P w.settled → P w.sealed
    → AllByRecursion P w.left
each_left P w Nothing (inl e) settled sealed = subst (AllByRecursion P) (sym e) (settled, tt)
each_left P w Nothing (inr (h, e)) settled sealed = subst (AllByRecursion P) (sym e) (settled, (sealed, tt))
each_left P w Batch e settled sealed = subst (AllByRecursion P) (sym e) (settled, tt)
each_left P w Receipt e settled sealed = subst (AllByRecursion P) (sym e) (sealed, tt)
each_left P w Doubt e settled sealed = subst (AllByRecursion P) (sym e) (settled, (sealed, tt))

steps_go : (w next : World) (left : List ℕ) (rows : Rows) → Goes w next
    → AllByRecursion (λ k. k ≤ length w.history) left → AreOfSteps w left rows → AreOfSteps next left rows
steps_go w next [] rows g within h = h
steps_go w next (k ∷ left) rows g within (inl e) = inl (e ∙ ap rows_of (same_first w next k g within.0))
steps_go w next (k ∷ left) rows g within (inr h) = inr (steps_go w next left rows g within.1 h)

holds_goes : {S : Type 0} (g : Ghosts S) (vault : VaultValue S) (w next : World) (left : List ℕ) → Goes w next
    → AllByRecursion (λ k. k ≤ length w.history) left → HoldsLeft g vault w left → HoldsLeft g vault next left
holds_goes g vault w next [] goes within h = h
holds_goes g vault w next (k ∷ []) goes within h = subst (IsOpenAt g vault) (same_first w next k goes within.0) h
holds_goes g vault w next (k ∷ other ∷ more) goes within (shut, may, stands) = (
  shut,
  (λ db is. let (rows, of, are) = may db is in (rows, steps_go w next (k ∷ other ∷ more) rows goes within of, are)),
  λ is_open. subst (Stands (state g vault.conn)) (ap rows_of (same_first w next k goes within.0)) (stands is_open),
)

vault_goes : {S : Type 0} (g : Ghosts S) (vault : VaultValue S) (w next : World) → Goes w next → w.settled ≤ w.sealed
    → w.sealed ≤ length w.history → VaultStandsFor g vault w → VaultStandsFor g vault next
vault_goes g vault w next goes below within h = record {
  leaves = subst (λ o. LeavesBy o next) (sym goes.out) (leaves_goes w next w.out goes h.leaves);
  holds = subst (HoldsLeft g vault next) (sym goes.left)
      (holds_goes g vault w next w.left goes
      (each_left (λ k. k ≤ length w.history) w w.out h.leaves (omega arith) within) h.holds);
}

-- the settled steps survive a crash, if nothing is out at a desk that isn't halted
pub leaves_settled : (w : World) → w.halted ≡ false → LeavesBy Nothing w → w.left ≡ w.settled ∷ []
leaves_settled w going (inl e) = e
leaves_settled w going (inr (halted, e)) = absurd (let no = halted in cc)

-- if the settled steps survive a crash, they still do once a committer halts the desk
pub left_on_halt : (w : World) (o : Out) → (o ≡ Receipt → ⊥) → LeavesBy o w → LeavesBy Nothing (with_halt w)
left_on_halt w Nothing other (inl left) = inl left
left_on_halt w Nothing other (inr (halted, left)) = inr (refl, left)
left_on_halt w Batch other left = inl left
left_on_halt w Receipt other left = absurd (other refl)
left_on_halt w Doubt other left = inr (refl, left)

pub vault_follows : {S : Type 0} (g : Ghosts S) (vault : VaultValue S) (s next : Session) (event : Call) (reply : Reply)
    → is_commit event ≡ false → s.world.settled ≤ s.world.sealed → s.world.sealed ≤ length s.world.history
    → VaultStandsFor g vault s.world → MayReply (answer_to s event) reply next → VaultStandsFor g vault next.world
vault_follows g vault s next event reply own below within h = follows (VaultStandsFor g vault) s next event reply own
    (record {
      stays = h;
      goes = λ other g'. vault_goes g vault s.world other g' below within h;
      seals = λ going free. record {
        leaves = leaves_settled s.world going (subst (λ o. LeavesBy o s.world) free h.leaves);
        holds = h.holds;
      };
      settles = λ e. record { leaves = inl (subst (λ o. LeavesBy o s.world) e h.leaves); holds = h.holds };
      unseals = λ e. record { leaves = inl (subst (λ o. LeavesBy o s.world) e h.leaves); holds = h.holds };
      halts = λ other. record { leaves = left_on_halt s.world s.world.out other h.leaves; holds = h.holds };
    })
