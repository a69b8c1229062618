-- What a commit of the batch that is held makes of the core, the store and their session.
use Rattle.std.proofs.Common.{◌≡◌, ℕ, ◌-◌, ◌≤◌, Bool, true, false, List, [], ◌∷◌, ◌++◌, length, Some, None, Result, Err}
use Rattle.std.proofs.Common.{◌⊎◌, inl, inr, refl, sym, ap, subst, ◌∙◌}
use mathlib.Core.Logic.{∥∥₁_map}
use Rattle.std.specs.Prelude.{IsTrue, option_map, if◌then◌else◌}
use Rattle.sqlite.specs.Store.{Ghosts}
use Rattle.sqlite.specs.Held as store
use Rattle.relay_types.specs.declared.record.Record.{Record}
use Rattle.relay_types.specs.Records.{records_of}
use Rattle.relay_types.specs.Legal.{IsLegal}
use Rattle.relay_types.specs.Rows.{Rows, rows_of}
use Rattle.relay_types.proofs.KnownLaws.{legal_front}
use Rattle.spool_sql.specs.Steps.{MayLeave, Stands}
use Rattle.spool.specs.Batches.{BatchValue, doubt_of}
use Rattle.spool.specs.declared.faults.CommitEnd.{CommitEnd}
use Rattle.spool.specs.declared.faults.CommitEnd.TheVariants as ends
use Rattle.spool.specs.declared.faults.Unchanged.{Unchanged}
use Rattle.spool.specs.declared.faults.Unchanged.TheVariants as why
use Rattle.spool.specs.Commits.{IsNext, IsDoubt, IsIllegal, LeavesHistory}
use Rattle.spool.specs.Writing.{RestsInDoubt}
use Rattle.spool.specs.Vaults.{VaultValue}
use Rattle.script_lines.specs.declared.reply.Reply.{Reply}
use Rattle.script_lines.specs.declared.reply.Reply.TheVariants as says
use Rattle.group_commit.specs.Waits.{batch_out}
use Rattle.desk.specs.World.{World, Out, Batch, Receipt, Doubt, settled_records, sealed_records}
use Rattle.desk.specs.Moves.{sealed_batch, is_nothing_out}
use Rattle.desk.specs.Desks.{DeskValue, StandsFor}
use Rattle.drill.specs.declared.held.Held.{Held}
use Rattle.drill.specs.declared.held.Held.TheVariants as held
use Rattle.drill.specs.declared.calls.Core.{Core}
use Rattle.drill.specs.Moves.{Session, MayReply, commits, with_receipt, in_doubt}
use Rattle.drill.specs.Cores.{HoldsAll, HoldsOut, IsHeld, IsOfBatch, CoreStandsFor, IsCore}
use Rattle.drill.specs.Runners.{Answers, EndsCommit, CommitsNext, unchanged_reply}
use Rattle.recovery.specs.Left.{IsOpenAt, AreOfSteps, HoldsLeft, LeavesBy, VaultStandsFor, KeepsRows, rows_of_first}
use Rattle.drill.proofs.BatchLaws.{settled_and_batch, sealed_is_prefix}

-- the desk represents the world in which something else is out
out_again : (desk : DeskValue) (w : World) (o : Out) (left : List ℕ) → StandsFor desk w
    → is_nothing_out w.out ≡ is_nothing_out o → StandsFor desk (record w { out = o; left = left })
out_again desk w o left s same = record {
  clock = s.clock;
  halted = s.halted;
  books = s.books;
  waiting = record {
    steps = s.waiting.steps;
    settled_seq = s.waiting.settled_seq;
    is_out = s.waiting.is_out ∙ ap (λ (b : Bool). if b then None else Some (w.sealed - w.settled)) same;
    settled_first = s.waiting.settled_first;
    sealed_within = s.waiting.sealed_within;
  };
  live = s.live;
  limits = s.limits;
}

-- the rows of the old history or of the longer one are those of the settled steps or of the sealed
-- ones
doubt_leaves : {S : Type 0} (g : Ghosts S) (vault : VaultValue S) (batch : BatchValue) (w : World)
    → settled_records w ++ records_of batch.steps ≡ sealed_records w
    → RestsInDoubt (store.state g vault.conn) (settled_records w) (records_of batch.steps)
    → MayLeave (store.state g vault.conn) (AreOfSteps w (w.settled ∷ w.sealed ∷ []))
doubt_leaves g vault batch w whole may =
    λ db left. let (rows, either, is) = may.leaves db left
    in (rows, elim either [ inl old ↦ inl old | inr (legal, new) ↦ inr (inl (new ∙ ap rows_of whole)) ], is)

-- what a commit leaves of the core, whatever the store did

-- the world once this is held
abbrev pub world_by : Held → World → World
world_by held.Nothing w = w
world_by (held.Batch batch) w = w
world_by (held.Receipt receipt) w = with_receipt w
world_by (held.Doubt doubt) w = in_doubt w

core_committed : {L : Type 0} (core : Core L) (s : Session) (batch : BatchValue) (now : Held) → CoreStandsFor core s
    → held.Batch batch ≡ core.held → IsOfBatch batch now
    → CoreStandsFor (record core { held = now }) (record s { world = world_by now s.world })
core_committed core s batch now on was = at now (subst (IsHeld core.desk.waiting.mark s.world) (sym was) on.held)
  where
    at : (now : Held) → (s.world.out ≡ Batch) × (batch ≡ sealed_batch core.desk.waiting.mark s.world)
        → IsOfBatch batch now → CoreStandsFor (record core { held = now }) (record s { world = world_by now s.world })
    at held.Nothing had h = absurd h
    at (held.Batch back) had h = record {
      desk = on.desk;
      held = (had.0, h ∙ had.1);
      permits = on.permits;
      once =
          on.once;
      tickets = on.tickets;
    }
    at (held.Receipt receipt) had h =
        record {
          desk = out_again core.desk s.world Receipt (s.world.sealed ∷ []) on.desk (ap is_nothing_out had.0);
          held = (refl, h ∙ had.1);
          permits = on.permits;
          once = on.once;
          tickets = on.tickets;
        }
    at (held.Doubt doubt) had h =
        record {
          desk = out_again core.desk s.world Doubt (s.world.settled ∷ s.world.sealed ∷ []) on.desk
              (ap is_nothing_out had.0);
          held = (refl, h ∙ ap doubt_of had.1);
          permits = on.permits;
          once = on.once;
          tickets = on.tickets;
        }

pub core_kept : {L : Type 0} (old new : Core L) (batch : BatchValue) → IsCore old → held.Batch batch ≡ old.held
    → IsOfBatch batch new.held → new ≡ record old { held = new.held } → IsCore new
core_kept old new batch core was of same = subst IsCore (sym same) (∥∥₁_map core (λ (h : HoldsAll old). record {
  permits = h.permits;
  out = at new.held of (subst (HoldsOut (batch_out old.desk.waiting)) (sym was) h.out);
}))
  where
    at : (now : Held) → IsOfBatch batch now → batch_out old.desk.waiting ≡ Some batch
        → HoldsOut (batch_out old.desk.waiting) now
    at held.Nothing none e = absurd none
    at (held.Batch back) is e = e ∙ ap (λ b. Some b) (sym is)
    at (held.Receipt receipt) is e = e ∙ ap (λ b. Some b) (sym is)
    at (held.Doubt doubt) is e = ap (option_map doubt_of) e ∙ ap (λ d. Some d) (sym is)

-- what it leaves of the store, and the reply
ends_commit : {S : Type 0} (g : Ghosts S) (vault : VaultValue S) (mark : ℕ) (batch : BatchValue) (now : Held)
    (reply : Reply) (s : Session) → s.world.settled ≤ s.world.sealed
    → (s.world.out ≡ Batch) × (batch ≡ sealed_batch mark s.world) → LeavesBy s.world.out s.world
    → EndsCommit g vault (settled_records s.world) batch now reply
    → MayReply (commits s s.world.out) reply (record s { world = world_by now s.world })
    × VaultStandsFor g vault (world_by now s.world)
ends_commit g vault mark batch (held.Receipt receipt) reply s below had leaves h =
    let whole : settled_records s.world ++ records_of batch.steps ≡ sealed_records s.world =
    ap (λ (r : BatchValue). settled_records s.world ++ records_of r.steps) had.1 ∙ settled_and_batch mark s.world below
    in
    let open_at : IsOpenAt g vault (sealed_records s.world) = subst (IsOpenAt g vault) whole h.2 in
    let (free, (holds, stop)) = open_at in
    let said : reply ≡ says.Committed (length (sealed_records s.world)) = h.1 ∙ ap says.Committed holds.next in (
      subst (λ o. MayReply (commits s o) reply (record s { world = with_receipt s.world })) (sym had.0)
          (inl (said, refl)),
      record { leaves = refl; holds = open_at },
    )
ends_commit g vault mark batch (held.Batch back) reply s below had leaves h = (
  subst (λ o. MayReply (commits s o) reply s) (sym had.0) (inr (inl (h.1, refl))),
  record {
    leaves = leaves;
    holds = subst (HoldsLeft g vault s.world)
        (sym (subst (λ o. LeavesBy o s.world) had.0 leaves)) h.2;
  },
)
ends_commit g vault mark batch (held.Doubt doubt) reply s below had leaves (is, said, shut, may) =
    let whole : settled_records s.world ++ records_of batch.steps ≡ sealed_records s.world =
    ap (λ (r : BatchValue). settled_records s.world ++ records_of r.steps) had.1 ∙ settled_and_batch mark s.world below
    in (
      subst (λ o. MayReply (commits s o) reply (record s { world = in_doubt s.world })) (sym had.0)
          (inr (inr (inl (said, refl)))),
      record { leaves = refl; holds = (shut, doubt_leaves g vault batch s.world whole may, may.stands) },
    )
ends_commit g vault mark batch held.Nothing reply s below had leaves h = absurd h

-- the store takes the next batch, unless it has no memory
pub unchanged_ends : {S : Type 0} (g : Ghosts S) (old new : VaultValue S) (batch back : BatchValue) (reason : Unchanged)
    (result : Result BatchValue CommitEnd) → result ≡ Err (ends.Unchanged back reason) → back ≡ batch
    → (result ≡ Err (ends.Unchanged batch why.Closed) → IsTrue old.closed)
    → (result ≡ Err (ends.Unchanged batch why.OutOfTurn) → IsNext old batch → ⊥)
    → (result ≡ Err (ends.Unchanged batch why.Illegal) → IsIllegal g old batch)
    → (IsTrue new.closed → IsTrue old.closed ⊎ IsDoubt result) → LeavesHistory g old new batch result
    → (records : List Record) → IsOpenAt g old records → IsNext old batch → IsLegal (records ++ records_of batch.steps)
    → EndsCommit g new records batch (held.Batch back) (unchanged_reply reason)
unchanged_ends g old new batch back why.Closed result is same closed turn illegal doubt over records open_at next
    legal =
    absurd (let shut : old.closed ≡ true = closed (is ∙ ap (λ b. Err (ends.Unchanged b why.Closed)) same)
    in let free : old.closed ≡ false = open_at.0 in cc)
unchanged_ends g old new batch back why.OutOfTurn result is same closed turn illegal doubt over records open_at next
    legal =
    absurd (turn (is ∙ ap (λ b. Err (ends.Unchanged b why.OutOfTurn)) same) next)
unchanged_ends g old new batch back why.Illegal result is same closed turn illegal doubt over records open_at next
    legal =
    let (free, (holds, leaves)) = open_at
    in absurd (illegal (is ∙ ap (λ b. Err (ends.Unchanged b why.Illegal)) same) records holds legal)
unchanged_ends g old new batch back why.OutOfMemory result is same closed turn illegal doubt over records open_at next
    legal =
    let (free, (holds, leaves)) = open_at
    in (same, refl, (at new.closed refl, subst (LeavesHistory g old new batch) is over records holds))
  where
    at : (b : Bool) → new.closed ≡ b → b ≡ false
    at false e = refl
    at true e = elim (doubt e) [
      | inl h ↦ absurd (let shut : old.closed ≡ true = h in let free : old.closed ≡ false = open_at.0 in cc)
      | inr h ↦ absurd (subst IsDoubt is h)
    ]

pub answers_commit : {L S : Type 0} (g : Ghosts S) (old new : Core L) (vault later : VaultValue S) (batch : BatchValue)
    (reply : Reply) → held.Batch batch ≡ old.held → new ≡ record old { held = new.held }
    → IsOfBatch batch new.held → later.mark ≡ vault.mark → CommitsNext g vault later batch new.held reply
    → Answers g old vault (λ s. commits s s.world.out) reply new later
answers_commit g old new vault later batch reply was same of mark commit s on =
    let w = s.world in
    let had : (w.out ≡ Batch) × (batch ≡ sealed_batch old.desk.waiting.mark w) = subst (IsHeld old.desk.waiting.mark w)
    (sym was) on.stands.held in
    let left : w.left ≡ w.settled ∷ [] = subst (λ o. LeavesBy o w) had.0 on.holds.leaves in
    let open_at : IsOpenAt g vault (settled_records w) = subst (HoldsLeft g vault w) left on.holds.holds in
    let (free, (holds, stop)) = open_at in
    let next : IsNext vault batch =
    (ap (λ (r : BatchValue). r.mark) had.1 ∙ on.mark, ap (λ (r : BatchValue). r.from) had.1 ∙ sym holds.next) in
    let below = on.stands.desk.waiting.settled_first in
    let whole : settled_records w ++ records_of batch.steps ≡ sealed_records w =
    ap (λ (r : BatchValue). settled_records w ++ records_of r.steps) had.1
    ∙ settled_and_batch old.desk.waiting.mark w below in
    let legal : IsLegal (sealed_records w) = legal_front (sealed_records w) _
    (subst IsLegal (sym (sealed_is_prefix w)) on.stands.desk.books.legal) in
    let ends = commit (settled_records w) open_at next (subst IsLegal (sym whole) legal) in
    let after = ends_commit g later old.desk.waiting.mark batch new.held reply s below had on.holds.leaves ends in (
      record s { world = world_by new.held w },
      after.0,
      record {
        stands = subst (λ c. CoreStandsFor c (record s { world = world_by new.held w })) (sym same)
            (core_committed old s batch new.held on.stands was of);
        holds = after.1;
        mark = ap (λ c. c.desk.waiting.mark) same ∙ on.mark ∙ sym mark;
      },
    )

-- The rows that the vault's connection keeps

pub rows_kept : {S : Type 0} (g : Ghosts S) (vault : VaultValue S) (w : World) → VaultStandsFor g vault w
    → KeepsRows g vault.conn w
rows_kept g vault w h = record {
  leaves = leaves w.left h.holds;
  stand = λ steps e. let (free, (holds, stop)) = subst (HoldsLeft g vault w) e h.holds in holds.stands;
  finds = λ is_open. finds is_open w.left h.holds;
}
  where
    leaves : (left : List ℕ) → HoldsLeft g vault w left → MayLeave (store.state g vault.conn) (AreOfSteps w left)
    leaves [] nothing = absurd nothing
    leaves (steps ∷ []) (free, (holds, stop)) = λ db left. let (rows, of, is) = stop db left in (rows, inl of, is)
    leaves (steps ∷ other ∷ more) (shut, may, stands) = may

    finds : IsTrue (store.state g vault.conn).is_open → (left : List ℕ) → HoldsLeft g vault w left → (rows : Rows)
        × AreOfSteps w left rows × Stands (store.state g vault.conn) rows
    finds is_open [] nothing = absurd nothing
    finds is_open (steps ∷ []) (free, (holds, stop)) = (rows_of_first w steps, inl refl, holds.stands)
    finds is_open (steps ∷ other ∷ more) (shut, may, stands) = (rows_of_first w steps, inl refl, stands is_open)
