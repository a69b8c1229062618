-- A property of worlds holds after each call of the desk, if it holds after each move.
use Rattle.std.proofs.Common.{◌≡◌, ◌≤◌, ℕ, ◌==◌, Bool, true, false, [], length, drop, Option, Some, None, Result, inl}
use Rattle.std.proofs.Common.{inr, refl, sym, subst, ◌∙◌, arith}
use Rattle.std.proofs.lemmas.List.{length-drop}
use Rattle.permits.specs.declared.row.Row.{Row}
use Rattle.retry_table.specs.declared.post.PostResult.{PostResult}
use Rattle.script_lines.specs.declared.call.Call.{Call}
use Rattle.script_lines.specs.declared.call.Call.TheVariants as on
use Rattle.script_lines.specs.declared.reply.Reply.{Reply}
use Rattle.desk.specs.declared.command.Command.{Command}
use Rattle.desk.specs.declared.command.Command.TheVariants.{PutEndpoint, SetSecrets, SetEnabled, SetSubscribed, Purge}
use Rattle.desk.specs.declared.refusal.Refusal.{Refusal}
use Rattle.group_commit.proofs.StepLaws.{fitting_within}
use Rattle.desk.specs.World.{World, Out, Nothing, Batch, Receipt, Doubt, max_sealed}
use Rattle.desk.specs.Moves.{submit, publish, change, with_batch, with_sealed_settled, with_batch_back, with_halt}
use Rattle.desk.specs.Moves.{is_nothing_out}
use Rattle.desk.specs.Claims.{JobValue, claim, with_attempt_over}
use Rattle.drill.specs.Moves.{Session, MayReply, IsOneOf, lacks, tells, seal_reply, answer_to, commands, commits}
use Rattle.drill.specs.Moves.{in_doubt, settles, unseals, halts, spends, permit_of, with_receipt}
use Rattle.drill.specs.Cores.{is_commit}
use Rattle.drill.proofs.CoreLaws.{Goes, Stages, IsClaimed, goes_change, goes_publish, goes_submit, goes_claim}
use Rattle.drill.proofs.CoreLaws.{goes_over, is_claim}
use Rattle.drill.proofs.BatchLaws.{answer_by, is_nothing}

-- a batch has steps of the history
pub sealed_within : (w : World) → w.settled ≤ length w.history → (with_batch w).sealed ≤ length w.history
sealed_within w below = omega (
  arith,
  below,
  fitting_within max_sealed (drop w.settled w.history),
  length-drop w.settled
      w.history,
)

-- it holds for the world, and for each that a move of the desk leads to from there, each move alone
pub record FollowsEach (P : World → Type 0) (w : World) : Type 0 where
  pub stays : P w
  pub stages : (next : World) → Stages w next → P next
  pub claims : (result : Result (Option JobValue) Refusal) (next : World) → IsClaimed w result next → P next
  pub spends : (delivery now : ℕ) (row : Row) (post : PostResult) → permit_of w delivery ≡ Some row
      → P (with_attempt_over w row post now)
  pub seals : w.halted ≡ false → w.out ≡ Nothing → P (with_batch w)
  pub settles : w.out ≡ Receipt → P (with_sealed_settled w)
  pub unseals : w.out ≡ Batch → P (with_batch_back w)
  pub halts : (w.out ≡ Receipt → ⊥) → P (with_halt w)

-- and by what they share
pub record Follows (P : World → Type 0) (w : World) : Type 0 where
  pub stays : P w
  pub goes : (next : World) → Goes w next → P next
  pub seals : w.halted ≡ false → w.out ≡ Nothing → P (with_batch w)
  pub settles : w.out ≡ Receipt → P (with_sealed_settled w)
  pub unseals : w.out ≡ Batch → P (with_batch_back w)
  pub halts : (w.out ≡ Receipt → ⊥) → P (with_halt w)

-- the call lacks memory
lacking : (P : World → Type 0) (s next : Session) (reply : Reply) (memory : Option ℕ) → P s.world
    → IsOneOf (lacks s memory) reply next → P next.world
lacking P s next reply None h none = absurd none
lacking P s next reply (Some number) h (inl (e, f)) = subst (λ (t : Session). P t.world) (sym f) h
lacking P s next reply (Some number) h (inr none) = absurd none

-- the call gets its answer, or is out of memory
told : (P : World → Type 0) (s next after : Session) (reply said : Reply) (memory : Option ℕ) → P s.world
    → P after.world
    → MayReply (record { reply = said; next = after; unserved = lacks s memory }) reply next → P next.world
told P s next after reply said memory h then (inl given) = subst (λ (t : Session). P t.world) (sym given.1) then
told P s next after reply said memory h then (inr without) = lacking P s next reply memory h without

-- the call gets its answer
moved : (P : World → Type 0) (next after : Session) (reply said : Reply) → P after.world
    → MayReply (record { reply = said; next = after; unserved = [] }) reply next → P next.world
moved P next after reply said then (inl given) = subst (λ (t : Session). P t.world) (sym given.1) then
moved P next after reply said then (inr none) = absurd none

follows_seal : (P : World → Type 0) (s next : Session) (reply : Reply) → FollowsEach P s.world
    → MayReply (answer_to s on.Seal) reply next → P next.world
follows_seal P s next reply h = at s.world.halted (is_nothing_out s.world.out)
    (length s.world.history == s.world.settled) refl (is_nothing s.world.out)
  where
    at : (halted nothing idle : Bool) → s.world.halted ≡ halted → (nothing ≡ true → s.world.out ≡ Nothing)
        → MayReply (tells seal_reply s (answer_by 0 s.world halted nothing idle)) reply next → P next.world
    at true nothing idle going free = moved P next s reply _ h.stays
    at false false idle going free = moved P next s reply _ h.stays
    at false true true going free = moved P next s reply _ h.stays
    at false true false going free = told P s next (record s { world = with_batch s.world }) reply _ (Some 3) h.stays
        (h.seals going (free refl))

-- the turns, by what is out

follows_settle : (P : World → Type 0) (s next : Session) (reply : Reply) → FollowsEach P s.world → (o : Out)
    → s.world.out ≡ o → MayReply (settles s o) reply next → P next.world
follows_settle P s next reply h Nothing e = moved P next s reply _ h.stays
follows_settle P s next reply h Batch e = moved P next s reply _ h.stays
follows_settle P s next reply h Receipt e = moved P next (record s { world = with_sealed_settled s.world }) reply _
    (h.settles e)
follows_settle P s next reply h Doubt e = moved P next s reply _ h.stays

follows_unseal : (P : World → Type 0) (s next : Session) (reply : Reply) → FollowsEach P s.world → (o : Out)
    → s.world.out ≡ o → MayReply (unseals s o) reply next → P next.world
follows_unseal P s next reply h Nothing e = moved P next s reply _ h.stays
follows_unseal P s next reply h Batch e = moved P next (record s { world = with_batch_back s.world }) reply _
    (h.unseals e)
follows_unseal P s next reply h Receipt e = moved P next s reply _ h.stays
follows_unseal P s next reply h Doubt e = moved P next s reply _ h.stays

follows_halt : (P : World → Type 0) (s next : Session) (reply : Reply) → FollowsEach P s.world → (o : Out)
    → s.world.out ≡ o → MayReply (halts s o) reply next → P next.world
follows_halt P s next reply h Nothing e = moved P next (record s { world = with_halt s.world }) reply _
    (h.halts (λ is. let no : Nothing ≡ Receipt = sym e ∙ is in cc))
follows_halt P s next reply h Batch e = moved P next (record s { world = with_halt s.world }) reply _
    (h.halts (λ is. let no : Batch ≡ Receipt = sym e ∙ is in cc))
follows_halt P s next reply h Receipt e = moved P next s reply _ h.stays
follows_halt P s next reply h Doubt e = moved P next (record s { world = with_halt s.world }) reply _
    (h.halts (λ is. let no : Doubt ≡ Receipt = sym e ∙ is in cc))

follows_spend : (P : World → Type 0) (s next : Session) (reply : Reply) (delivery now : ℕ) (post : PostResult)
    → FollowsEach P s.world
    → (permit : Option Row) → permit_of s.world delivery ≡ permit → MayReply (spends s permit post now) reply next
    → P next.world
follows_spend P s next reply delivery now post h None found = moved P next s reply _ h.stays
follows_spend P s next reply delivery now post h (Some row) found = moved P next
    (record s { world = with_attempt_over s.world row post now }) reply _ (h.spends delivery now row post found)

pub follows_each : (P : World → Type 0) (s next : Session) (event : Call) (reply : Reply) → is_commit event ≡ false
    → FollowsEach P s.world → MayReply (answer_to s event) reply next → P next.world
follows_each P s next event reply own h = at event own
  where
    changed : (command : Command) → MayReply (commands s command) reply next → P next.world
    changed command = told P s next _ reply _ _ h.stays
        (h.stages (change s.world command).next (goes_change s.world command))

    at : (event : Call) → is_commit event ≡ false → MayReply (answer_to s event) reply next → P next.world
    at (on.Put name target max secrets) own = changed (PutEndpoint name target max secrets)
    at (on.Secrets name secrets) own = changed (SetSecrets name secrets)
    at (on.Enabled name flag) own = changed (SetEnabled name flag)
    at (on.Subscribed topic name flag) own = changed (SetSubscribed topic name flag)
    at (on.Purge before) own = changed (Purge before)
    at (on.Submit now name id body) own = told P s next _ reply _ _ h.stays
        (h.stages (submit s.world now name id body).next (goes_submit s.world now name id body))
    at (on.Publish now topic id body) own =
        told P s next _ reply _ _ h.stays
        (h.stages (publish s.world now topic id body).next (goes_publish s.world now topic id body))
    at (on.Told seq) own = moved P next s reply _ h.stays
    at (on.Claim now) own = told P s next _ reply _ _ h.stays
        (h.claims (claim s.world now).reply (claim s.world now).next (is_claim s.world now))
    at (on.Spend delivery now post) own = follows_spend P s next reply delivery now post h (permit_of s.world delivery)
        refl
    at (on.Limits name) own = moved P next s reply _ h.stays
    at on.Seal own = follows_seal P s next reply h
    at on.Commit own = absurd (let no = own in cc)
    at on.Settle own = follows_settle P s next reply h s.world.out refl
    at on.Unseal own = follows_unseal P s next reply h s.world.out refl
    at on.Halt own = follows_halt P s next reply h s.world.out refl
    at (on.ShowEndpoint name) own = moved P next s reply _ h.stays
    at (on.Show name id) own = moved P next s reply _ h.stays

pub follows : (P : World → Type 0) (s next : Session) (event : Call) (reply : Reply) → is_commit event ≡ false
    → Follows P s.world → MayReply (answer_to s event) reply next → P next.world
follows P s next event reply own h = follows_each P s next event reply own (record {
  stays = h.stays;
  stages = λ other staged. h.goes other staged.goes;
  claims = λ result other is. h.goes other (goes_claim s.world result other is);
  spends = λ delivery now row post found. h.goes (with_attempt_over s.world row post now)
      (goes_over s.world row post now);
  seals = h.seals;
  settles = h.settles;
  unseals = h.unseals;
  halts = h.halts;
})

-- a commit, by what is out
pub commits_follow : (P : World → Type 0) (s next : Session) (reply : Reply) (o : Out) → s.world.out ≡ o → P s.world
    → (s.world.out ≡ Batch → P (with_receipt s.world)) → (s.world.out ≡ Batch → P (in_doubt s.world))
    → MayReply (commits s o) reply next → P next.world
commits_follow P s next reply Nothing e stays kept doubt move = moved P next s reply _ stays move
commits_follow P s next reply Batch e stays kept doubt (inl given) = subst (λ (t : Session). P t.world) (sym given.1)
    (kept e)
commits_follow P s next reply Batch e stays kept doubt (inr (inl given)) = subst (λ (t : Session). P t.world)
    (sym given.1) stays
commits_follow P s next reply Batch e stays kept doubt (inr (inr (inl given))) = subst (λ (t : Session). P t.world)
    (sym given.1) (doubt e)
commits_follow P s next reply Batch e stays kept doubt (inr (inr (inr none))) = absurd none
commits_follow P s next reply Receipt e stays kept doubt move = moved P next s reply _ stays move
commits_follow P s next reply Doubt e stays kept doubt move = moved P next s reply _ stays move

-- each call is one of the desk, or a commit
pub by_call : (P : World → Type 0) (s next : Session) (event : Call) (reply : Reply)
    → (is_commit event ≡ false → P next.world) → (MayReply (commits s s.world.out) reply next → P next.world)
    → MayReply (answer_to s event) reply next → P next.world
by_call P s next event reply desk store = at event desk
  where
    at : (event : Call) → (is_commit event ≡ false → P next.world) → MayReply (answer_to s event) reply next
        → P next.world
    at on.Commit own move = store move
    at event own move = own refl

pub is_of_desk : (event : Call) → (event ≡ on.Commit → ⊥) → is_commit event ≡ false
is_of_desk on.Commit other = absurd (other refl)
is_of_desk event other = refl
