-- Calls that may be made during a commit change places with it: they read neither what is out nor
-- what survives a crash.
use Rattle.std.proofs.Common.{◌≡◌, ◌≤◌, ◌==◌, ℕ, Bool, true, false, List, [], ◌∷◌, ◌++◌, length, take, max, Option}
use Rattle.std.proofs.Common.{Some, None, Result, ◌⊎◌, inl, inr, refl, sym, ap, subst, ◌∙◌, arith}
use Rattle.std.specs.Prelude.{if◌then◌else◌}
use Rattle.std.specs.List.{list_all}
use Rattle.std.specs.Option.{option_map_or}
use Rattle.std.proofs.lemmas.Bool.{and_parts}
use Rattle.relay_types.specs.Records.{Accepted, records_of}
use Rattle.relay_types.specs.Deliveries.{accepted, known_as}
use Rattle.permits.specs.declared.row.Row.{Row}
use Rattle.retry_table.specs.declared.post.PostResult.{PostResult}
use Rattle.script_lines.specs.declared.call.Call as line
use Rattle.script_lines.specs.declared.call.Call.TheVariants as on_line
use Rattle.script_lines.specs.declared.reply.Fault.TheVariants as fault
use Rattle.script_lines.specs.declared.reply.Reply as line_reply
use Rattle.script_lines.specs.declared.reply.Reply.TheVariants as says
use Rattle.script_lines.specs.declared.reply.Told.TheVariants as as_told
use Rattle.desk.specs.declared.command.Command.{Command}
use Rattle.desk.specs.declared.command.Command.TheVariants.{PutEndpoint, SetSecrets, SetEnabled, SetSubscribed, Purge}
use Rattle.desk.specs.declared.refusal.Fault.TheVariants as desk_fault
use Rattle.desk.specs.declared.refusal.Refusal.{Refusal}
use Rattle.desk.specs.Claims.{choice, claim, claim_chosen, limits, outcome_by, rests, sample_by, spent_in, starts}
use Rattle.desk.specs.Claims.{with_attempt_over, without_row}
use Rattle.desk.specs.Faults.{Faults, refusal}
use Rattle.desk.specs.Queries.{endpoint_page, event_page}
use Rattle.desk.specs.Moves as desk
use Rattle.desk.specs.Moves.{are_seqs_spent, change, change_faults, is_nothing_out, lacking, moment}
use Rattle.desk.specs.Moves.{new_publish_faults, new_submit_faults, publish, publish_faults, publish_to}
use Rattle.desk.specs.Moves.{refused, repeats, seal, submit, submit_faults, submit_new, unless}
use Rattle.desk.specs.World.{World, Out, Batch, Receipt, Doubt, all_records, settled_records, sealed_records}
use Rattle.drill.specs.declared.events.Event.{Event}
use Rattle.drill.specs.declared.events.Event.TheVariants as on
use Rattle.drill.specs.declared.events.Look.{Look}
use Rattle.drill.specs.declared.events.Look.TheVariants as look
use Rattle.drill.specs.declared.events.Reply.{Reply}
use Rattle.drill.specs.declared.events.Reply.TheVariants as reply
use Rattle.drill.specs.declared.tickets.AnyTicket.{AnyTicket}
use Rattle.drill.specs.declared.tickets.AnyTicket.TheVariants.{Submission, Command as OfCommand}
use Rattle.drill.specs.Events.{EventMove, EventRun, look_reply, shown, shown_by_line}
use Rattle.drill.specs.Moves.{Session, Answer, MayReply, answer_to, claim_reply, commits, endpoint_reply, event_reply}
use Rattle.drill.specs.Moves.{lacks, limits_reply, moves, permit_of, refusal_reply, seal_reply, spends, spent_reply}
use Rattle.drill.specs.Moves.{gives, published_reply, staged_reply, stages, stays, tells, told_reply, with_ticket}
use Rattle.drill.specs.Moves.{with_tickets}
use Rattle.drill.specs.Runs.{CallMove}
use Rattle.drill.specs.Tickets.{find_ticket}
use Rattle.drill.specs.BesideCommit.{CallsChangePlacesWithCommits, HasCountsInOrder, RunsKeepCountsInOrder, commit}
use Rattle.drill.specs.BesideCommit.{is_line_beside_commit, is_beside_commit}
use Rattle.drill.specs.Worlds.{session_of}
use Rattle.drill.proofs.CoreLaws.{Goes, goes_change, goes_claim, goes_over, goes_publish, goes_submit, is_claim}
use Rattle.drill.proofs.CoreLaws.{same_first, stages_nothing}
use Rattle.drill.proofs.GoingLaws.{counts_go, opening_counts, run_goes_on}
use Rattle.drill.proofs.ShownLaws.{event_shown}
use Rattle.drill.proofs.BatchLaws.{answer_by}

-- The same with something else out, of which something else survives a crash

abbrev with_out : (o : Out) (left : List ℕ) → World → World
with_out o left w = record w { out = o; left = left }

abbrev session_with : (o : Out) (left : List ℕ) → Session → Session
session_with o left s = record s { world = with_out o left s.world }

abbrev answer_with : {A : Type 0} → (o : Out) (left : List ℕ) → desk.Answer A → desk.Answer A
answer_with o left answer = record { reply = answer.reply; next = with_out o left answer.next; memory = answer.memory }

goes_with_out : (o : Out) (left : List ℕ) (w next : World) → Goes w next
    → Goes (with_out o left w) (with_out o left next)
goes_with_out o left w next g =
    record {
      out = refl;
      settled = g.settled;
      sealed = g.sealed;
      left = refl;
      halted = g.halted;
      more =
          g.more;
      history = g.history;
    }

-- What the desk answers is the same, and so is the world after it but for that

unless_with : {A : Type 0} (o : Out) (left : List ℕ) (faults : Faults) (w : World) (one other : desk.Answer A)
    → one ≡ answer_with o left other
    → unless faults (with_out o left w) one ≡ answer_with o left (unless faults w other)
unless_with o left [] w one other e = e
unless_with {A} o left ((there, number, why) ∷ rest) w one other e = pick there (unless_with o left rest w one other e)
  where
    pick : (b : Bool) → unless rest (with_out o left w) one ≡ answer_with o left (unless rest w other)
        → (if b then refused {A = A} (with_out o left w) number why else unless rest (with_out o left w) one)
        ≡ answer_with o left (if b then refused {A = A} w number why else unless rest w other)
    pick true e = refl
    pick false e = e

submit_with : (w : World) (now : ℕ) (name id body : List ℕ) (o : Out) (left : List ℕ)
    → submit (with_out o left w) now name id body ≡ answer_with o left (submit w now name id body)
submit_with w now name id body o left = unless_with o left
    (submit_faults w name (known_as (all_records w) name id) body) w _ _ (by (known_as (all_records w) name id))
  where
    by : (known : Option ℕ) → option_map_or (repeats (with_out o left w) now name id) known
        (submit_new (with_out o left w) now name id body)
        ≡ answer_with o left (option_map_or (repeats w now name id) known (submit_new w now name id body))
    by None = unless_with o left (new_submit_faults w name) w _ _ refl
    by (Some d) = refl

publish_with : (w : World) (now : ℕ) (topic id body : List ℕ) (o : Out) (left : List ℕ)
    → publish (with_out o left w) now topic id body ≡ answer_with o left (publish w now topic id body)
publish_with w now topic id body o left = unless_with o left (publish_faults w topic id body) w _ _
    (by (lacking w topic id))
  where
    by : (names : List (List ℕ)) → publish_to names (with_out o left w) now topic id body
        ≡ answer_with o left (publish_to names w now topic id body)
    by [] = refl
    by (name ∷ names) = unless_with o left (new_publish_faults w (name ∷ names)) w _ _ refl

change_with : (command : Command) (w : World) (o : Out) (left : List ℕ)
    → change (with_out o left w) command ≡ answer_with o left (change w command)
change_with (PutEndpoint name target max secrets) w o left = unless_with o left
    (change_faults w (PutEndpoint name target max secrets)) w _ _ refl
change_with (SetSecrets name secrets) w o left = unless_with o left (change_faults w (SetSecrets name secrets)) w _ _
    refl
change_with (SetEnabled name flag) w o left = unless_with o left (change_faults w (SetEnabled name flag)) w _ _ refl
change_with (SetSubscribed topic name flag) w o left = unless_with o left
    (change_faults w (SetSubscribed topic name flag)) w _ _ refl
change_with (Purge before) w o left = unless_with o left (change_faults w (Purge before)) w _ _ refl

claim_with : (w : World) (now : ℕ) (o : Out) (left : List ℕ) → claim (with_out o left w) now ≡ answer_with o left
    (claim w now)
claim_with w now o left = unless_with o left ((w.halted, 1, desk_fault.Halted) ∷ []) w _ _
    (by (choice w (moment w now)))
  where
    started : (d : ℕ) (accept : Option Accepted) → option_map_or (starts (with_out o left w) (moment w now) d) accept
        (rests (with_out o left w) (moment w now))
        ≡ answer_with o left (option_map_or (starts w (moment w now) d) accept (rests w (moment w now)))
    started d None = refl
    started d (Some a) = refl

    by : (chosen : Option ℕ) → claim_chosen (with_out o left w) (moment w now) chosen ≡ answer_with o left
        (claim_chosen w (moment w now) chosen)
    by None = refl
    by (Some d) = unless_with o left ((are_seqs_spent w, 2, desk_fault.SeqExhausted) ∷ []) w _ _
        (started d (accepted (all_records w) d))

-- the end of an attempt, at a desk that is halted and at one that isn't
abbrev over_in : (w v : World) (row : Row) → PostResult → (now : ℕ) → Bool → World
over_in w v row post now halted = if halted then without_row v row else record (without_row v row) {
  history = w.history ++ outcome_by w row post (moment w now);
  measured = w.measured ++ sample_by row post;
  clock = moment w now;
}

over_with : (w : World) (row : Row) (post : PostResult) (now : ℕ) (o : Out) (left : List ℕ)
    → with_attempt_over (with_out o left w) row post now ≡ with_out o left (with_attempt_over w row post now)
over_with w row post now o left = at w.halted
  where
    at : (halted : Bool) → over_in w (with_out o left w) row post now halted ≡ with_out o left
        (over_in w w row post now halted)
    at true = refl
    at false = refl

-- A call's reply and the session after it are the same, whatever is out
record AnswersAlike (s : Session) (answer : Out → List ℕ → Answer) : Type 0 where
  said : line_reply.Reply
  next : Session
  memory : Option ℕ
  goes : Goes s.world next.world
  is : (o : Out) (left : List ℕ) → is_nothing_out o ≡ false
      → answer o left ≡ record {
        reply = said;
        next = session_with o left next;
        unserved = lacks (session_with o left s)
            memory;
      }

looks : (s : Session) (told : line_reply.Reply) → AnswersAlike s (λ o left. stays (session_with o left s) told)
looks s told = record {
  said = told;
  next = s;
  memory = None;
  goes = (stages_nothing s.world).goes;
  is =
      λ o left out. refl;
}

given : {A : Type 0} (told : Result A Refusal → line_reply.Reply) (kept : Result A Refusal → List AnyTicket
    → List AnyTicket)
    (s : Session) (move : World → desk.Answer A)
    → Goes s.world (move s.world).next
    → ((o : Out) (left : List ℕ) → move (with_out o left s.world) ≡ answer_with o left (move s.world))
    → AnswersAlike s (λ o left. gives told kept (session_with o left s) (move (with_out o left s.world)))
given told kept s move goes same = record {
  said = told (move s.world).reply;
  next = record { world = (move s.world).next; tickets = kept (move s.world).reply s.tickets };
  memory = (move s.world).memory;
  goes = goes;
  is = λ o left out. ap (gives told kept (session_with o left s)) (same o left);
}

staged : {A : Type 0} (of : A → AnyTicket) (s : Session) (move : World → desk.Answer A)
    → Goes s.world (move s.world).next
    → ((o : Out) (left : List ℕ) → move (with_out o left s.world) ≡ answer_with o left (move s.world))
    → AnswersAlike s (λ o left. stages of (session_with o left s) (move (with_out o left s.world)))
staged of s move goes same = given (staged_reply of) (with_ticket of) s move goes same

claimed : (s : Session) (now : ℕ)
    → AnswersAlike s (λ o left. tells claim_reply (session_with o left s) (claim (with_out o left s.world) now))
claimed s now = record {
  said = claim_reply (claim s.world now).reply;
  next = record s { world = (claim s.world now).next };
  memory = (claim s.world now).memory;
  goes = goes_claim s.world (claim s.world now).reply (claim s.world now).next (is_claim s.world now);
  is = λ o left out. ap (tells claim_reply (session_with o left s)) (claim_with s.world now o left);
}

spent : (s : Session) (post : PostResult) (now : ℕ) (permit : Option Row)
    → AnswersAlike s (λ o left. spends (session_with o left s) permit post now)
spent s post now None = looks s says.NoPermit
spent s post now (Some row) = record {
  said = spent_reply (spent_in s.world (with_attempt_over s.world row post now) row post);
  next = record s { world = with_attempt_over s.world row post now };
  memory = None;
  goes = goes_over s.world row post now;
  is = λ o left out. ap
      (λ after. moves (session_with o left s) (spent_reply (spent_in (with_out o left s.world) after row post)) after)
      (over_with s.world row post now o left);
}

-- while something is out, nothing is sealed
sealed : (s : Session)
    → AnswersAlike s (λ o left. tells seal_reply (session_with o left s) (seal 0 (with_out o left s.world)))
sealed s = at s.world.halted
  where
    at : (halted : Bool) → AnswersAlike s
        (λ o left. tells seal_reply (session_with o left s)
        (answer_by 0 (with_out o left s.world) halted (is_nothing_out o) (length s.world.history == s.world.settled)))
    at true = looks s (refusal_reply (refusal 1 desk_fault.Halted))
    at false = record {
      said = refusal_reply (refusal 2 desk_fault.BatchOut);
      next = s;
      memory = None;
      goes = (stages_nothing s.world).goes;
      is = λ o left out. ap
          (λ b. tells seal_reply (session_with o left s)
          (answer_by 0 (with_out o left s.world) false b (length s.world.history == s.world.settled))) out;
    }

answers_alike : (s : Session) (event : line.Call) → is_line_beside_commit event ≡ true
    → AnswersAlike s (λ o left. answer_to (session_with o left s) event)
answers_alike s event within = at event within
  where
    changed : (command : Command)
        → AnswersAlike s (λ o left. stages OfCommand (session_with o left s) (change (with_out o left s.world) command))
    changed command = staged OfCommand s (λ w. change w command) (goes_change s.world command).goes
        (change_with command s.world)

    at : (event : line.Call) → is_line_beside_commit event ≡ true
        → AnswersAlike s (λ o left. answer_to (session_with o left s) event)
    at (on_line.Put name target max secrets) within = changed (PutEndpoint name target max secrets)
    at (on_line.Secrets name secrets) within = changed (SetSecrets name secrets)
    at (on_line.Enabled name flag) within = changed (SetEnabled name flag)
    at (on_line.Subscribed topic name flag) within = changed (SetSubscribed topic name flag)
    at (on_line.Purge before) within = changed (Purge before)
    at (on_line.Submit now name id body) within = staged Submission s (λ w. submit w now name id body)
        (goes_submit s.world now name id body).goes (submit_with s.world now name id body)
    at (on_line.Publish now topic id body) within =
        given published_reply with_tickets s (λ w. publish w now topic id body)
        (goes_publish s.world now topic id body).goes (publish_with s.world now topic id body)
    at (on_line.Told seq) within = looks s (told_reply s.world (find_ticket s.tickets seq))
    at (on_line.Claim now) within = claimed s now
    at (on_line.Spend delivery now post) within = spent s post now (permit_of s.world delivery)
    at (on_line.Limits name) within = looks s (limits_reply (limits s.world name))
    at on_line.Seal within = sealed s
    at on_line.Commit within = absurd (let no = within in cc)
    at on_line.Settle within = absurd (let no = within in cc)
    at on_line.Unseal within = absurd (let no = within in cc)
    at on_line.Halt within = absurd (let no = within in cc)
    at (on_line.ShowEndpoint name) within = looks s (endpoint_reply (endpoint_page (settled_records s.world) name))
    at (on_line.Show name id) within = looks s (event_reply (event_page (settled_records s.world) name id))

-- A call of a session gets the same reply if something else is out, and leaves it out

reply_whatever_is_out : (s next after : Session) (said told : line_reply.Reply) (memory : Option ℕ) (o other : Out)
    (left more : List ℕ)
    → MayReply (record {
      reply = said;
      next = session_with o left after;
      unserved = lacks (session_with o left s) memory;
    }) told next
    → MayReply (record {
      reply = said;
      next = session_with other more after;
      unserved = lacks (session_with other more s)
          memory;
    }) told (session_with other more next)
reply_whatever_is_out s next after said told memory o other left more (inl given) = inl
    (given.0, ap (session_with other more) given.1)
reply_whatever_is_out s next after said told None o other left more (inr none) = inr none
reply_whatever_is_out s next after said told (Some number) o other left more (inr (inl given)) = inr
    (inl (given.0, ap (session_with other more) given.1))
reply_whatever_is_out s next after said told (Some number) o other left more (inr (inr none)) = absurd none

goes_told : (s next after : Session) (said told : line_reply.Reply) (memory : Option ℕ) → Goes s.world after.world
    → MayReply (record { reply = said; next = after; unserved = lacks s memory }) told next → Goes s.world next.world
goes_told s next after said told memory goes (inl given) = subst (λ (t : Session). Goes s.world t.world)
    (sym given.1) goes
goes_told s next after said told None goes (inr none) = absurd none
goes_told s next after said told (Some number) goes (inr (inl given)) = subst (λ (t : Session). Goes s.world t.world)
    (sym given.1) (stages_nothing s.world).goes
goes_told s next after said told (Some number) goes (inr (inr none)) = absurd none

line_whatever_is_out : (s next : Session) (event : line.Call) (told : line_reply.Reply) (o other : Out)
    (left more : List ℕ)
    → is_line_beside_commit event ≡ true → is_nothing_out o ≡ false → is_nothing_out other ≡ false
    → CallMove (session_with o left s) event told next → Goes (with_out o left s.world) next.world
    × CallMove (session_with other more s) event told (session_with other more next)
line_whatever_is_out s next event told o other left more within out some move =
    let h = answers_alike s event within in
    let from = subst (λ answer. MayReply answer told next) (h.is o left out) move in (
      goes_told (session_with o left s) next (session_with o left h.next) h.said told h.memory
          (goes_with_out o left s.world h.next.world h.goes) from,
      subst (λ answer. MayReply answer told (session_with other more next)) (sym (h.is other more some))
          (reply_whatever_is_out s next h.next h.said told h.memory o other left more from),
    )

look_whatever_is_out : (w : World) (asked : Look) (o : Out) (left : List ℕ)
    → look_reply (with_out o left w) asked ≡ look_reply w asked
look_whatever_is_out w (look.Told ticket) o left = refl
look_whatever_is_out w (look.ToldCommand ticket) o left = refl
look_whatever_is_out w (look.SettledBody ticket) o left = refl
look_whatever_is_out w look.Totals o left = refl
look_whatever_is_out w look.Records o left = refl
look_whatever_is_out w look.SettledRecords o left = refl
look_whatever_is_out w look.IsHalted o left = refl

event_whatever_is_out : (s next : Session) (event : Event) (told : Reply) (o other : Out) (left more : List ℕ)
    → is_beside_commit event ≡ true → is_nothing_out o ≡ false → is_nothing_out other ≡ false
    → EventMove (session_with o left s) event told next → Goes (with_out o left s.world) next.world
    × EventMove (session_with other more s) event told (session_with other more next)
event_whatever_is_out s next (on.Line event) told o other left more within out some (line, is, move) =
    let made = line_whatever_is_out s next event line o other left more within out some move
    in (made.0, (line, is, made.1))
event_whatever_is_out s next (on.Look asked) told o other left more within out some (is, same) = (
  subst (λ (t : Session). Goes (with_out o left s.world) t.world) (sym same)
      (stages_nothing (with_out o left s.world)).goes,
  (
    is ∙ look_whatever_is_out s.world asked o left ∙ sym (look_whatever_is_out s.world asked other more),
    ap
        (session_with other more) same,
  ),
)

-- The reply to a commit of the batch, what is out then, and what survives a crash

-- what it sees of the world
abbrev seen : World → ℕ × Out × List ℕ × ℕ × ℕ
seen w = (length (sealed_records w), w.out, w.left, w.settled, w.sealed)

abbrev Commits : ℕ × Out × List ℕ × ℕ × ℕ → (told : Reply) (o : Out) (left : List ℕ) → Type 0
Commits (count, out, before, settled, sealed) told o left =
    ((told ≡ reply.Line (says.Committed count)) × (o ≡ Receipt) × (left ≡ sealed ∷ []))
    ⊎ (((told ≡ reply.Line (says.Refused 4 fault.OutOfMemory)) × (o ≡ out) × (left ≡ before))
    ⊎ ((told ≡ reply.Line (says.Refused 5 fault.Store)) × (o ≡ Doubt) × (left ≡ settled ∷ sealed ∷ [])))

commits_out : (w : World) (told : Reply) (o : Out) (left : List ℕ) → is_nothing_out w.out ≡ false
    → Commits (seen w) told o left → is_nothing_out o ≡ false
commits_out w told o left some (inl h) = ap is_nothing_out h.1
commits_out w told o left some (inr (inl h)) = ap is_nothing_out h.1 ∙ some
commits_out w told o left some (inr (inr h)) = ap is_nothing_out h.1

commit_made : (s : Session) (told : Reply) (o : Out) (left : List ℕ) → s.world.out ≡ Batch
    → Commits (seen s.world) told o left → EventMove s commit told (session_with o left s)
commit_made s told o left out h = at h
  where
    by : (line : line_reply.Reply) → told ≡ reply.Line line → MayReply (commits s Batch) line (session_with o left s)
        → EventMove s commit told (session_with o left s)
    by line is may = (line, is, subst (λ x. MayReply (commits s x) line (session_with o left s)) (sym out) may)

    at : Commits (seen s.world) told o left → EventMove s commit told (session_with o left s)
    at (inl (is, now, leaves)) = by (says.Committed (length (sealed_records s.world)))
        is (inl (refl, λ i. session_with (now i) (leaves i) s))
    at (inr (inl (is, now, leaves))) = by (says.Refused 4 fault.OutOfMemory)
        is (inr (inl (refl, λ i. session_with (now i) (leaves i) s)))
    at (inr (inr (is, now, leaves))) = by (says.Refused 5 fault.Store)
        is (inr (inr (inl (refl, λ i. session_with (now i) (leaves i) s))))

commit_told : (s next : Session) (told : Reply) → s.world.out ≡ Batch → EventMove s commit told next → (o : Out)
    × (left : List ℕ) × Commits (seen s.world) told o left × (next ≡ session_with o left s)
commit_told s next told out (line, is, move) = at (subst (λ x. MayReply (commits s x) line next) out move)
  where
    at : MayReply (commits s Batch) line next → (o : Out) × (left : List ℕ) × Commits (seen s.world) told o left
        × (next ≡ session_with o left s)
    at (inl given) = (Receipt, s.world.sealed ∷ [], inl (is ∙ ap reply.Line given.0, refl, refl), given.1)
    at (inr (inl given)) = (s.world.out, s.world.left, inr (inl (is ∙ ap reply.Line given.0, refl, refl)), given.1)
    at (inr (inr (inl given))) =
        (Doubt, s.world.settled ∷ s.world.sealed ∷ [], inr (inr (is ∙ ap reply.Line given.0, refl, refl)), given.1)
    at (inr (inr (inr none))) = absurd none

seen_goes : (w next : World) → Goes w next → HasCountsInOrder w → seen w ≡ seen next
seen_goes w next g marks =
    let count : length (sealed_records w) ≡ length (sealed_records next) = ap length
    (same_first w next w.sealed g marks.1 ∙ ap (λ k. records_of (take k next.history)) (sym g.sealed)) in
    λ i. (count i, sym g.out i, sym g.left i, sym g.settled i, sym g.sealed i)

-- A call and the commit change places

-- the call first, then the commit
record IsBefore (s : Session) (event : Event) (told committed : Reply) (last : Session) : Type 0 where
  mid : Session
  goes : Goes s.world mid.world
  makes : EventMove s event told mid
  ends : EventMove mid commit committed last

commit_after_call : (s mid last : Session) (event : Event) (told committed : Reply) → s.world.out ≡ Batch
    → HasCountsInOrder s.world → is_beside_commit event ≡ true
    → EventMove s commit committed mid → EventMove mid event told last → IsBefore s event told committed last
commit_after_call s mid last event told committed out marks within commits makes =
    let (o, left, how, is) = commit_told s mid committed out commits in
    let some : is_nothing_out s.world.out ≡ false = ap is_nothing_out out in
    let made = event_whatever_is_out s last event told o s.world.out left s.world.left within
    (commits_out s.world committed o left some how) some (subst (λ t. EventMove t event told last) is makes) in
    let next : Session = session_with s.world.out s.world.left last in
    let goes : Goes s.world next.world = goes_with_out s.world.out s.world.left (with_out o left s.world) last.world
    made.0 in
    let again = subst (λ v. Commits v committed o left) (seen_goes s.world next.world goes marks) how in
    let same : session_with o left next ≡ last = λ i. session_with (sym made.0.out i) (sym made.0.left i) last in
    record {
      mid = next;
      goes = goes;
      makes = made.1;
      ends = subst (EventMove next commit committed) same
          (commit_made next committed o left out again);
    }

commit_before_call : (s next last : Session) (event : Event) (told committed : Reply) → s.world.out ≡ Batch
    → HasCountsInOrder s.world → is_beside_commit event ≡ true
    → EventMove s event told next → EventMove next commit committed last → (mid : Session)
    × EventMove s commit committed mid
    × EventMove mid event told last
commit_before_call s next last event told committed out marks within makes commits =
    let some : is_nothing_out s.world.out ≡ false = ap is_nothing_out out in
    let goes : Goes s.world next.world =
    (event_whatever_is_out s next event told s.world.out s.world.out s.world.left s.world.left within some some makes).0
    in
    let (o, left, how, is) = commit_told next last committed (goes.out ∙ out) commits in
    let again = subst (λ v. Commits v committed o left) (sym (seen_goes s.world next.world goes marks)) how in
    let made = event_whatever_is_out s next event told s.world.out o s.world.left left within some
    (commits_out s.world committed o left some again) makes in (
      session_with o left s,
      commit_made s committed o left out again,
      subst (EventMove (session_with o left s) event told)
          (sym is) made.1,
    )

-- What is shown

line_shows : (w : World) (event : line.Call) (told : line_reply.Reply) (o : Out) (left : List ℕ)
    → shown_by_line (with_out o left w) event told ≡ shown_by_line w event told
line_shows w (on_line.Told seq) (says.ToldAs as_told.Settled) o left = refl
line_shows w (on_line.Claim now) (says.Permit delivery endpoint id attempt at inflight) o left = refl
line_shows w on_line.Settle (says.SettledTo to) o left = refl
line_shows w (on_line.ShowEndpoint name) (says.Endpoint enabled pending delivered exhausted) o left = refl
line_shows w (on_line.Show name id) (says.Event state due attempts) o left = refl
line_shows w event told o left = refl

shows : (w : World) (event : Event) (told : Reply) (o : Out) (left : List ℕ)
    → shown (with_out o left w) event told ≡ shown w event told
shows w (on.Line event) (reply.Line told) o left = line_shows w event told o left
shows w (on.Line event) told o left = refl
shows w (on.Look asked) told o left = refl

settled_as : (w next : World) → Goes w next → HasCountsInOrder w
    → length (settled_records w) ≡ length (settled_records next)
settled_as w next g marks = ap length (same_first w next w.settled g (omega (arith, marks.0, marks.1))
    ∙ ap (λ k. records_of (take k next.history)) (sym g.settled))

-- calls that may be made within show no more than was settled
run_shows : (events : List Event) (replies : List Reply) (s last : Session) (n : ℕ) → is_nothing_out s.world.out ≡ false
    → HasCountsInOrder s.world → list_all is_beside_commit events ≡ true
    → EventRun s events replies last n → n ≤ length (settled_records s.world)
run_shows [] [] s last n some marks within (same, none) = omega (arith, none)
run_shows (event ∷ events) (told ∷ replies) s last n some marks within (next, later, makes, rest, is) =
    let both = and_parts (is_beside_commit event) (list_all is_beside_commit events) within in
    let goes : Goes s.world next.world =
    (event_whatever_is_out s next event told s.world.out s.world.out s.world.left s.world.left both.0 some some makes).0
    in
    let below = run_shows events replies next last later (ap is_nothing_out goes.out ∙ some)
    (counts_go s.world next.world goes marks) both.1 rest in
    omega (
      arith,
      is,
      below,
      settled_as s.world next.world goes marks,
      event_shown s next event told
          (record { below = marks.0; within = marks.1 }) makes,
    )
run_shows [] (told ∷ replies) s last n some marks within run = absurd run
run_shows (event ∷ events) [] s last n some marks within run = absurd run

-- In runs

commit_shows : (w : World) (told : Reply) → shown w commit told ≡ 0
commit_shows w (reply.Line told) = refl
commit_shows w told = refl

-- after the commit a reply shows as much as before it
shows_same_after_commit : (s mid : Session) (event : Event) (told committed : Reply) → s.world.out ≡ Batch
    → EventMove s commit committed mid → shown mid.world event told ≡ shown s.world event told
shows_same_after_commit s mid event told committed out commits =
    let (o, left, how, same) = commit_told s mid committed out commits in ap (λ (t : Session). shown t.world event told)
    same ∙ shows s.world event told o left

-- the commit comes last
commit_moved_last : (events : List Event) (replies : List Reply) (s last : Session) (committed : Reply) (n : ℕ)
    → s.world.out ≡ Batch → HasCountsInOrder s.world → list_all is_beside_commit events ≡ true
    → EventRun s (commit ∷ events) (committed ∷ replies) last n
    → EventRun s (events ++ commit ∷ []) (replies ++ committed ∷ []) last n
commit_moved_last [] [] s last committed n out marks within run = run
commit_moved_last (event ∷ events) (told ∷ replies) s last committed n out marks within
    (mid, later, commits, (next, more, makes, rest, is), all) =
    let both = and_parts (is_beside_commit event) (list_all is_beside_commit events) within in
    let h = commit_after_call s mid next event told committed out marks both.0 commits makes in
    let run = commit_moved_last events replies h.mid last committed (max (shown h.mid.world commit committed) more)
    (h.goes.out
    ∙ out) (counts_go s.world h.mid.world h.goes marks) both.1 (next, more, h.ends, rest, refl) in (
      h.mid,
      max (shown h.mid.world commit committed) more,
      h.makes,
      run,
      omega (
        arith,
        all,
        is,
        shows_same_after_commit s mid event told committed out commits,
        commit_shows s.world committed,
        commit_shows h.mid.world committed,
      ),
    )
commit_moved_last [] (told ∷ replies) s last committed n out marks within (mid, later, commits, none, all) = absurd none
commit_moved_last (event ∷ events) [] s last committed n out marks within (mid, later, commits, none, all) = absurd none

-- the commit comes first
commit_moved_first : (events : List Event) (replies : List Reply) (s last : Session) (committed : Reply) (n : ℕ)
    → s.world.out ≡ Batch
    → HasCountsInOrder s.world → list_all is_beside_commit events ≡ true
    → EventRun s (events ++ commit ∷ []) (replies ++ committed ∷ []) last n
    → EventRun s (commit ∷ events) (committed ∷ replies) last n
commit_moved_first [] [] s last committed n out marks within run = run
commit_moved_first (event ∷ events) (told ∷ replies) s last committed n out marks within
    (next, later, makes, run, all) =
    let both = and_parts (is_beside_commit event) (list_all is_beside_commit events) within in
    let some : is_nothing_out s.world.out ≡ false = ap is_nothing_out out in
    let goes : Goes s.world next.world =
    (event_whatever_is_out s next event told s.world.out s.world.out s.world.left s.world.left both.0 some some makes).0
    in
    let (after, more, commits, rest, is) = commit_moved_first events replies next last committed later (goes.out ∙ out)
    (counts_go s.world next.world goes marks) both.1 run in
    let (mid, first, behind) = commit_before_call s next after event told committed out marks both.0 makes commits in (
      mid,
      max (shown mid.world event told) more,
      first,
      (after, more, behind, rest, refl),
      omega (
        arith,
        all,
        is,
        shows_same_after_commit s mid event told committed out first,
        commit_shows s.world committed,
        commit_shows next.world committed,
      ),
    )
commit_moved_first [] (told ∷ []) s last committed n out marks within (next, later, makes, none, all) = absurd none
commit_moved_first [] (told ∷ other ∷ replies) s last committed n out marks within (next, later, makes, none, all) =
    absurd none
commit_moved_first (event ∷ []) [] s last committed n out marks within (next, later, makes, none, all) = absurd none
commit_moved_first (event ∷ other ∷ events) [] s last committed n out marks within (next, later, makes, none, all) =
    absurd none

pub calls_change_places : CallsChangePlacesWithCommits
calls_change_places s last events replies committed n out marks within = (
  (
    commit_moved_last events replies s last committed n out marks within,
    commit_moved_first events replies s last committed n out marks
        within,
  ),
  below,
)
  where
    below : EventRun s (commit ∷ events) (committed ∷ replies) last n → n ≤ length (settled_records s.world)
    below (mid, later, commits, run, is) =
        let (o, left, how, same) = commit_told s mid committed out commits in
        omega (
          arith,
          is,
          commit_shows s.world committed,
          run_shows events replies (session_with o left s) last later
              (commits_out s.world committed o left (ap is_nothing_out out) how) marks within
              (subst (λ t. EventRun t events replies last later) same run),
        )

-- The marks stay in order

pub runs_keep_counts : RunsKeepCountsInOrder
runs_keep_counts w events replies last n opening run =
    (run_goes_on events replies (session_of w) last n (opening_counts w opening) run).1
