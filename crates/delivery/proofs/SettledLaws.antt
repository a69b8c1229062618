-- What each call of the desk leaves of its settled and its staged records.
use Rattle.std.proofs.Common.{◌≡◌, ⊎_elim, ℕ, zero, suc, ◌≤◌, Bool, true, false, List, [], ◌∷◌, ◌++◌, length}
use Rattle.std.proofs.Common.{take, drop, refl, ap, sym, ◌∙◌, subst, arith, append_assoc, length-append}
use Rattle.std.specs.Prelude.{Option, Some, None, Result, Ok, Err, IfOk, IsSomeAnd, ◌<◌, ◌==◌, slice_get, if◌then◌else◌}
use Rattle.std.specs.Option.{option_map_or}
use Rattle.std.proofs.lemmas.List.{append-nil, append_cancel_left, take-append-drop, take-take, take-append-le}
use mathlib.Core.List.{IsPrefix}
use Rattle.relay_types.specs.declared.record.Record.{Record}
use Rattle.relay_types.specs.Lists.{last_of}
use Rattle.relay_types.specs.Records.{Accepted, History, records_of}
use Rattle.relay_types.specs.Deliveries.{accepted, known_as}
use Rattle.relay_types.specs.Values.{Text, Seq, Seconds}
use Rattle.spool.specs.Batches.{BatchValue}
use Rattle.permits.specs.declared.row.Row.{Row}
use Rattle.retry_table.specs.declared.post.PostResult.{PostResult}
use Rattle.run_log.specs.Prefixes.{Agree}
use Rattle.desk.specs.declared.command.Command.{Command}
use Rattle.desk.specs.declared.command.Command.TheVariants.{PutEndpoint, SetSecrets, SetEnabled, SetSubscribed, Purge}
use Rattle.desk.specs.declared.refusal.Fault.TheVariants as fault
use Rattle.desk.specs.declared.refusal.Refusal.{Refusal}
use Rattle.desk.specs.declared.ticket.CommandTicket.{CommandTicket}
use Rattle.desk.specs.declared.ticket.Ticket.{Ticket}
use Rattle.desk.specs.Faults.{Faults, refusal}
use Rattle.desk.specs.World.{World, all_records, settled_records}
use Rattle.desk.specs.Moves.{Answer, MayGive, unless, moment, submit, submit_known}
use Rattle.desk.specs.Moves.{submit_new, submit_faults, new_submit_faults, accepts, repeats, or_out_of_memory, change}
use Rattle.desk.specs.Moves.{change_faults, changes, seal, seal_waiting, seal_faults, sealed_batch, with_sealed_settled}
use Rattle.desk.specs.Moves.{are_seqs_spent}
use Rattle.desk.specs.Claims.{JobValue, SpentValue, claim, claim_chosen, choice, starts, rests, with_attempt_over}
use Rattle.desk.specs.Claims.{without_row}
use Rattle.desk.specs.Claims.{outcome_by, sample_by}
use Rattle.desk.specs.Desks.{DeskValue, StandsFor, IsMove, Turns, Spends, IsReceiptOf}
use Rattle.delivery.specs.Logs.{ChangeValue, HasChange, HasRecords, HasSettled, IsCommitted, change_of, entry_of}

-- what is settled stays, where records come after a history
settled_on : (settled : ℕ) (history more : History) → settled ≤ length history
    → records_of (take settled (history ++ more)) ≡ records_of (take settled history)
settled_on settled history more le = ap records_of (take-append-le settled history more le)

pub flatten_both : (xs ys : History) → records_of (xs ++ ys) ≡ records_of xs ++ records_of ys
flatten_both [] ys = refl
flatten_both (step ∷ xs) ys =
    ap (λ rest. step ++ rest) (flatten_both xs ys) ∙ sym (append_assoc step (records_of xs) (records_of ys))

-- a record after others, at its number
pub last_behind : (xs : List Record) (x : Record) → last_of (xs ++ x ∷ []) ≡ Some x
last_behind [] x = refl
last_behind (y ∷ []) x = refl
last_behind (y ∷ z ∷ xs) x = last_behind (z ∷ xs) x

get_behind : (xs : List Record) (x : Record) → slice_get (xs ++ x ∷ []) (length xs) ≡ Some x
get_behind [] x = refl
get_behind (y ∷ xs) x = get_behind xs x

-- the settled steps are some of all
marks : (d : DeskValue) (w : World) → StandsFor d w → w.settled ≤ length w.history
marks d w stands = omega (arith, stands.waiting.settled_first, stands.waiting.sealed_within)

-- all records are the settled ones, and those of the steps that wait
all_is : (d : DeskValue) (w : World) → StandsFor d w
    → all_records w ≡ settled_records w ++ records_of d.waiting.waiting
all_is d w stands =
    ap records_of (sym (take-append-drop w.settled w.history))
    ∙ flatten_both (take w.settled w.history) (drop w.settled w.history)
    ∙ ap (λ (steps : History). settled_records w ++ records_of steps) (sym stands.waiting.steps)

-- What an answer leaves

-- the steps are the same, and as many are settled
abbrev Stays : World → World → Type 0
Stays w next = (next.history ≡ w.history) × (next.settled ≡ w.settled)

-- there may be more steps, and as many are settled
abbrev pub Grows : World → World → Type 0
Grows w next = IsPrefix w.history next.history × (next.settled ≡ w.settled)

stays_self : (w : World) → Stays w w
stays_self w = (refl, refl)

pub grows_self : (w : World) → Grows w w
grows_self w = (([], append-nil w.history), refl)

unless_leaves : {A : Type 0} (P : World → Type 0) (faults : Faults) (w : World) (answer : Answer A) → P w
    → P answer.next
    → P (unless faults w answer).next
unless_leaves P [] w answer same next = next
unless_leaves P ((true, number, fault) ∷ rest) w answer same next = same
unless_leaves P ((false, number, fault) ∷ rest) w answer same next = unless_leaves P rest w answer same next

given_leaves : {A : Type 0} (P : World → Type 0) (w next : World) (answer : Answer A) (reply : Result A Refusal)
    → P w → P answer.next → MayGive w answer reply next → P next
given_leaves P w next answer reply same given may =
    ⊎_elim (λ (t : (reply ≡ answer.reply) × (next ≡ answer.next)). subst P (sym t.1) given)
    (λ lacks. lacked answer.memory lacks) may
  where
    lacked : (memory : Option ℕ)
        → IsSomeAnd memory (λ number. (reply ≡ Err (refusal number fault.OutOfMemory)) × (next ≡ w)) → P next
    lacked (Some number) lacks = subst P (sym lacks.1) same
    lacked None lacks = absurd lacks

submit_grows : (now : Seconds) (name id body : Text) (w : World) → Grows w (submit w now name id body).next
submit_grows now name id body w = known_grows (known_as (all_records w) name id)
  where
    new_grows : Grows w (submit_new w now name id body).next
    new_grows =
        unless_leaves (Grows w) (new_submit_faults w name) w (or_out_of_memory 8 (accepts w now name id body))
        (grows_self w) ((_, refl), refl)

    known_grows : (known : Option Seq) → Grows w (submit_known known w now name id body).next
    known_grows None =
        unless_leaves (Grows w) (submit_faults w name None body) w (submit_new w now name id body)
        (grows_self w) new_grows
    known_grows (Some d) =
        unless_leaves (Grows w) (submit_faults w name (Some d) body) w (repeats w now name id d) (grows_self w)
        (grows_self w)

claim_stays : (now : Seconds) (w : World) → Stays w (claim w now).next
claim_stays now w =
    unless_leaves (Stays w) ((w.halted, 1, fault.Halted) ∷ []) w
    (claim_chosen w (moment w now) (choice w (moment w now)))
    (stays_self w) (chosen_stays (choice w (moment w now)))
  where
    found_stays : (d : Seq) (found : Option Accepted)
        → Stays w (option_map_or (starts w (moment w now) d) found (rests w (moment w now))).next
    found_stays d None = (refl, refl)
    found_stays d (Some a) = (refl, refl)

    chosen_stays : (chosen : Option Seq) → Stays w (claim_chosen w (moment w now) chosen).next
    chosen_stays None = (refl, refl)
    chosen_stays (Some d) = unless_leaves (Stays w) ((are_seqs_spent w, 2, fault.SeqExhausted) ∷ []) w
        (option_map_or (starts w (moment w now) d) (accepted (all_records w) d) (rests w (moment w now)))
        (stays_self w) (found_stays d (accepted (all_records w) d))

seal_stays : (mark : ℕ) (w : World) → Stays w (seal mark w).next
seal_stays mark w =
    unless_leaves (Stays w) (seal_faults w) w (seal_waiting mark w (length w.history == w.settled))
    (stays_self w) (waiting_stays (length w.history == w.settled))
  where
    waiting_stays : (idle : Bool) → Stays w (seal_waiting mark w idle).next
    waiting_stays true = (refl, refl)
    waiting_stays false = (refl, refl)

spent_grows : (w : World) (row : Row) (post : PostResult) (now : Seconds) → Grows w (with_attempt_over w row post now)
spent_grows w row post now = at w.halted
  where
    at : (halted : Bool) → Grows w (if halted then without_row w row else record (without_row w row) {
      history = w.history ++ outcome_by w row post (moment w now);
      measured = w.measured ++ sample_by row post;
      clock = moment w now;
    })
    at true = grows_self w
    at false = ((outcome_by w row post (moment w now), refl), refl)

-- a command that is taken stages its record, with the next number
abbrev Stages : (w : World) (entry : Record) → Answer CommandTicket → Type 0
Stages w entry answer = IfOk answer.reply (λ (ticket : CommandTicket).
    (ticket.seq ≡ length (all_records w)) × (answer.next.settled ≡ w.settled)
    × (answer.next.history ≡ w.history ++ (entry ∷ []) ∷ []))

unless_stages : (faults : Faults) (w : World) (entry : Record) (answer : Answer CommandTicket) → Stages w entry answer
    → Stages w entry (unless faults w answer)
unless_stages [] w entry answer stages = stages
unless_stages ((true, number, fault) ∷ rest) w entry answer stages = tt
unless_stages ((false, number, fault) ∷ rest) w entry answer stages = unless_stages rest w entry answer stages

change_stages : (command : Command) (w : World) → Stages w (entry_of command) (change w command)
change_stages (PutEndpoint name target max secrets) w =
    unless_stages (change_faults w (PutEndpoint name target max secrets)) w
    (entry_of (PutEndpoint name target max secrets))
    (changes w (PutEndpoint name target max secrets)) (refl, refl, refl)
change_stages (SetSecrets name secrets) w =
    unless_stages (change_faults w (SetSecrets name secrets)) w (entry_of (SetSecrets name secrets))
    (changes w (SetSecrets name secrets)) (refl, refl, refl)
change_stages (SetEnabled name flag) w =
    unless_stages (change_faults w (SetEnabled name flag)) w (entry_of (SetEnabled name flag))
    (changes w (SetEnabled name flag)) (refl, refl, refl)
change_stages (SetSubscribed topic name flag) w =
    unless_stages (change_faults w (SetSubscribed topic name flag)) w (entry_of (SetSubscribed topic name flag))
    (changes w (SetSubscribed topic name flag)) (refl, refl, refl)
change_stages (Purge before) w =
    unless_stages (change_faults w (Purge before)) w (entry_of (Purge before))
    (changes w (Purge before)) (refl, refl, refl)

given_stages : (w next : World) (entry : Record) (answer : Answer CommandTicket) (ticket : CommandTicket)
    → Stages w entry answer → MayGive w answer (Ok ticket) next
    → (ticket.seq ≡ length (all_records w)) × (next.settled ≡ w.settled)
    × (next.history ≡ w.history ++ (entry ∷ []) ∷ [])
given_stages w next entry answer ticket stages may =
    ⊎_elim (λ (t : (Ok ticket ≡ answer.reply) × (next ≡ answer.next)).
    let given = subst (λ (r : Result CommandTicket Refusal). IfOk r (λ (ticket : CommandTicket).
    (ticket.seq ≡ length (all_records w)) × (answer.next.settled ≡ w.settled)
    × (answer.next.history ≡ w.history ++ (entry ∷ []) ∷ []))) (sym t.0) stages in
    (given.0, ap (λ (n : World). n.settled) t.1 ∙ given.1, ap (λ (n : World). n.history) t.1 ∙ given.2))
    (λ lacks. lacked answer.memory lacks) may
  where
    lacked : (memory : Option ℕ)
        → IsSomeAnd memory (λ number. (Ok ticket ≡ Err (refusal number fault.OutOfMemory)) × (next ≡ w))
        → (ticket.seq ≡ length (all_records w)) × (next.settled ≡ w.settled)
        × (next.history ≡ w.history ++ (entry ∷ []) ∷ [])
    lacked (Some number) lacks = absurd (cc (lacks.0))
    lacked None lacks = absurd lacks

-- What a call leaves of what a desk has settled, and of what is staged

-- what is appended to the staged records where this waits now
abbrev pub followed : (staged waits : List Record) → List Record
followed staged waits = staged ++ drop (length staged) waits

followed_is : (staged waits : List Record) → IsPrefix staged waits → followed staged waits ≡ waits
followed_is [] waits begins = refl
followed_is (x ∷ staged) [] begins = absurd (cc (begins.1))
followed_is (x ∷ staged) (y ∷ waits) begins =
    let rest = followed_is staged waits (begins.0, cc (begins.1)) in cc (rest, begins.1)

-- the settled records of a desk, where the log of staged records is empty
pub begun : (is_base : List Record → Type 0) (start : ℕ) (desk : DeskValue) (prefix : List Record)
    → HasSettled is_base start desk prefix
    → HasRecords is_base start desk prefix (prefix ++ records_of desk.waiting.waiting)
begun is_base start desk prefix has_settled base is =
    let was = has_settled base is in
    let all = all_is desk was.1 was.2 ∙ ap (λ (records : List Record). records ++ records_of desk.waiting.waiting) was.3
    ∙ append_assoc base prefix (records_of desk.waiting.waiting) in
    (was.0, was.1, was.2, was.3, all)

module _ (is_base : List Record → Type 0) (start : ℕ) (old new : DeskValue) (prefix staged : List Record)
    (has : HasRecords is_base start old prefix staged) where
  stays_on : ((w : World) → StandsFor old w → (next : World) × Stays w next × StandsFor new next)
      → HasRecords is_base start new prefix staged
  stays_on moved base is =
      let was = has base is in
      let now = moved was.1 was.2 in (
        was.0,
        now.0,
        now.2,
        ap (λ (s : ℕ × History). records_of (take s.0 s.1)) (λ i. (now.1.1 i, now.1.0 i)) ∙ was.3,
        ap records_of now.1.0 ∙ was.4,
      )

  -- what is so of the state after a call, beside what the desk has
  pub grows_with : (P : World → Type 0)
      → ((w : World) → StandsFor old w → (next : World) × Grows w next × P next × StandsFor new next)
      → (base : List Record) → is_base base → (length base ≡ start) × (next : World) × StandsFor new next
      × (settled_records next ≡ base ++ prefix)
      × (all_records next ≡ base ++ followed staged (prefix ++ records_of new.waiting.waiting)) × P next
  grows_with P moved base is =
      let was = has base is in
      let w = was.1 in
      let now = moved w was.2 in
      let more = now.1.0.0 in
      let settled : settled_records now.0 ≡ base ++ prefix =
      ap (λ (s : ℕ × History). records_of (take s.0 s.1)) (λ i. (now.1.1 i, sym now.1.0.1 i))
      ∙ settled_on w.settled w.history more (marks old w was.2) ∙ was.3 in
      let all = all_is new now.0 now.3 ∙ ap (λ (records : List Record). records ++ records_of new.waiting.waiting)
      settled
      ∙ append_assoc base prefix (records_of new.waiting.waiting) in
      let longer : all_records now.0 ≡ base ++ (staged ++ records_of more) =
      ap records_of (sym now.1.0.1) ∙ flatten_both w.history more
      ∙ ap (λ (records : List Record). records ++ records_of more) was.4 ∙ append_assoc base staged (records_of more) in
      let begins : IsPrefix staged (prefix ++ records_of new.waiting.waiting) =
      (records_of more, append_cancel_left base _ _ (sym longer ∙ all)) in (
        was.0,
        now.0,
        now.3,
        settled,
        all ∙ ap (λ (records : List Record). base ++ records)
            (sym (followed_is staged (prefix ++ records_of new.waiting.waiting) begins)),
        now.2,
      )

  grows_on : ((w : World) → StandsFor old w → (next : World) × Grows w next × StandsFor new next)
      → HasRecords is_base start new prefix (followed staged (prefix ++ records_of new.waiting.waiting))
  grows_on moved base is =
      let now = grows_with (λ next. Unit {0}) (λ w stands. let m = moved w stands in (m.0, m.1, tt, m.2)) base is in
      (now.0, now.1, now.2, now.3, now.4)

  moved_stays : {A : Type 0} (move : World → Answer A) (reply : Result A Refusal)
      → ((w : World) → Stays w (move w).next)
      → IsMove old move reply new → HasRecords is_base start new prefix staged
  moved_stays move reply stays moves = stays_on (λ w stands.
      let m = moves w stands in
      (m.0, given_leaves (Stays w) w m.0 (move w) reply (stays_self w) (stays w) m.1, m.2))

  pub submitted : (now : Seconds) (name id body : Text) (reply : Result Ticket Refusal)
      → IsMove old (λ w. submit w now name id body) reply new
      → HasRecords is_base start new prefix (followed staged (prefix ++ records_of new.waiting.waiting))
  submitted now name id body reply moves = grows_on (λ w stands.
      let m = moves w stands in (
        m.0,
        given_leaves (Grows w) w m.0 (submit w now name id body) reply (grows_self w)
            (submit_grows now name id body w) m.1,
        m.2,
      ))

  pub spent : (E : Type 0) (row : Row) (post : PostResult) (now : Seconds) (s : SpentValue)
      → Spends {E = E} old row post now (Ok s) new
      → HasRecords is_base start new prefix (followed staged (prefix ++ records_of new.waiting.waiting))
  spent E row post now s spends = grows_on (λ w stands.
      (with_attempt_over w row post now, spent_grows w row post now, (spends w stands).2))

  -- a command that is taken: its record is the next one, at its number
  pub changed : (command : Command) (ticket : CommandTicket) → IsMove old (λ w. change w command) (Ok ticket) new
      → HasRecords is_base start new prefix (staged ++ entry_of command ∷ [])
      × HasChange is_base (change_of ticket (staged ++ entry_of command ∷ [])) (staged ++ entry_of command ∷ [])
  changed command ticket moves = (records, there)
    where
      entry : Record
      entry = entry_of command

      records : HasRecords is_base start new prefix (staged ++ entry ∷ [])
      records base is =
          let was = has base is in
          let w = was.1 in
          let m = moves w was.2 in
          let stages = given_stages w m.0 entry (change w command) ticket (change_stages command w) m.1 in (
            was.0,
            m.0,
            m.2,
            ap (λ (s : ℕ × History). records_of (take s.0 s.1)) (λ i. (stages.1 i, stages.2 i))
                ∙ settled_on w.settled w.history ((entry ∷ []) ∷ []) (marks old w was.2) ∙ was.3,
            ap records_of stages.2 ∙ flatten_both w.history ((entry ∷ []) ∷ [])
                ∙ ap (λ (records : List Record). records ++ entry ∷ []) was.4 ∙ append_assoc base staged (entry ∷ []),
          )

      there : HasChange is_base (change_of ticket (staged ++ entry ∷ [])) (staged ++ entry ∷ [])
      there base is =
          let was = has base is in
          let w = was.1 in
          let m = moves w was.2 in
          let stages = given_stages w m.0 entry (change w command) ticket (change_stages command w) m.1 in
          let number : ticket.seq ≡ length (base ++ staged) = stages.0 ∙ ap length was.4 in (
            entry,
            last_behind staged entry,
            ap (λ (s : List Record × ℕ). slice_get s.0 s.1)
                (λ i. (sym (append_assoc base staged (entry ∷ [])) i, number i))
                ∙ get_behind (base ++ staged) entry,
          )

  pub claimed : (now : Seconds) (reply : Result (Option JobValue) Refusal) → IsMove old (λ w. claim w now) reply new
      → HasRecords is_base start new prefix staged
  claimed now reply = moved_stays (λ w. claim w now) reply (claim_stays now)

  pub sealed : (mark : ℕ) (reply : Result (Option BatchValue) Refusal) → IsMove old (seal mark) reply new
      → HasRecords is_base start new prefix staged
  sealed mark reply = moved_stays (seal mark) reply (seal_stays mark)

-- A change that is settled

get_within : (xs more : List Record) (k : ℕ) (x : Record) → k < length xs → slice_get (xs ++ more) k ≡ Some x
    → slice_get xs k ≡ Some x
get_within [] more k x below e = absurd (omega (arith, below))
get_within (y ∷ xs) more zero x below e = e
get_within (y ∷ xs) more (suc k) x below e = get_within xs more k x (omega (arith, below)) e

pub get_longer : (xs more : List Record) (k : ℕ) (x : Record) → slice_get xs k ≡ Some x
    → slice_get (xs ++ more) k ≡ Some x
get_longer [] more k x e = absurd cc
get_longer (y ∷ xs) more zero x e = e
get_longer (y ∷ xs) more (suc k) x e = get_longer xs more k x e

-- a change that a log has, each longer log has
pub change_longer : (is_base : List Record → Type 0) (change : ChangeValue) (log longer : List Record)
    → IsPrefix log longer → HasChange is_base change log → HasChange is_base change longer
change_longer is_base change log longer begins has base is =
    let there = has base is in
    let all : (base ++ log) ++ begins.0 ≡ base ++ longer =
    append_assoc base log begins.0 ∙ ap (λ (records : List Record). base ++ records) begins.1 in (
      there.0,
      there.1,
      subst (λ (records : List Record). slice_get records change.seq ≡ Some there.0) all
          (get_longer (base ++ log) begins.0 change.seq there.0 there.2),
    )

-- the settled prefix has a staged change whose number is below that of the settled records
pub change_settled : (is_base : List Record → Type 0) (start : ℕ) (desk : DeskValue) (prefix staged : List Record)
    (change : ChangeValue) → HasRecords is_base start desk prefix staged → HasChange is_base change staged
    → change.seq < desk.waiting.settled → HasChange is_base change prefix
change_settled is_base start desk prefix staged change has has_change below base is =
    let was = has base is in
    let w = was.1 in
    let there = has_change base is in
    let all : base ++ staged ≡ (base ++ prefix) ++ records_of desk.waiting.waiting =
    sym was.4 ∙ all_is desk w was.2 ∙ ap (λ (records : List Record). records ++ records_of desk.waiting.waiting) was.3
    in
    let count : desk.waiting.settled ≡ length (base ++ prefix) = was.2.waiting.settled_seq ∙ ap length was.3 in
    let within : change.seq < length (base ++ prefix) = subst (λ (n : ℕ). change.seq < n) count below in (
      there.0,
      there.1,
      get_within (base ++ prefix) (records_of desk.waiting.waiting) change.seq there.0 within
          (subst (λ (records : List Record). slice_get records change.seq ≡ Some there.0) all there.2),
    )

-- Settling

same_length : (xs more ys : List Record) → IsPrefix ys (xs ++ more) → length xs ≡ length ys → xs ≡ ys
same_length [] more [] p e = refl
same_length [] more (y ∷ ys) p e = absurd (omega arith)
same_length (x ∷ xs) more [] p e = absurd (omega arith)
same_length (x ∷ xs) more (y ∷ ys) p e =
    let rest = same_length xs more ys (p.0, cc (p.1)) (omega arith) in cc (p.1, rest)

same_before : (before more prefix : List Record) → Agree (before ++ more) prefix → length before ≡ length prefix
    → before ≡ prefix
same_before before more prefix agree e =
    ⊎_elim
    (λ (p : IsPrefix (before ++ more) prefix). sym
    (same_length prefix [] before (more ++ p.0, sym (append_assoc before more p.0) ∙ p.1 ∙ sym (append-nil prefix))
    (sym e)))
    (λ (p : IsPrefix prefix (before ++ more)). same_length before more prefix p e)
    agree

-- the settled records, and the sealed ones after them
front_is : (xs : History) (from to : ℕ) → from ≤ to
    → records_of (take to xs) ≡ records_of (take from xs) ++ records_of (drop from (take to xs))
front_is xs from to below = sym
    (ap (λ prefix. records_of prefix ++ records_of (drop from (take to xs))) (sym (take-take from to xs below))
    ∙ sym (flatten_both (take from (take to xs)) (drop from (take to xs)))
    ∙ ap records_of (take-append-drop from (take to xs)))

pub settled : {A : Type 0} (E : Type 0) (is_base : List Record → Type 0) (start : ℕ) (old new : DeskValue)
    (prefix staged : List Record) (mark : ℕ) (receipt : BatchValue) (longer : List Record) (a : A)
    → HasRecords is_base start old prefix staged → IsCommitted start receipt longer → Agree longer prefix
    → Turns {E = E} old (λ w. IsReceiptOf mark w receipt) with_sealed_settled (Ok a) new
    → HasRecords is_base start new longer staged
settled E is_base start old new prefix staged mark receipt longer a has is_committed agree turns base is =
    let was = has base is in
    let w = was.1 in
    let t = turns w was.2 in
    let of_receipt : receipt ≡ sealed_batch mark w = t.0.1 in
    let from : receipt.from ≡ length (settled_records w) = ap (λ (b : BatchValue). b.from) of_receipt in
    let before = is_committed.0 in
    let count : length before ≡ length prefix = omega
    (arith, from, is_committed.2, was.0, ap length was.3, length-append base prefix) in
    let same : before ≡ prefix = same_before before (records_of receipt.steps) prefix
    (subst (λ k. Agree k prefix) is_committed.1 agree) count in
    let all : settled_records (with_sealed_settled w) ≡ settled_records w ++ records_of receipt.steps =
    front_is w.history w.settled w.sealed was.2.waiting.settled_first ∙ ap
    (λ (b : BatchValue). settled_records w ++ records_of b.steps) (sym of_receipt) in (
      was.0,
      with_sealed_settled w,
      t.1,
      all ∙ ap (λ s. s ++ records_of receipt.steps) was.3 ∙ append_assoc base prefix (records_of receipt.steps) ∙ ap
          (λ f. base ++ (f ++ records_of receipt.steps)) (sym same) ∙ ap (λ k. base ++ k) (sym is_committed.1),
      was.4,
    )
