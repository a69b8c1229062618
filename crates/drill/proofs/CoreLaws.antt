-- What calls of the desk make of a core and its session: looks, steps that are staged, and
-- attempts.
use Rattle.std.proofs.Common.{◌≡◌, ◌≤◌, ◌<◌, ◌+◌, ◌==◌, ℕ, Bool, true, false, not, ◌&&◌, cond, List, [], ◌∷◌, ◌++◌}
use Rattle.std.proofs.Common.{length, take, drop, get_or, Option, Some, None, Result, Ok, Err, inl, inr, ⊎_elim, refl}
use Rattle.std.proofs.Common.{sym, ap, subst, ◌∙◌, arith, append-nil, nat_eq, nat_lt}
use mathlib.Core.Logic.{∥∥₁_map}
use Rattle.std.specs.Prelude.{IsSomeAnd, count_by, filter, find, map, nat_le, position, remove, reverse, slice_get}
use Rattle.std.specs.Prelude.{if◌then◌else◌}
use Rattle.std.specs.List.{position_or_len}
use Rattle.std.specs.Option.{option_map_or}
use Rattle.std.proofs.lemmas.Bool.{and_parts, cases_lt, eqb-true, leb-true, ltb-false, not-true}
use Rattle.std.proofs.lemmas.List.{length-map, take-append-le, take_all}
use Rattle.std.proofs.lemmas.List.Folds.{find_at, list_any_at}
use Rattle.std.proofs.lemmas.List.Quantifiers.{position-Some}
use Rattle.std.proofs.lemmas.List.Sums.{count_by-le-length, length-filter, sum_by-remove, sum_by_push}
use Rattle.std.proofs.lemmas.Option.{same_Some, slice_get-get_or, slice_get_past}
use Rattle.relay_types.proofs.KeyLaws.{legal_sound}
use Rattle.relay_types.proofs.KnownLaws.{and_first, and_second}
use Rattle.relay_types.specs.declared.limits.TheConstants.{MAX_ENDPOINTS}
use Rattle.relay_types.specs.declared.record.Record.{Record}
use Rattle.relay_types.specs.Endpoints.{Endpoint, endpoints}
use Rattle.relay_types.specs.Legal.{IsLegal}
use Rattle.relay_types.specs.Records.{History, Accepted, records_of}
use Rattle.relay_types.specs.Rows.{endpoint_row, rows_of}
use Rattle.relay_types.specs.Sound.{are_endpoint_rows, are_numbers_apart, are_numbers_below}
use Rattle.relay_types.specs.Steps.{accepts}
use Rattle.relay_types.specs.Subscriptions.{is_subscribed}
use Rattle.relay_types.specs.Deliveries.{accepted, attempts_of, deliveries, due_of, is_pending, known_as}
use Rattle.permits.specs.declared.row.Row.{Row}
use Rattle.permits.specs.Rows.{is_out, same_row}
use Rattle.retry_table.specs.declared.post.PostResult.{PostResult}
use Rattle.spool.specs.Batches.{doubt_of}
use Rattle.script_lines.specs.declared.reply.Reply.{Reply}
use Rattle.script_lines.specs.declared.reply.Reply.TheVariants as says
use Rattle.desk.specs.declared.command.Command.{Command}
use Rattle.desk.specs.declared.command.Command.TheVariants.{PutEndpoint, SetSecrets, SetEnabled, SetSubscribed, Purge}
use Rattle.desk.specs.declared.refusal.Fault.TheVariants as desk_fault
use Rattle.desk.specs.declared.refusal.Refusal.{Refusal}
use Rattle.desk.specs.declared.ticket.Ticket.{Ticket}
use Rattle.desk.specs.Faults.{Faults, refusal}
use Rattle.desk.specs.World.{World, all_records, settled_records}
use Rattle.desk.specs.Moves as desk
use Rattle.desk.specs.Moves.{MayGive, refused, unless, submit, submit_faults, submit_new, new_submit_faults, repeats}
use Rattle.desk.specs.Moves.{change, changes, change_faults, sealed_batch, moment, are_seqs_spent, publish}
use Rattle.desk.specs.Moves.{publish_faults, publish_to, new_publish_faults, lacking, subscribed, ticket_in}
use Rattle.desk.specs.Moves.{at_moment, or_out_of_memory, tickets_in, with_accepts}
use Rattle.desk.specs.Claims.{JobValue, SpentValue, is_live, is_claimable, is_claimable_for, claimables}
use Rattle.desk.specs.Claims.{has_no_waiting_outcome, waits, choice, claim, claim_chosen, starts, rests, with_attempt}
use Rattle.desk.specs.Claims.{with_attempt_over, without_row, outcome_by, sample_by}
use Rattle.group_commit.specs.Waits.{batch_out}
use Rattle.desk.specs.Desks.{StandsFor, IsMove, KeepsOut, Spends}
use Rattle.desk.proofs.LeastLaws.{chosen_among, passes}
use Rattle.desk.proofs.RowLaws.{attempts_at, others, none_counted, none_found, removed_is, same_row_is, same_row_self}
use Rattle.drill.specs.declared.calls.Core.{Core}
use Rattle.drill.specs.declared.held.Held.{Held}
use Rattle.drill.specs.declared.held.Held.TheVariants as held
use Rattle.drill.specs.declared.tickets.AnyTicket.{AnyTicket}
use Rattle.drill.specs.declared.tickets.AnyTicket.TheVariants.{Submission}
use Rattle.drill.specs.Tickets.{KeepsTickets}
use Rattle.drill.specs.Moves.{Session, MayReply, IsOneOf, stays, lacks, tells, stages, staged_reply, refusal_reply}
use Rattle.drill.specs.Moves.{with_ticket, gives, published_reply, publishes, with_tickets, claim_reply, spent_reply}
use Rattle.drill.specs.Moves.{spends, permit_of}
use Rattle.drill.specs.Cores.{IsHeld, AreOnePerDelivery, CoreStandsFor, HoldsAll, HoldsOut, IsCore, CoreAnswers}
use Rattle.drill.specs.Cores.{OnlyMakesRoom}

-- Worlds after which what is out, settled and sealed is as before

-- at most steps after the others are new
pub record Goes (w next : World) : Type 0 where
  pub out : next.out ≡ w.out
  pub settled : next.settled ≡ w.settled
  pub sealed : next.sealed ≡ w.sealed
  pub left : next.left ≡ w.left
  pub halted : next.halted ≡ w.halted
  pub more : History
  pub history : next.history ≡ w.history ++ more

-- and no attempt begins or ends
pub record Stages (w next : World) : Type 0 where
  pub goes : Goes w next
  pub live : next.live ≡ w.live
  pub none : (d : ℕ) → attempts_of (records_of goes.more) d ≡ []

goes_with : (w : World) (more : History) (clock : ℕ) → ((d : ℕ) → attempts_of (records_of more) d ≡ [])
    → Stages w (record w { history = w.history ++ more; clock = clock })
goes_with w more clock none =
    record {
      goes = record {
        out = refl;
        settled = refl;
        sealed = refl;
        left = refl;
        halted = refl;
        more =
            more;
        history = refl;
      };
      live = refl;
      none = none;
    }

pub later : (w : World) (clock : ℕ) → Stages w (record w { clock = clock })
later w clock = record {
  goes = record {
    out = refl;
    settled = refl;
    sealed = refl;
    left = refl;
    halted = refl;
    more = [];
    history = sym
        (append-nil w.history);
  };
  live = refl;
  none = λ d. refl;
}

pub stages_nothing : (w : World) → Stages w w
stages_nothing w = later w w.clock

goes_unless : {A : Type 0} (faults : Faults) (w : World) (answer : desk.Answer A) → Stages w answer.next
    → Stages w (unless faults w answer).next
goes_unless [] w answer h = h
goes_unless {A} ((there, number, why) ∷ rest) w answer h = at there (goes_unless rest w answer h)
  where
    at : (b : Bool) → Stages w (unless rest w answer).next
        → Stages w (if b then refused {A = A} w number why else unless rest w answer).next
    at true h = stages_nothing w
    at false h = h

pub goes_submit : (w : World) (now : ℕ) (name id body : List ℕ) → Stages w (submit w now name id body).next
goes_submit w now name id body =
    goes_unless (submit_faults w name (known_as (all_records w) name id) body) w
    (option_map_or (repeats w now name id) (known_as (all_records w) name id) (submit_new w now name id body))
    (at (known_as (all_records w) name id))
  where
    new : Stages w (submit_new w now name id body).next
    new = goes_unless (new_submit_faults w name) w _ (goes_with w _ (moment w now) (λ d. refl))

    at : (o : Option ℕ) → Stages w (option_map_or (repeats w now name id) o (submit_new w now name id body)).next
    at None = new
    at (Some d) = later w (moment w now)

pub goes_change : (w : World) (command : Command) → Stages w (change w command).next
goes_change w command = goes_unless (change_faults w command) w (changes w command) (at command)
  where
    at : (command : Command) → Stages w (changes w command).next
    at (PutEndpoint name target max secrets) = goes_with w _ w.clock (λ d. refl)
    at (SetSecrets name secrets) = goes_with w _ w.clock (λ d. refl)
    at (SetEnabled name flag) = goes_with w _ w.clock (λ d. refl)
    at (SetSubscribed topic name flag) = goes_with w _ w.clock (λ d. refl)
    at (Purge before) = goes_with w _ w.clock (λ d. refl)

-- no record of a new event is an attempt
none_tried : (names : List (List ℕ)) (id body : List ℕ) (at d : ℕ) → attempts_of (accepts names id body at) d ≡ []
none_tried [] id body at d = refl
none_tried (name ∷ names) id body at d = none_tried names id body at d

none_tried_in_step : (names : List (List ℕ)) (id body : List ℕ) (at d : ℕ)
    → attempts_of (records_of (accepts names id body at ∷ [])) d ≡ []
none_tried_in_step names id body at d = ap (λ records. attempts_of records d) (append-nil (accepts names id body at))
    ∙ none_tried names id body at d

pub goes_publish : (w : World) (now : ℕ) (topic id body : List ℕ) → Stages w (publish w now topic id body).next
goes_publish w now topic id body = goes_unless (publish_faults w topic id body) w
    (publish_to (lacking w topic id) w now topic id body) (at (lacking w topic id))
  where
    at : (names : List (List ℕ)) → Stages w (publish_to names w now topic id body).next
    at [] = later w (moment w now)
    at (name ∷ names) = goes_unless (new_publish_faults w (name ∷ names)) w _
        (goes_with w (accepts (name ∷ names) id body (moment w now) ∷ []) (moment w now)
        (none_tried_in_step (name ∷ names) id body (moment w now)))

-- each subscriber is an endpoint, and no history has more than so many
few_endpoints : (records : List Record) → IsLegal records → length (endpoints records) ≤ MAX_ENDPOINTS
few_endpoints records legal =
    let rows = rows_of records in
    let fits = and_first (nat_le (length rows.endpoints) MAX_ENDPOINTS) _ (and_first (are_endpoint_rows rows) _
    (and_second (are_numbers_apart rows) _ (and_second (are_numbers_below rows) _ (legal_sound records legal).0))) in
    omega (
      arith,
      leb-true (length rows.endpoints) MAX_ENDPOINTS fits,
      length-map (endpoints records) (endpoint_row records),
    )

few_subscribed : (w : World) (topic : List ℕ) → IsLegal (all_records w) → length (subscribed w topic) ≤ MAX_ENDPOINTS
few_subscribed w topic legal =
    let all = endpoints (all_records w) in
    let test = λ (e : Endpoint). is_subscribed (all_records w) topic e.name in
    omega (
      arith,
      few_endpoints (all_records w) legal,
      length-map (filter test all) (λ (e : Endpoint). e.name),
      length-filter test all,
      count_by-le-length test all,
    )

-- so many tickets are given at most
abbrev AreFew : Result (List Ticket) Refusal → Type 0
AreFew (Ok tickets) = length tickets ≤ MAX_ENDPOINTS
AreFew (Err refusal) = Unit {0}

few_unless : (faults : Faults) (w : World) (answer : desk.Answer (List Ticket)) → AreFew answer.reply
    → AreFew (unless faults w answer).reply
few_unless [] w answer h = h
few_unless ((there, number, why) ∷ rest) w answer h = at there (few_unless rest w answer h)
  where
    at : (b : Bool) → AreFew (unless rest w answer).reply
        → AreFew (if b then refused w number why else unless rest w answer).reply
    at true h = tt
    at false h = h

few_told : (w : World) (now : ℕ) (topic id body : List ℕ) → IsLegal (all_records w)
    → AreFew (publish w now topic id body).reply
few_told w now topic id body legal =
    few_unless (publish_faults w topic id body) w (publish_to (lacking w topic id) w now topic id body)
    (at (lacking w topic id))
  where
    each : (next : World) → length (map (ticket_in next id) (subscribed w topic)) ≤ MAX_ENDPOINTS
    each next = omega (arith, few_subscribed w topic legal, length-map (subscribed w topic) (ticket_in next id))

    at : (names : List (List ℕ)) → AreFew (publish_to names w now topic id body).reply
    at [] = each (at_moment w now)
    at (name ∷ names) = few_unless (new_publish_faults w (name ∷ names)) w
        (or_out_of_memory 8 (tickets_in w topic id
        (with_accepts (at_moment w now) (name ∷ names) id body (moment w now))))
        (each (with_accepts (at_moment w now) (name ∷ names) id body (moment w now)))

few_given : (w : World) (now : ℕ) (topic id body : List ℕ) (result : Result (List Ticket) Refusal) (next : World)
    → IsLegal (all_records w)
    → MayGive w (publish w now topic id body) result next → AreFew result
few_given w now topic id body result next legal (inl given) =
    subst AreFew (sym given.0) (few_told w now topic id body legal)
few_given w now topic id body result next legal (inr lacks) = at (publish w now topic id body).memory lacks
  where
    at : (o : Option ℕ) → IsSomeAnd o (λ number. (result ≡ Err (refusal number desk_fault.OutOfMemory)) × (next ≡ w))
        → AreFew result
    at None none = absurd none
    at (Some number) (e, f) = subst AreFew (sym e) tt

lacks_stays : {A : Type 0} (o : Option ℕ) (result : Result A Refusal) (w next : World)
    → IsSomeAnd o (λ number. (result ≡ Err (refusal number desk_fault.OutOfMemory)) × (next ≡ w)) → next ≡ w
lacks_stays None result w next h = absurd h
lacks_stays (Some number) result w next h = h.1

goes_given : {A : Type 0} (w : World) (answer : desk.Answer A) (result : Result A Refusal) (next : World)
    → Stages w answer.next → MayGive w answer result next → Stages w next
goes_given w answer result next plain (inl given) = subst (Stages w) (sym given.1) plain
goes_given w answer result next plain (inr lacks) = subst (Stages w)
    (sym (lacks_stays answer.memory result w next lacks)) (stages_nothing w)

-- What represents a world represents one that goes on so

pub same_first : (w next : World) (k : ℕ) → Goes w next → k ≤ length w.history
    → records_of (take k w.history) ≡ records_of (take k next.history)
same_first w next k g within = ap records_of (sym (ap (take k) g.history ∙ take-append-le k w.history g.more within))

batch_goes : (mark : ℕ) (w next : World) → Goes w next → w.settled ≤ w.sealed → w.sealed ≤ length w.history
    → sealed_batch mark w ≡ sealed_batch mark next
batch_goes mark w next g below within =
    let settled : settled_records w ≡ settled_records next = same_first w next w.settled g (omega arith)
    ∙ ap (λ k. records_of (take k next.history)) (sym g.settled) in
    let sealed : take w.sealed w.history ≡ take next.sealed next.history = sym (ap (λ k. take k next.history) g.sealed
    ∙ ap (take w.sealed) g.history ∙ take-append-le w.sealed w.history g.more within) in
    λ i. record { mark = mark; from = length (settled i); steps = drop (sym g.settled i) (sealed i) }

held_goes : (mark : ℕ) (w next : World) (now : Held) → Goes w next → w.settled ≤ w.sealed → w.sealed ≤ length w.history
    → IsHeld mark w now → IsHeld mark next now
held_goes mark w next held.Nothing g below within h = g.out ∙ h
held_goes mark w next (held.Batch batch) g below within h = (g.out ∙ h.0, h.1 ∙ batch_goes mark w next g below within)
held_goes mark w next (held.Receipt batch) g below within h = (g.out ∙ h.0, h.1 ∙ batch_goes mark w next g below within)
held_goes mark w next (held.Doubt doubt) g below within h =
    (g.out ∙ h.0, h.1 ∙ ap doubt_of (batch_goes mark w next g below within))

core_goes : {L : Type 0} (old new : Core L) (s : Session) (next : World) (given : List AnyTicket) → CoreStandsFor old s
    → Goes s.world next → StandsFor new.desk next → new.desk.waiting.mark ≡ old.desk.waiting.mark
    → new.held ≡ old.held → new.permits.items ≡ next.live → AreOnePerDelivery next.live → KeepsTickets new.tickets given
    → CoreStandsFor new (record { world = next; tickets = given })
core_goes old new s next given on goes desk mark same permits once keeps = record {
  desk = desk;
  held = subst (λ m. IsHeld m next new.held) (sym mark)
      (subst (IsHeld old.desk.waiting.mark next) (sym same)
      (held_goes old.desk.waiting.mark s.world next old.held goes on.desk.waiting.settled_first
      on.desk.waiting.sealed_within on.held));
  permits = permits;
  once = once;
  tickets = keeps;
}

-- If nothing is handed out or taken back, all that is out is held as before.
pub still_holds_all : {L : Type 0} (old new : Core L) → KeepsOut old.desk new.desk → new.held ≡ old.held
    → new.permits.items ≡ old.permits.items → IsCore old → IsCore new
still_holds_all old new (live, out) same permits core = ∥∥₁_map core (λ (h : HoldsAll old). record {
  permits = permits ∙ h.permits ∙ sym live;
  out = subst (HoldsOut (batch_out new.desk.waiting)) (sym same) (subst (λ o. HoldsOut o old.held) (sym out) h.out);
})

-- Steps that are staged

-- a refusal prints its number and its name, and keeps no ticket
abbrev Refuses : {A : Type 0} → (told : Result A Refusal → Reply) (kept : Result A Refusal → List AnyTicket
    → List AnyTicket)
    → Type 0
Refuses told kept = (why : Refusal) → (told (Err why) ≡ refusal_reply why)
    × ((tickets : List AnyTicket) → kept (Err why) tickets ≡ tickets)

may_give : {A : Type 0} (told : Result A Refusal → Reply) (kept : Result A Refusal → List AnyTicket → List AnyTicket)
    (s : Session) (answer : desk.Answer A) (result : Result A Refusal) (next : World)
    → Refuses told kept → MayGive s.world answer result next
    → MayReply (gives told kept s answer) (told result) (record { world = next; tickets = kept result s.tickets })
may_give told kept s answer result next refuses (inl (e, f)) =
    inl (ap told e, λ i. record { world = f i; tickets = kept (e i) s.tickets })
may_give told kept s answer result next refuses (inr without) = inr (at answer.memory without)
  where
    at : (o : Option ℕ) → IsSomeAnd o (λ number. (result ≡ Err (refusal number desk_fault.OutOfMemory))
        × (next ≡ s.world))
        → IsOneOf (lacks s o) (told result) (record { world = next; tickets = kept result s.tickets })
    at None h = h
    at (Some number) (e, f) =
        let lack = refuses (refusal number desk_fault.OutOfMemory) in
        inl (
          ap told e
              ∙ lack.0,
          λ i. record { world = f i; tickets = (ap (λ r. kept r s.tickets) e ∙ lack.1 s.tickets) i },
        )

answers_given : {L A : Type 0} (old new : Core L) (told : Result A Refusal → Reply) (kept : Result A Refusal
    → List AnyTicket → List AnyTicket) (move : World → desk.Answer A)
    (result : Result A Refusal) (reply : Reply) → Refuses told kept → ((w : World) → Stages w (move w).next)
    → IsMove old.desk move result new.desk → new.desk.waiting.mark ≡ old.desk.waiting.mark → KeepsOut old.desk new.desk
    → new.held ≡ old.held → new.permits.items ≡ old.permits.items
    → ((s : Session) → CoreStandsFor old s → (reply ≡ told result) × KeepsTickets new.tickets (kept result s.tickets))
    → CoreAnswers old (λ s. gives told kept s (move s.world)) reply new
answers_given old new told kept move result reply refuses plain moved mark out same permits keeps = record {
  mark = mark;
  keeps = still_holds_all old new out same permits;
  moves = λ s on.
      let made = moved s.world on.desk in
      let goes = goes_given s.world (move s.world) result made.0 (plain s.world) made.1 in
      let next : Session = record { world = made.0; tickets = kept result s.tickets } in
      let is = keeps s on in (
        next,
        subst (λ r. MayReply (gives told kept s (move s.world)) r next) (sym is.0)
            (may_give told kept s (move s.world) result made.0 refuses made.1),
        core_goes old new s made.0 (kept result s.tickets) on goes.goes made.2 mark same (permits ∙ on.permits
            ∙ sym goes.live) (subst AreOnePerDelivery (sym goes.live) on.once) is.1,
      );
}

pub answers_staged : {L A : Type 0} (old new : Core L) (of : A → AnyTicket) (move : World → desk.Answer A)
    (result : Result A Refusal) → ((w : World) → Stages w (move w).next)
    → IsMove old.desk move result new.desk → new.desk.waiting.mark ≡ old.desk.waiting.mark → KeepsOut old.desk new.desk
    → new.held ≡ old.held → new.permits.items ≡ old.permits.items
    → ((given : List AnyTicket) → KeepsTickets old.tickets given
    → KeepsTickets new.tickets (with_ticket of result given))
    → CoreAnswers old (λ s. stages of s (move s.world)) (staged_reply of result) new
answers_staged old new of move result plain moved mark out same permits keeps =
    answers_given old new (staged_reply of) (with_ticket of) move result (staged_reply of result)
    (λ why. (refl, λ tickets. refl)) plain moved mark out same permits
    (λ s on. (refl, keeps s.tickets on.tickets))

-- an event for a topic is refused
pub answers_unpublished : {L : Type 0} (old new : Core L) (now : ℕ) (topic id body : List ℕ) (why : Refusal)
    → IsMove old.desk (λ w. publish w now topic id body) (Err why) new.desk → new.desk.waiting.mark
    ≡ old.desk.waiting.mark
    → KeepsOut old.desk new.desk → new.held ≡ old.held → new.permits.items ≡ old.permits.items → new.tickets
    ≡ old.tickets
    → CoreAnswers old (λ s. publishes s (publish s.world now topic id body)) (refusal_reply why) new
answers_unpublished old new now topic id body why moved mark out same permits tickets =
    answers_given old new published_reply with_tickets (λ w. publish w now topic id body) (Err why) (refusal_reply why)
    (λ why. (refl, λ tickets. refl))
    (λ w. goes_publish w now topic id body) moved mark out same permits
    (λ s on. (refl, subst (λ t. KeepsTickets t s.tickets) (sym tickets) on.tickets))

-- its first tickets are kept and replied, as many as there may be: that is all of them
pub answers_published : {L : Type 0} (old new : Core L) (now : ℕ) (topic id body : List ℕ) (tickets few : List Ticket)
    → IsMove old.desk (λ w. publish w now topic id body) (Ok tickets) new.desk → new.desk.waiting.mark
    ≡ old.desk.waiting.mark
    → KeepsOut old.desk new.desk → new.held ≡ old.held → new.permits.items ≡ old.permits.items
    → few ≡ take MAX_ENDPOINTS tickets
    → ((given : List AnyTicket) → KeepsTickets old.tickets given
    → KeepsTickets new.tickets (reverse (map Submission few) ++ given))
    → CoreAnswers old (λ s. publishes s (publish s.world now topic id body))
    (says.Published (map (λ ticket. ticket.seq) few)) new
answers_published old new now topic id body tickets few moved mark out same permits first keeps =
    answers_given old new published_reply with_tickets (λ w. publish w now topic id body) (Ok tickets)
    (says.Published (map (λ ticket. ticket.seq) few))
    (λ why. (refl, λ tickets. refl)) (λ w. goes_publish w now topic id body) moved mark out same permits
    (λ s on.
    let all = whole s on in (
      ap (λ ts. says.Published (map (λ ticket. ticket.seq) ts)) all,
      subst (λ ts. KeepsTickets new.tickets (reverse (map Submission ts) ++ s.tickets)) all
          (keeps s.tickets on.tickets),
    ))
  where
    whole : (s : Session) → CoreStandsFor old s → few ≡ tickets
    whole s on =
        let made = moved s.world on.desk in
        first ∙ take_all MAX_ENDPOINTS tickets
        (few_given s.world now topic id body (Ok tickets) made.0 on.desk.books.legal made.1)

-- A look leaves the session as it is.
pub answers_look : {L : Type 0} (core : Core L) (told : Session → Reply) (reply : Reply)
    → ((s : Session) → CoreStandsFor core s → reply ≡ told s) → CoreAnswers core (λ s. stays s (told s)) reply core
answers_look core told reply says = record {
  mark = refl;
  moves = λ s on. (s, inl (says s on, refl), on);
  keeps =
      λ same. same;
}

-- Room is made.
pub stands_with_room : {L : Type 0} (old new : Core L) (s : Session) → OnlyMakesRoom old new → CoreStandsFor old s
    → CoreStandsFor new s
stands_with_room old new s same on =
    core_goes old new s s.world s.tickets on (stages_nothing s.world).goes
    (subst (λ d. StandsFor d s.world) (sym same.desk) on.desk) (ap (λ d. d.waiting.mark) same.desk) same.held
    (same.permits ∙ on.permits) on.once (same.tickets s.tickets on.tickets)

pub kept_with_room : {L : Type 0} (old new : Core L) → OnlyMakesRoom old new → IsCore old → IsCore new
kept_with_room old new same = still_holds_all old new
    (ap (λ d. d.live) same.desk, ap (λ d. batch_out d.waiting) same.desk)
    same.held same.permits

-- Claims

pub tells_given : {A : Type 0} (told : Result A Refusal → Reply) (s : Session) (answer : desk.Answer A)
    (result : Result A Refusal) (next : World) → ((r : Refusal) → told (Err r) ≡ refusal_reply r)
    → MayGive s.world answer result next → MayReply (tells told s answer) (told result) (record s { world = next })
tells_given told s answer result next refusing (inl (e, f)) = inl (ap told e, λ i. record s { world = f i })
tells_given told s answer result next refusing (inr without) = inr (at answer.memory without)
  where
    at : (o : Option ℕ) → IsSomeAnd o (λ number. (result ≡ Err (refusal number desk_fault.OutOfMemory))
        × (next ≡ s.world)) → IsOneOf (lacks s o) (told result) (record s { world = next })
    at None h = h
    at (Some number) (e, f) = inl (
      ap told e ∙ refusing (refusal number desk_fault.OutOfMemory),
      λ i. record s
          { world = f i },
    )

-- what is chosen waits for its next attempt
waits_if_chosen : (w : World) (now d : ℕ) → choice w now ≡ Some d → waits w d ≡ true
waits_if_chosen w now d e = by (accepted (settled_records w) d)
    (passes (is_claimable w now) d (deliveries (settled_records w))
    (chosen_among (due_of (settled_records w)) (claimables w now) d e))
  where
    by : (o : Option Accepted) → option_map_or (is_claimable_for w now d) o false ≡ true → waits w d ≡ true
    by None h = absurd (let no = h in cc)
    by (Some a) h = (and_parts (waits w d) _ h).0

-- what waits is pending, no outcome of it waits, and no attempt at it is under way
pub waiting_is_pending : (w : World) (d : ℕ) → waits w d ≡ true → (is_pending (settled_records w) d ≡ true)
    × (has_no_waiting_outcome w d ≡ true) × (is_live w d ≡ false)
waiting_is_pending w d h =
    let (pending, behind) = and_parts (is_pending (settled_records w) d)
    (has_no_waiting_outcome w d && not (is_live w d)) h in
    let (none, free) = and_parts (has_no_waiting_outcome w d) (not (is_live w d)) behind in
    (pending, none, not-true (is_live w d) free)

-- what a claim leaves: an attempt more, or at most a later clock
abbrev pub IsClaimed : (w : World) (result : Result (Option JobValue) Refusal) (next : World) → Type 0
IsClaimed w (Ok (Some job)) next = (at : ℕ) × (next ≡ with_attempt w at job.row) × (waits w job.row.delivery ≡ true)
IsClaimed w (Ok None) next = (at : ℕ) × (next ≡ record w { clock = at })
IsClaimed w (Err r) next = (at : ℕ) × (next ≡ record w { clock = at })

claimed : (w : World) (now : ℕ) (result : Result (Option JobValue) Refusal) (next : World)
    → MayGive w (claim w now) result next → IsClaimed w result next
claimed w now result next = at w.halted (choice w (moment w now)) refl
  where
    began : (d : ℕ) → choice w (moment w now) ≡ Some d → (full : Bool) (accept : Option Accepted)
        → MayGive w (unless ((full, 2, desk_fault.SeqExhausted) ∷ []) w
        (option_map_or (starts w (moment w now) d) accept (rests w (moment w now)))) result next
        → IsClaimed w result next
    began d e true accept (inl given) = subst (λ r. IsClaimed w r next) (sym given.0) (w.clock, given.1)
    began d e true accept (inr without) = absurd without
    began d e false None (inl given) = subst (λ r. IsClaimed w r next) (sym given.0) (moment w now, given.1)
    began d e false None (inr without) = absurd without
    began d e false (Some a) (inl given) = subst (λ r. IsClaimed w r next) (sym given.0)
        (moment w now, given.1, waits_if_chosen w (moment w now) d e)
    began d e false (Some a) (inr without) = subst (λ r. IsClaimed w r next) (sym without.0) (w.clock, without.1)

    at : (halted : Bool) (chosen : Option ℕ) → choice w (moment w now) ≡ chosen
        → MayGive w (unless ((halted, 1, desk_fault.Halted) ∷ []) w (claim_chosen w (moment w now) chosen)) result next
        → IsClaimed w result next
    at true chosen e (inl given) = subst (λ r. IsClaimed w r next) (sym given.0) (w.clock, given.1)
    at true chosen e (inr without) = absurd without
    at false None e (inl given) = subst (λ r. IsClaimed w r next) (sym given.0) (moment w now, given.1)
    at false None e (inr without) = absurd without
    at false (Some d) e h = began d e (are_seqs_spent w) (accepted (all_records w) d) h

begins : (w : World) (at : ℕ) (row : Row) → Goes w (with_attempt w at row)
begins w at row = record {
  out = refl;
  settled = refl;
  sealed = refl;
  left = refl;
  halted = refl;
  more = [];
  history =
      sym (append-nil w.history);
}

pub goes_claim : (w : World) (result : Result (Option JobValue) Refusal) (next : World) → IsClaimed w result next
    → Goes w next
goes_claim w (Ok (Some job)) next (at, e, waiting) = subst (Goes w) (sym e) (begins w at job.row)
goes_claim w (Ok None) next (at, e) = subst (Goes w) (sym e) (later w at).goes
goes_claim w (Err r) next (at, e) = subst (Goes w) (sym e) (later w at).goes

pub is_claim : (w : World) (now : ℕ) → IsClaimed w (claim w now).reply (claim w now).next
is_claim w now = claimed w now (claim w now).reply (claim w now).next (inl (refl, refl))

-- one attempt more, at a delivery that had none
one_each_with_a_claim : (rows : List Row) (row : Row) → AreOnePerDelivery rows → is_out row.delivery rows ≡ false
    → AreOnePerDelivery (rows ++ row ∷ [])
one_each_with_a_claim rows row once free d = at (nat_eq row.delivery d) refl
  where
    push : count_by (λ (x : Row). x.delivery == d) (rows ++ row ∷ []) ≡ count_by (λ (x : Row). x.delivery == d) rows
        + cond (nat_eq row.delivery d) 1 0
    push = sum_by_push (λ (x : Row). cond (nat_eq x.delivery d) 1 0) rows row

    at : (b : Bool) → nat_eq row.delivery d ≡ b → count_by (λ (x : Row). x.delivery == d) (rows ++ row ∷ []) ≤ 1
    at true e =
        let none : attempts_at d rows ≡ 0 = subst (λ n. attempts_at n rows ≡ 0) (eqb-true row.delivery d e)
        (none_counted (λ (x : Row). nat_eq x.delivery row.delivery) rows free) in
        omega (arith, push, none, ap {B = ℕ} (λ b. cond b 1 0) e)
    at false e = omega (arith, push, once d, ap {B = ℕ} (λ b. cond b 1 0) e)

pub answers_claimed : {L : Type 0} (old new : Core L) (now : ℕ) (job : JobValue)
    → IsMove old.desk (λ w. claim w now) (Ok (Some job)) new.desk → new.desk.waiting.mark ≡ old.desk.waiting.mark
    → new.desk.live ≡ old.desk.live ++ job.row ∷ [] → batch_out new.desk.waiting ≡ batch_out old.desk.waiting
    → new.held ≡ old.held
    → new.permits.items ≡ old.permits.items ++ job.row ∷ [] → new.tickets ≡ old.tickets
    → CoreAnswers old (λ s. tells claim_reply s (claim s.world now)) (claim_reply (Ok (Some job))) new
answers_claimed old new now job moved mark rows out same permits tickets = record {
  mark = mark;
  keeps = λ core. ∥∥₁_map core (λ (h : HoldsAll old). record {
    permits = permits ∙ ap (λ live. live ++ job.row ∷ []) h.permits ∙ sym rows;
    out = subst (HoldsOut (batch_out new.desk.waiting)) (sym same) (subst (λ o. HoldsOut o old.held) (sym out) h.out);
  });
  moves = λ s on.
      let made = moved s.world on.desk in
      let (at, e, waiting) = claimed s.world now (Ok (Some job)) made.0 made.1 in
      let live : made.0.live ≡ s.world.live ++ job.row ∷ [] = ap (λ (w : World). w.live) e in (
        record s { world = made.0 },
        tells_given claim_reply s (claim s.world now) (Ok (Some job)) made.0 (λ r. refl) made.1,
        core_goes old new s made.0 s.tickets on (goes_claim s.world (Ok (Some job)) made.0 (at, e, waiting)) made.2 mark
            same
            (permits ∙ ap (λ rows. rows ++ job.row ∷ []) on.permits ∙ sym live)
            (subst AreOnePerDelivery (sym live)
            (one_each_with_a_claim s.world.live job.row on.once
            (waiting_is_pending s.world job.row.delivery waiting).2))
            (subst (λ t. KeepsTickets t s.tickets) (sym tickets) on.tickets),
      );
}

-- whether an attempt begins
abbrev pub is_claimed : Result (Option JobValue) Refusal → Bool
is_claimed (Ok (Some job)) = true
is_claimed (Ok None) = false
is_claimed (Err r) = false

same_live : (w : World) (result : Result (Option JobValue) Refusal) (next : World) → is_claimed result ≡ false
    → IsClaimed w result next → next.live ≡ w.live
same_live w (Ok (Some job)) next none h = absurd (let e = none in cc)
same_live w (Ok None) next none (at, e) = ap (λ (v : World). v.live) e
same_live w (Err r) next none (at, e) = ap (λ (v : World). v.live) e

pub answers_unclaimed : {L : Type 0} (old new : Core L) (now : ℕ) (result : Result (Option JobValue) Refusal)
    → is_claimed result ≡ false → IsMove old.desk (λ w. claim w now) result new.desk
    → new.desk.waiting.mark ≡ old.desk.waiting.mark → KeepsOut old.desk new.desk → new.held ≡ old.held
    → new.permits.items ≡ old.permits.items → new.tickets ≡ old.tickets
    → CoreAnswers old (λ s. tells claim_reply s (claim s.world now)) (claim_reply result) new
answers_unclaimed old new now result none moved mark out same permits tickets = record {
  mark = mark;
  keeps = still_holds_all old new out same permits;
  moves = λ s on.
      let made = moved s.world on.desk in
      let is = claimed s.world now result made.0 made.1 in
      let live = same_live s.world result made.0 none is in (
        record s { world = made.0 },
        tells_given claim_reply s (claim s.world now) result made.0 (λ r. refl) made.1,
        core_goes old new s made.0 s.tickets on (goes_claim s.world result made.0 is) made.2 mark same
            (permits ∙ on.permits ∙ sym live) (subst AreOnePerDelivery (sym live) on.once)
            (subst (λ t. KeepsTickets t s.tickets) (sym tickets) on.tickets),
      );
}

-- Spends

pub goes_over : (w : World) (row : Row) (post : PostResult) (now : ℕ) → Goes w (with_attempt_over w row post now)
goes_over w row post now = at w.halted
  where
    at : (b : Bool) → Goes w (if b then without_row w row else record (without_row w row) {
      history = w.history ++ outcome_by w row post (moment w now);
      measured = w.measured ++ sample_by row post;
      clock = moment w now;
    })
    at true = record {
      out = refl;
      settled = refl;
      sealed = refl;
      left = refl;
      halted = refl;
      more = [];
      history = sym
          (append-nil w.history);
    }
    at false = record {
      out = refl;
      settled = refl;
      sealed = refl;
      left = refl;
      halted = refl;
      more = _;
      history =
          refl;
    }

live_over : (w : World) (row : Row) (post : PostResult) (now : ℕ)
    → (with_attempt_over w row post now).live ≡ others row w.live
live_over w row post now = at w.halted
  where
    at : (b : Bool) → (if b then without_row w row else record (without_row w row) {
      history = w.history ++ outcome_by w row post (moment w now);
      measured = w.measured ++ sample_by row post;
      clock = moment w now;
    }).live ≡ others row w.live
    at true = refl
    at false = refl

-- what is at the first place is found
found_at : (test : Row → Bool) (rows : List Row) (i : ℕ) (d : Row) → position test rows ≡ Some i
    → find test rows ≡ Some (get_or rows i d)
found_at test rows i d e = pick (nat_lt (position_or_len test rows) (length rows)) e
  where
    within : i < length rows
    within = (position-Some test rows i d e).0

    pick : (b : Bool) → cond b (Some (position_or_len test rows)) None ≡ Some i
        → find test rows ≡ Some (get_or rows i d)
    pick true is = find_at test rows ∙ ap (slice_get rows) (same_Some (position_or_len test rows) i is)
        ∙ slice_get-get_or rows i d within
    pick false is = cc

-- the permit that was taken out
pub record IsTaken (delivery place : ℕ) (row : Row) (rows rest : List Row) : Type 0 where
  pub at : position (λ (r : Row). r.delivery == delivery) rows ≡ Some place
  pub own : row ≡ get_or rows place row
  pub left : rest ≡ remove rows place

taken_within : (delivery place : ℕ) (row : Row) (rows rest : List Row) → IsTaken delivery place row rows rest
    → place < length rows
taken_within delivery place row rows rest t =
    (position-Some (λ (r : Row). r.delivery == delivery) rows place row t.at).0

-- it is the first of those with its row
pub taken_first : (delivery place : ℕ) (row : Row) (rows rest : List Row) → IsTaken delivery place row rows rest
    → position (same_row row) rows ≡ Some place
taken_first delivery place row rows rest t = by (position (same_row row) rows) refl
  where
    first : (place < length rows) × (nat_eq (get_or rows place row).delivery delivery ≡ true)
        × ((k : ℕ) → k < place → nat_eq (get_or rows k row).delivery delivery ≡ false)
    first = position-Some (λ (r : Row). r.delivery == delivery) rows place row t.at

    here : same_row row (get_or rows place row) ≡ true
    here = ap (same_row row) (sym t.own) ∙ same_row_self row

    early : (i : ℕ) → i < place → same_row row (get_or rows i row) ≡ true → ⊥
    early i lt found =
        let other : nat_eq (get_or rows i row).delivery delivery ≡ false = first.2 i lt in
        let same : nat_eq (get_or rows i row).delivery delivery ≡ true = ap (λ (r : Row). nat_eq r.delivery delivery)
        (sym (same_row_is row (get_or rows i row) found) ∙ t.own) ∙ first.1 in
        let no : true ≡ false = sym same ∙ other in cc

    by : (o : Option ℕ) → position (same_row row) rows ≡ o → position (same_row row) rows ≡ Some place
    by None none =
        let no : true ≡ false = sym (list_any_at (same_row row) rows place row first.0 here)
        ∙ none_found (same_row row) rows none in cc
    by (Some i) e =
        let (within, found, before) = position-Some (same_row row) rows i row e in
        let late : place < i → ⊥ = λ lt. (let no : true ≡ false = sym here ∙ before place lt in cc) in
        e ∙ ap (λ n. Some n) (⊎_elim (λ lt. absurd (early i lt found))
        (λ most. ⊎_elim (λ lt. absurd (late lt)) (λ least. omega (arith, most, least)) (cases_lt place i))
        (cases_lt i place))

one_each_after_a_spend : (rows : List Row) (place : ℕ) (d : Row) → place < length rows → AreOnePerDelivery rows
    → AreOnePerDelivery (remove rows place)
one_each_after_a_spend rows place d within once n =
    let less : count_by (λ (x : Row). x.delivery == n) (remove rows place) + cond
    (nat_eq (get_or rows place d).delivery n) 1 0 ≡ count_by (λ (x : Row). x.delivery == n) rows =
    sum_by-remove (λ (x : Row). cond (nat_eq x.delivery n) 1 0) rows place d within in
    omega (arith, less, once n)

pub answers_spent : {L : Type 0} (old new : Core L) (delivery now place : ℕ) (post : PostResult) (row : Row)
    (spent : SpentValue) → IsTaken delivery place row old.permits.items new.permits.items
    → Spends {E = Unit {0}} old.desk row post now (Ok spent) new.desk → new.desk.waiting.mark ≡ old.desk.waiting.mark
    → ((place : ℕ) → position (same_row row) old.desk.live ≡ Some place → new.desk.live ≡ remove old.desk.live place)
    → batch_out new.desk.waiting ≡ batch_out old.desk.waiting → new.held ≡ old.held → new.tickets ≡ old.tickets
    → CoreAnswers old (λ s. spends s (permit_of s.world delivery) post now) (spent_reply spent) new
answers_spent old new delivery now place post row spent t spends_so mark rows out same tickets = record {
  mark = mark;
  keeps = λ core. ∥∥₁_map core (λ (h : HoldsAll old). record {
    permits = t.left ∙ ap (λ live. remove live place) h.permits
        ∙ sym (rows place (subst (λ live. position (same_row row) live ≡ Some place) h.permits
        (taken_first delivery place row old.permits.items new.permits.items t)));
    out = subst (HoldsOut (batch_out new.desk.waiting)) (sym same) (subst (λ o. HoldsOut o old.held) (sym out) h.out);
  });
  moves = λ s on.
      let over = spends_so s.world on.desk in
      let next = with_attempt_over s.world row post now in
      let within = taken_within delivery place row old.permits.items new.permits.items t in
      let found : permit_of s.world delivery ≡ Some row =
      ap (find (λ (r : Row). r.delivery == delivery)) (sym on.permits) ∙ found_at (λ (r : Row). r.delivery == delivery)
      old.permits.items place row t.at ∙ ap (λ r. Some r) (sym t.own) in
      let once : AreOnePerDelivery old.permits.items = subst AreOnePerDelivery (sym on.permits) on.once in
      let rest : new.permits.items ≡ next.live =
      t.left ∙ removed_is row old.permits.items place within t.own (once row.delivery) ∙ ap (others row) on.permits
      ∙ sym (live_over s.world row post now) in
      let fewer : AreOnePerDelivery next.live = subst AreOnePerDelivery (sym t.left ∙ rest)
      (one_each_after_a_spend old.permits.items place row within once) in (
        record s { world = next },
        subst (λ p. MayReply (spends s p post now) (spent_reply spent) (record s { world = next })) (sym found)
            (inl (ap spent_reply over.1, refl)),
        core_goes old new s next s.tickets on (goes_over s.world row post now) over.2 mark same rest fewer
            (subst (λ k. KeepsTickets k s.tickets) (sym tickets) on.tickets),
      );
}

-- no permit of the delivery was given
pub answers_no_permit : {L : Type 0} (core : Core L) (delivery now : ℕ) (post : PostResult)
    → position (λ (r : Row). r.delivery == delivery) core.permits.items ≡ None
    → CoreAnswers core (λ s. spends s (permit_of s.world delivery) post now) says.NoPermit core
answers_no_permit core delivery now post none = record {
  mark = refl;
  keeps = λ same. same;
  moves = λ s on.
      let missing : permit_of s.world delivery ≡ None = ap (find (λ (r : Row). r.delivery == delivery)) (sym on.permits)
      ∙ not_found core.permits.items none in
      (s, subst (λ p. MayReply (spends s p post now) says.NoPermit s) (sym missing) (inl (refl, refl)), on);
}
  where
    not_found : (rows : List Row) → position (λ (r : Row). r.delivery == delivery) rows ≡ None
        → find (λ (r : Row). r.delivery == delivery) rows ≡ None
    not_found rows e = pick (nat_lt (position_or_len (λ (r : Row). r.delivery == delivery) rows) (length rows)) refl e
      where
        pick : (b : Bool) → nat_lt (position_or_len (λ (r : Row). r.delivery == delivery) rows) (length rows) ≡ b
            → cond b (Some (position_or_len (λ (r : Row). r.delivery == delivery) rows)) None ≡ None
            → find (λ (r : Row). r.delivery == delivery) rows ≡ None
        pick true below e = cc
        pick false beyond e = find_at (λ (r : Row). r.delivery == delivery) rows
            ∙ slice_get_past rows (position_or_len (λ (r : Row). r.delivery == delivery) rows)
            (ltb-false (position_or_len (λ (r : Row). r.delivery == delivery) rows) (length rows) beyond)
