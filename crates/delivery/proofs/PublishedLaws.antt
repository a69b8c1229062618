-- What an event for a topic leaves of the staged records, and whose its tickets are.
use Rattle.std.proofs.Common.{◌≡◌, ⊎_elim, ℕ, true, false, List, [], ◌∷◌, ◌++◌, refl, ap, sym, ◌∙◌, subst}
use Rattle.std.proofs.Common.{append_assoc}
use Rattle.std.specs.Prelude.{Option, Some, None, Result, Ok, Err, IfOk, IsSomeAnd, filter, filter_map, map, unwrap_or}
use Rattle.std.proofs.lemmas.List.{append-nil}
use Rattle.std.proofs.lemmas.List.Elements.{filter_map-append}
use Rattle.relay_types.specs.declared.record.Record.{Record}
use Rattle.relay_types.specs.declared.record.Record.TheVariants.{Accept}
use Rattle.relay_types.specs.Endpoints.{Endpoint, endpoints}
use Rattle.relay_types.specs.Lists.{last_of}
use Rattle.relay_types.specs.Records.{records_of}
use Rattle.relay_types.specs.Steps.{accepts}
use Rattle.relay_types.specs.Subscriptions.{subscribed_by, subscribers}
use Rattle.relay_types.specs.Values.{Text, Seconds}
use Rattle.relay_types.proofs.GrowthLaws.{endpoints-snoc}
use Rattle.desk.specs.declared.refusal.Fault.TheVariants as fault
use Rattle.desk.specs.declared.refusal.Refusal.{Refusal}
use Rattle.desk.specs.declared.ticket.Ticket.{Ticket}
use Rattle.desk.specs.Faults.{Faults, refusal}
use Rattle.desk.specs.World.{World, all_records}
use Rattle.desk.specs.Moves.{Answer, MayGive, unless, moment, at_moment, lacking, new_publish_faults, or_out_of_memory}
use Rattle.desk.specs.Moves.{publish, publish_faults, publish_new, publish_to, ticket_in, tickets_in, with_accepts}
use Rattle.desk.specs.Desks.{DeskValue, StandsFor, IsMove}
use Rattle.delivery.specs.Logs.{HasRecords, HasTickets, published_of, tickets_by}
use Rattle.delivery.proofs.SettledLaws.{Grows, flatten_both, followed, grows_self, grows_with}

-- an event subscribes nobody

no_flags : (topic name : Text) (names : List Text) (id body : Text) (at : Seconds)
    → filter_map (subscribed_by topic name) (accepts names id body at) ≡ []
no_flags topic name [] id body at = refl
no_flags topic name (n ∷ names) id body at = no_flags topic name names id body at

same_flags : (records : List Record) (topic name : Text) (names : List Text) (id body : Text) (at : Seconds)
    → filter_map (subscribed_by topic name) records
    ≡ filter_map (subscribed_by topic name) (records ++ accepts names id body at)
same_flags records topic name names id body at =
    sym (filter_map-append (subscribed_by topic name) records (accepts names id body at)
    ∙ ap (λ more. filter_map (subscribed_by topic name) records ++ more) (no_flags topic name names id body at)
    ∙ append-nil (filter_map (subscribed_by topic name) records))

same_endpoints : (records : List Record) (names : List Text) (id body : Text) (at : Seconds)
    → endpoints records ≡ endpoints (records ++ accepts names id body at)
same_endpoints records [] id body at = ap endpoints (sym (append-nil records))
same_endpoints records (n ∷ names) id body at =
    let entry = Accept n id body at in
    sym (endpoints-snoc records entry ∙ append-nil (endpoints records))
    ∙ same_endpoints (records ++ entry ∷ []) names id body at
    ∙ ap endpoints (append_assoc records (entry ∷ []) (accepts names id body at))

same_subscribers : (records : List Record) (topic : Text) (names : List Text) (id body : Text) (at : Seconds)
    → subscribers records topic ≡ subscribers (records ++ accepts names id body at) topic
same_subscribers records topic names id body at = λ i.
    filter (λ (e : Endpoint). unwrap_or (last_of (same_flags records topic e.name names id body at i)) false)
    (same_endpoints records names id body at i)

-- an event that is taken: there may be more steps, and its tickets are those of the subscribers by all records then
abbrev Publishes : (w : World) (topic id : Text) → Answer (List Ticket) → Type 0
Publishes w topic id answer = IfOk answer.reply (λ (tickets : List Ticket).
    Grows w answer.next × (tickets ≡ tickets_by (all_records answer.next) topic id))

unless_publishes : (faults : Faults) (w : World) (topic id : Text) (answer : Answer (List Ticket))
    → Publishes w topic id answer → Publishes w topic id (unless faults w answer)
unless_publishes [] w topic id answer taken = taken
unless_publishes ((true, number, fault) ∷ rest) w topic id answer taken = tt
unless_publishes ((false, number, fault) ∷ rest) w topic id answer taken = unless_publishes rest w topic id answer taken

publish_takes : (now : Seconds) (topic id body : Text) (w : World) → Publishes w topic id (publish w now topic id body)
publish_takes now topic id body w =
    unless_publishes (publish_faults w topic id body) w topic id (publish_to (lacking w topic id) w now topic id body)
    (to (lacking w topic id))
  where
    new : (names : List Text) → Publishes w topic id (publish_new w now topic id body names)
    new names =
        let next = with_accepts (at_moment w now) names id body (moment w now) in
        let more = accepts names id body (moment w now) in
        let all : all_records w ++ more ≡ all_records next =
        sym (flatten_both w.history (more ∷ [])
        ∙ ap (λ (records : List Record). all_records w ++ records) (append-nil more)) in
        let subscribed : subscribers (all_records w) topic ≡ subscribers (all_records next) topic =
        same_subscribers (all_records w) topic names id body (moment w now)
        ∙ ap (λ (records : List Record). subscribers records topic) all in
        unless_publishes (new_publish_faults w names) w topic id (or_out_of_memory 8 (tickets_in w topic id next)) (
          ((more ∷ [], refl), refl),
          ap (λ (es : List Endpoint). map (ticket_in next id) (map (λ e. e.name) es)) subscribed,
        )

    to : (names : List Text) → Publishes w topic id (publish_to names w now topic id body)
    to [] = (grows_self w, refl)
    to (name ∷ names) = new (name ∷ names)

given_takes : (w next : World) (topic id : Text) (answer : Answer (List Ticket)) (tickets : List Ticket)
    → Publishes w topic id answer → MayGive w answer (Ok tickets) next
    → Grows w next × (tickets ≡ tickets_by (all_records next) topic id)
given_takes w next topic id answer tickets taken may =
    ⊎_elim (λ (t : (Ok tickets ≡ answer.reply) × (next ≡ answer.next)).
    let given = subst (λ (r : Result (List Ticket) Refusal). IfOk r (λ (tickets : List Ticket).
    Grows w answer.next × (tickets ≡ tickets_by (all_records answer.next) topic id))) (sym t.0) taken in
    subst (λ (n : World). Grows w n × (tickets ≡ tickets_by (all_records n) topic id)) (sym t.1) given)
    (λ lacks. lacked answer.memory lacks) may
  where
    lacked : (memory : Option ℕ)
        → IsSomeAnd memory (λ number. (Ok tickets ≡ Err (refusal number fault.OutOfMemory)) × (next ≡ w))
        → Grows w next × (tickets ≡ tickets_by (all_records next) topic id)
    lacked (Some number) lacks = absurd (cc (lacks.0))
    lacked None lacks = absurd lacks

-- what it leaves of what a desk has settled, and of what is staged
module _ (is_base : List Record → Type 0) (start : ℕ) (old new : DeskValue) (prefix staged : List Record)
    (has : HasRecords is_base start old prefix staged) (now : Seconds) (topic id body : Text) (tickets : List Ticket)
    (moves : IsMove old (λ w. publish w now topic id body) (Ok tickets) new) where
  abbrev all_staged : List Record
  all_staged = followed staged (prefix ++ records_of new.waiting.waiting)

  abbrev HasThem : World → Type 0
  HasThem next = tickets ≡ tickets_by (all_records next) topic id

  moved : (w : World) → StandsFor old w → (next : World) × Grows w next × HasThem next × StandsFor new next
  moved w stands =
      let m = moves w stands in
      let taken = given_takes w m.0 topic id (publish w now topic id body) tickets (publish_takes now topic id body w)
      m.1 in
      (m.0, taken.0, taken.1, m.2)

  pub published : HasRecords is_base start new prefix all_staged
  published base is =
      let next = grows_with is_base start old new prefix staged has HasThem moved base is in
      (next.0, next.1, next.2, next.3, next.4)

  pub published_to : HasTickets is_base (published_of topic id tickets all_staged) all_staged
  published_to base is =
      let next = grows_with is_base start old new prefix staged has HasThem moved base is in
      subst (λ (records : List Record). tickets ≡ tickets_by records topic id) next.4 next.5
