-- The calls of a run, one more of them, and the tickets that they are given.
use Rattle.std.proofs.Common.{◌≡◌, ◌<◌, ◌+◌, ℕ, List, [], ◌∷◌, ◌++◌, ap, get_or, length, sym, take, ◌∙◌}
use Rattle.std.proofs.lemmas.List.{map-append, take_more}
use Rattle.std.proofs.lemmas.List.Sums.{sum_by_push}
use Rattle.drill.specs.declared.events.Event.{Event}
use Rattle.drill.specs.declared.prepared.Prepared.{Prepared}
use Rattle.drill.specs.Cores.{most_tickets_of}
use Rattle.drill.specs.Memory.{all_tickets, events_of}

pub prepared_more : (calls : List Prepared) (call : Prepared) → events_of (calls ++ call ∷ []) ≡ events_of calls
    ++ call.event ∷ []
prepared_more calls call = map-append (λ c. c.event) calls (call ∷ [])

pub tickets_more : (calls : List Prepared) (call : Prepared)
    → all_tickets (events_of (calls ++ call ∷ [])) ≡ all_tickets (events_of calls) + most_tickets_of call.event
tickets_more calls call = ap all_tickets (prepared_more calls call)
    ∙ sum_by_push most_tickets_of (events_of calls) call.event

-- one event more of a list, or another that is the same
pub next_taken : (events : List Event) (i : ℕ) (event same : Event) → i < length events → same ≡ event
    → get_or events i event ≡ event
    → take i events ++ same ∷ [] ≡ take (i + 1) events
next_taken events i event same within is there =
    ap (λ e. take i events ++ e ∷ []) (is ∙ sym there) ∙ sym (take_more events i event within)
