-- What a desk tells to wait.
use Rattle.std.proofs.Common.{◌≡◌, ◌≤◌, ◌<◌, ℕ, Bool, true, false, List, [], ◌∷◌, cond, refl, ap, subst, arith, nat_eq}
use Rattle.std.proofs.lemmas.Bool.Decides.{nat_tests}
use Rattle.std.proofs.lemmas.List.Sums.{sum_by-cons}
use Rattle.std.specs.Prelude.{Option, Some, None, ◌&&◌, count_by, nat_lt, option_map, option_and_then}
use Rattle.std.specs.Prelude.{bytes_eq, if◌then◌else◌}
use Rattle.delivery_book.specs.declared.entry.Entry.{Entry}
use Rattle.delivery_book.specs.Entries.{HasOneEach, entry_at, is_kept, kept_at, latest_row, row_in}
use Rattle.group_commit.specs.Waits.{record_count}
use Rattle.desk.specs.declared.ticket.CommandTicket.{CommandTicket}
use Rattle.desk.specs.declared.ticket.Ticket.{Ticket}
use Rattle.desk.specs.declared.ticket.Told.TheVariants.{Waiting}
use Rattle.desk.specs.Desks.{DeskValue, IsCore}
use Rattle.desk.specs.OwnBooks as kept
use Rattle.desk.specs.Queries.{is_row_of, known_by}

-- where one entry at most has a number, it is the one that no Purge took, if there is one
none_kept : (n : ℕ) (xs : List Entry) → count_by (λ e. nat_eq e.seq n) xs ≡ 0 → kept_at xs n ≡ None
none_kept n [] h = refl
none_kept n (x ∷ xs) h =
    let counted = sum_by-cons (λ (e : Entry). cond (nat_eq e.seq n) 1 0) x xs in
    grind (arith, counted, h, none_kept n xs)

abbrev if_kept : Option Entry → Option Entry
if_kept found = option_and_then (λ e. if is_kept e then Some e else None) found

kept_is : (n : ℕ) (xs : List Entry) → count_by (λ e. nat_eq e.seq n) xs ≤ 1 → kept_at xs n ≡ if_kept (entry_at xs n)
kept_is n [] h = refl
kept_is n (x ∷ xs) h =
    let counted = sum_by-cons (λ (e : Entry). cond (nat_eq e.seq n) 1 0) x xs in
    let none = λ (z : count_by (λ (e : Entry). nat_eq e.seq n) xs ≡ 0). none_kept n xs z in
    grind (arith, counted, h, kept_is n xs, none)

-- what is settled doesn't wait
known_settled : (halted there : Bool) → known_by halted true there ≡ Waiting → ⊥
known_settled halted there e = cc

-- nor does what is known as little by the settled records as by all
known_alike : (halted known : Bool) → known_by halted known known ≡ Waiting → ⊥
known_alike halted true e = cc
known_alike halted false e = cc

-- nor what isn't there
known_absent : (halted settled : Bool) → known_by halted settled false ≡ Waiting → ⊥
known_absent halted true e = cc
known_absent halted false e = cc

row_alike : (halted : Bool) (ticket : Ticket) (found : Option Entry)
    → known_by halted (is_row_of ticket (option_map (λ e. row_in e.settled e) found))
    (is_row_of ticket (option_map (λ e. row_in e.latest e) (if_kept found))) ≡ Waiting → ⊥
row_alike halted ticket None is = known_alike halted false is
row_alike halted ticket (Some e) is = by (is_kept e) is
  where
    by : (b : Bool) → known_by halted (bytes_eq e.name ticket.name && bytes_eq e.id ticket.id)
        (is_row_of ticket (option_map (λ e. row_in e.latest e) (if b then Some e else None))) ≡ Waiting → ⊥
    by true is = known_alike halted (bytes_eq e.name ticket.name && bytes_eq e.id ticket.id) is
    by false is = known_absent halted (bytes_eq e.name ticket.name && bytes_eq e.id ticket.id) is

not_below : (n settled : ℕ) → nat_lt n settled ≡ false → settled ≤ n
not_below n settled is = grind (arith, nat_tests)

-- an event that waits has a number that isn't settled
pub event_waits : (desk : DeskValue) (ticket : Ticket) → IsCore desk → HasOneEach desk.deliveries
    → kept.told desk ticket ≡ Waiting → desk.waiting.settled ≤ ticket.seq
event_waits desk ticket core once waits = at (nat_lt ticket.seq desk.deliveries.settled_seq) refl
  where
    at : (below : Bool) → nat_lt ticket.seq desk.deliveries.settled_seq ≡ below → desk.waiting.settled ≤ ticket.seq
    at true is = absurd (row_alike desk.halted ticket (entry_at desk.deliveries.entries ticket.seq)
        (subst (λ (kept : Option Entry). known_by desk.halted
        (is_row_of ticket (option_map (λ e. row_in e.settled e) (entry_at desk.deliveries.entries ticket.seq)))
        (is_row_of ticket (option_map (λ e. row_in e.latest e) kept)) ≡ Waiting)
        (kept_is ticket.seq desk.deliveries.entries (once ticket.seq))
        (subst (λ (below : Bool). known_by desk.halted (is_row_of ticket
        (if below then option_map (λ e. row_in e.settled e) (entry_at desk.deliveries.entries ticket.seq) else None))
        (is_row_of ticket (latest_row desk.deliveries ticket.seq)) ≡ Waiting) is waits)))
    at false is =
        subst (λ (settled : ℕ). settled ≤ ticket.seq) core.deliveries_settled
        (not_below ticket.seq desk.deliveries.settled_seq is)

-- a change waits exactly if its number is one of those that wait, and the desk isn't halted
waits_by : (halted settled there : Bool) → known_by halted settled there ≡ Waiting
    → (halted ≡ false) × (settled ≡ false) × (there ≡ true)
waits_by halted true there e = absurd (known_settled halted there e)
waits_by halted false false e = absurd cc
waits_by true false true e = absurd cc
waits_by false false true e = (refl, refl, refl)

below_so : (n all : ℕ) → nat_lt n all ≡ true → n < all
below_so n all is = grind (arith, nat_tests)

pub change_waits : (desk : DeskValue) (ticket : CommandTicket) → kept.told_command desk ticket ≡ Waiting
    → (desk.halted ≡ false) × (desk.waiting.settled ≤ ticket.seq) × (ticket.seq < record_count desk.waiting)
change_waits desk ticket waits =
    let by = waits_by desk.halted (nat_lt ticket.seq desk.waiting.settled)
    (nat_lt ticket.seq (record_count desk.waiting)) waits in
    (by.0, not_below ticket.seq desk.waiting.settled by.1, below_so ticket.seq (record_count desk.waiting) by.2)

pub waiting_change : (desk : DeskValue) (ticket : CommandTicket) → desk.halted ≡ false
    → desk.waiting.settled ≤ ticket.seq → ticket.seq < record_count desk.waiting
    → kept.told_command desk ticket ≡ Waiting
waiting_change desk ticket going from below =
    let settled : nat_lt ticket.seq desk.waiting.settled ≡ false = grind (arith, nat_tests) in
    let there : nat_lt ticket.seq (record_count desk.waiting) ≡ true = grind (arith, nat_tests) in
    ap (λ (b : Bool × Bool × Bool). known_by b.0 b.1 b.2) (λ i. (going i, settled i, there i))
