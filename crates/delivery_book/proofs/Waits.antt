-- The outcomes that aren't settled, and which deliveries they are of.
use Rattle.std.proofs.Common.{◌≡◌, ℕ, zero, suc, ◌+◌, ◌<◌, ◌≤◌, List, [], ◌∷◌, ◌++◌, Option, Some, None, length, take}
use Rattle.std.proofs.Common.{drop, refl, ◌∙◌, ap, arith, cond, eqb, ltb}
use Rattle.std.specs.Prelude.{filter_map, option_map}
use Rattle.std.specs.List.{enumerate_from, cons_option, list_any}
use Rattle.std.proofs.lemmas.Bool.{lt-ltb, le-ltb}
use Rattle.std.proofs.lemmas.List.Elements.{filter_map-append}
use Rattle.relay_types.specs.declared.record.Record.{Record}
use Rattle.relay_types.specs.declared.record.Record.TheVariants.{Put, Secrets, Enabled, Accept, Outcome, Subscribed}
use Rattle.relay_types.specs.declared.record.Record.TheVariants.{Purge}
use Rattle.relay_types.specs.Deliveries.{attempts_of}
use Rattle.relay_types.proofs.GrowthLaws.{enumerate_from-snoc}
use Rattle.delivery_book.specs.declared.entry.Unsettled.{Unsettled}
use Rattle.delivery_book.specs.Entries.{front_below, rest_from}
use Rattle.delivery_book.specs.Book.{delivery_by, outcome_by, outcomes_from}

pub outcomes_from-snoc : (n : ℕ) (records : List Record) (entry : Record)
    → outcomes_from n (records ++ entry ∷ []) ≡ outcomes_from n records ++ cons_option
    (outcome_by (n + length records, entry)) []
outcomes_from-snoc n records entry = ap (filter_map outcome_by) (enumerate_from-snoc n records entry)
    ∙ filter_map-append outcome_by (enumerate_from n records) ((n + length records, entry) ∷ [])

-- which of them are in front of a number

abbrev made : ℕ → ℕ → Unsettled
made n d = record { seq = n; delivery = d }

stop_front : (n seq : ℕ) (o : Option ℕ) (more : List Unsettled) → seq ≤ n → front_below seq more ≡ []
    → front_below seq (cons_option (option_map (made n) o) more) ≡ []
stop_front n seq None more h e = e
stop_front n seq (Some d) more h e = ap (λ b. cond b (made n d ∷ front_below seq more) []) (le-ltb n seq h)

none_front : (n seq : ℕ) (records : List Record) → seq ≤ n → front_below seq (outcomes_from n records) ≡ []
none_front n seq [] h = refl
none_front n seq (r ∷ rest) h = stop_front n seq (delivery_by r) (outcomes_from (n + 1) rest) h
    (none_front (n + 1) seq rest (omega (arith, h)))

stop_rest : (n seq : ℕ) (o : Option ℕ) (more : List Unsettled) → seq ≤ n → rest_from seq more ≡ more
    → rest_from seq (cons_option (option_map (made n) o) more) ≡ cons_option (option_map (made n) o) more
stop_rest n seq None more h e = e
stop_rest n seq (Some d) more h e = ap (λ b. cond b (rest_from seq more) (made n d ∷ more)) (le-ltb n seq h)

all_rest : (n seq : ℕ) (records : List Record) → seq ≤ n
    → rest_from seq (outcomes_from n records) ≡ outcomes_from n records
all_rest n seq [] h = refl
all_rest n seq (r ∷ rest) h = stop_rest n seq (delivery_by r) (outcomes_from (n + 1) rest) h
    (all_rest (n + 1) seq rest (omega (arith, h)))

step_front : (n seq : ℕ) (o : Option ℕ) (few more : List Unsettled) → n < seq → front_below seq more ≡ few
    → front_below seq (cons_option (option_map (made n) o) more) ≡ cons_option (option_map (made n) o) few
step_front n seq None few more h e = e
step_front n seq (Some d) few more h e = ap (λ b. cond b (made n d ∷ front_below seq more) []) (lt-ltb n seq h)
    ∙ ap (λ os. made n d ∷ os) e

step_rest : (n seq : ℕ) (o : Option ℕ) (few more : List Unsettled) → n < seq → rest_from seq more ≡ few
    → rest_from seq (cons_option (option_map (made n) o) more) ≡ few
step_rest n seq None few more h e = e
step_rest n seq (Some d) few more h e = ap (λ b. cond b (rest_from seq more) (made n d ∷ more)) (lt-ltb n seq h) ∙ e

pub front-outcomes : (n k seq : ℕ) (records : List Record) → n + k ≡ seq
    → front_below seq (outcomes_from n records) ≡ outcomes_from n (take k records)
front-outcomes n zero seq records e = none_front n seq records (omega (arith, e))
front-outcomes n (suc k) seq [] e = refl
front-outcomes n (suc k) seq (r ∷ rest) e =
    step_front n seq (delivery_by r) (outcomes_from (n + 1) (take k rest)) (outcomes_from (n + 1) rest)
    (omega (arith, e)) (front-outcomes (n + 1) k seq rest (omega (arith, e)))

pub rest-outcomes : (n k seq : ℕ) (records : List Record) → n + k ≡ seq
    → rest_from seq (outcomes_from n records) ≡ outcomes_from seq (drop k records)
rest-outcomes n zero seq records e = grind (arith, all_rest)
rest-outcomes n (suc k) seq [] e = refl
rest-outcomes n (suc k) seq (r ∷ rest) e =
    step_rest n seq (delivery_by r) (outcomes_from seq (drop k rest)) (outcomes_from (n + 1) rest) (omega (arith, e))
    (rest-outcomes (n + 1) k seq rest (omega (arith, e)))

-- a delivery is one of theirs exactly where it has an attempt there
pub named-attempts : (n : ℕ) (records : List Record) (d : ℕ)
    → list_any (λ o. eqb o.delivery d) (outcomes_from n records) ≡ ltb 0 (length (attempts_of records d))
named-attempts n [] d = refl
named-attempts n (Put name target max secrets ∷ rest) d = named-attempts (n + 1) rest d
named-attempts n (Secrets name secrets ∷ rest) d = named-attempts (n + 1) rest d
named-attempts n (Enabled name flag ∷ rest) d = named-attempts (n + 1) rest d
named-attempts n (Subscribed topic name flag ∷ rest) d = named-attempts (n + 1) rest d
named-attempts n (Accept name id body at ∷ rest) d = named-attempts (n + 1) rest d
named-attempts n (Purge moment ∷ rest) d = named-attempts (n + 1) rest d
named-attempts n (Outcome delivery attempt status at ∷ rest) d = grind (arith, named-attempts (n + 1) rest d)
