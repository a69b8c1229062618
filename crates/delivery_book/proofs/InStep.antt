-- What the invariant of a book tells of its value.
use Rattle.std.proofs.Common.{◌≡◌, ℕ, true, List, arith}
use Rattle.std.specs.Prelude.{nat_lt}
use Rattle.std.specs.List.{AllByRecursion, list_all}
use Rattle.relay_types.proofs.KnownLaws.{and_first}
use Rattle.delivery_book.specs.declared.entry.Entry.{Entry}
use Rattle.delivery_book.specs.declared.entry.Unsettled.{Unsettled}
use Rattle.delivery_book.specs.Entries.{IsCaughtUp, IsInStep, is_ended, is_of_left}
use Rattle.delivery_book.specs.Fields.{is_later, is_numbered, is_rightly_taken}
use Rattle.delivery_book.proofs.Updates.{all_weaker}

ended : (next : ℕ) (e : Entry) → is_rightly_taken next e ≡ true → is_ended e ≡ true
ended next e taken = grind (arith, taken)

pub in_step : (entries : List Entry) (unsettled : List Unsettled) (next settled : ℕ)
    → list_all (is_numbered next) entries ≡ true → AllByRecursion (IsCaughtUp unsettled) entries
    → list_all (is_later entries) unsettled ≡ true → list_all (is_rightly_taken next) entries ≡ true
    → IsInStep (record { entries = entries; unsettled = unsettled; next_seq = next; settled_seq = settled })
in_step entries unsettled next settled numbered caught_up later taken = record {
  numbered = all_weaker (is_numbered next) (λ e. nat_lt e.seq next) entries (λ e is. and_first (nat_lt e.seq next) _ is)
      numbered;
  caught_up = caught_up;
  left = all_weaker (is_later entries) (is_of_left entries) unsettled
      (λ o is. and_first (is_of_left entries o) (nat_lt o.delivery o.seq) is) later;
  ended = all_weaker (is_rightly_taken next) is_ended entries (ended next) taken;
}
