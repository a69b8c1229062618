-- What a book has of the records after the settled ones, whatever stands before these.
use Rattle.std.specs.Prelude.{◌≡◌, ◌+◌, Bool, nat_le, List, [], ◌∷◌, Option, Some, None, filter}
use Rattle.relay_types.specs.declared.record.Record.{Record}
use Rattle.relay_types.specs.Values.{Seq}
use Rattle.relay_types.specs.Records.{Attempt}
use Rattle.relay_types.specs.Deliveries.{attempts_of}
use Rattle.delivery_book.specs.declared.entry.Entry.{Entry}
use Rattle.delivery_book.specs.Book.{outcomes_from}
use Rattle.delivery_book.specs.Entries.{BookValue, entry_at, events_from, progress_after}

abbrev pub is_from : Seq → Entry → Bool
is_from seq entry = nat_le seq entry.seq

-- A delivery with these attempts after the settled records. By all records it has come as far as by the settled ones,
-- or one attempt further.
abbrev pub AreTries : List Attempt → Option Entry → Type 0
AreTries tries None = tries ≡ []
AreTries [] (Some e) = e.latest ≡ e.settled
AreTries (t ∷ []) (Some e) =
    (t.number ≡ e.settled.attempts + 1) × (e.latest ≡ progress_after t.status t.at e.settled)
AreTries (t ∷ other ∷ more) (Some e) = ⊥

-- These records wait: of them are the events, the outcomes and the attempts that the book has and that aren't settled,
-- and no others.
pub record HasWaiting (book : BookValue) (records : List Record) : Type 0 where
  pub events : filter (is_from book.settled_seq) book.entries ≡ events_from book.settled_seq records
  pub outcomes : book.unsettled ≡ outcomes_from book.settled_seq records
  pub tries : (d : Seq) → AreTries (attempts_of records d) (entry_at book.entries d)
