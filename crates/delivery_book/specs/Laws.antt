-- Laws that contracts rest on.
use Rattle.std.specs.Prelude.{◌≡◌, ◌≤◌, ℕ, List, [], ◌∷◌, ◌++◌, length, IsTrue}
use Rattle.relay_types.specs.declared.record.Record.{Record}
use Rattle.relay_types.specs.Legal.{IsLegal}
use Rattle.delivery_book.specs.Entries.{BookValue}
use Rattle.delivery_book.specs.Book.{StandsFor, entries_of, is_other}

-- a book stands for the longer history too where the record concerns no delivery
abbrev pub OthersLeave : Type 0
OthersLeave =
    (book : BookValue) (records : List Record) (settled : ℕ) (entry : Record)
    → StandsFor book records settled → IsTrue (is_other entry) → StandsFor book (records ++ entry ∷ []) settled

-- the book has just the deliveries of these records, and all of them are settled
pub record IsRestored (book : BookValue) (records : List Record) : Type 0 where
  pub entries : book.entries ≡ entries_of records (length records)
  pub unsettled : book.unsettled ≡ []
  pub next_seq : book.next_seq ≤ length records
  pub settled_seq : book.settled_seq ≡ length records

abbrev pub RestoredStand : Type 0
RestoredStand =
    (book : BookValue) (records : List Record) → IsLegal records → IsRestored book records
    → StandsFor book records (length records)
