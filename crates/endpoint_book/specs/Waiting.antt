-- What a book has of the records after the settled ones, whatever stands before these.
use Rattle.std.specs.Prelude.{◌≡◌, ℕ, ◌+◌, Bool, true, false, not, nat_lt, List, [], ◌∷◌, Option, Some, None, length}
use Rattle.std.specs.Prelude.{map, take, filter, filter_map, option_map, bytes_eq, IsTrue, IfSome, if◌then◌else◌}
use Rattle.std.specs.List.{enumerate_from, list_all}
use Rattle.std.specs.Option.{option_map_or}
use Rattle.relay_types.specs.declared.record.Record.{Record}
use Rattle.relay_types.specs.declared.record.Record.TheVariants as on
use Rattle.relay_types.specs.Values.{Text, Seq}
use Rattle.relay_types.specs.Lists.{last_of}
use Rattle.relay_types.specs.Judging.{is_gone_status}
use Rattle.relay_types.specs.Endpoints.{Endpoint, endpoint_by, secrets_by}
use Rattle.endpoint_book.specs.declared.entry.Change.{Change}
use Rattle.endpoint_book.specs.declared.entry.Entry.{Entry}
use Rattle.endpoint_book.specs.declared.entry.Kind.{Kind}
use Rattle.endpoint_book.specs.declared.entry.Kind.TheVariants.{Put, Secrets, Flag}
use Rattle.endpoint_book.specs.declared.entry.Shown.{Shown}
use Rattle.endpoint_book.specs.Entries.{BookValue, entry_of, now_of, shown_at}
use Rattle.endpoint_book.specs.Topics.{flag_of, last_flag}
use Rattle.endpoint_book.specs.Book.{endpoint_by_entry, secrets_in, settled_in}

-- Each endpoint has a Put below the next record, and shows by all records what the changes make of what the settled
-- ones show.
pub record IsInStep (book : BookValue) : Type 0 where
  pub numbered : IsTrue (list_all (λ e. nat_lt e.put book.next_seq) book.entries)
  pub caught_up : (name : Text)
      → shown_at book.next_seq book.changes name (settled_in book name) ≡ option_map now_of (entry_of book name)

-- Records

-- the endpoint that the record changes: a gone Outcome changes that of its delivery
abbrev pub changed_by : (endpoint_at : Seq → Option Text) → Record → Option Text
changed_by endpoint_at (on.Put name target max secrets) = Some name
changed_by endpoint_at (on.Secrets name secrets) = Some name
changed_by endpoint_at (on.Enabled name flag) = Some name
changed_by endpoint_at (on.Outcome delivery attempt status at) =
    if is_gone_status status then endpoint_at delivery else None
changed_by endpoint_at entry = None

abbrev pub kind_of : Record → Kind
kind_of (on.Put name target max secrets) = Put
kind_of (on.Secrets name secrets) = Secrets
kind_of entry = Flag

abbrev pub with_count : ℕ → Shown → Shown
with_count count shown = record shown { secrets = count }

abbrev pub with_enabled : Bool → Shown → Shown
with_enabled flag shown = record shown { enabled = flag }

-- what its endpoint, which showed this, shows after it
abbrev pub shown_behind : Record → Option Shown → Option Shown
shown_behind (on.Put name target max secrets) shown = Some (record { enabled = true; secrets = length secrets })
shown_behind (on.Secrets name secrets) shown = option_map (with_count (length secrets)) shown
shown_behind (on.Enabled name flag) shown = option_map (with_enabled flag) shown
shown_behind (on.Outcome delivery attempt status at) shown = option_map (with_enabled false) shown
shown_behind entry shown = shown

abbrev pub is_changed_by : (endpoint_at : Seq → Option Text) (name : Text) → Record → Bool
is_changed_by endpoint_at name entry = option_map_or (λ changed. bytes_eq changed name) (changed_by endpoint_at entry)
    false

-- what an endpoint of this name, which showed this, shows after these records
abbrev pub shown_after : (endpoint_at : Seq → Option Text) (name : Text) → List Record → Option Shown → Option Shown
shown_after endpoint_at name [] shown = shown
shown_after endpoint_at name (entry ∷ rest) shown = shown_after endpoint_at name rest
    (if is_changed_by endpoint_at name entry then shown_behind entry shown else shown)

-- The book

-- a change is told by its number, its endpoint and its kind
pub record Told : Type 0 where
  pub seq : Seq
  pub name : Text
  pub kind : Kind

abbrev pub told_of : Change → Told
told_of change = record { seq = change.seq; name = change.name; kind = change.kind }

abbrev pub told_by : (endpoint_at : Seq → Option Text) → (Seq × Record) → Option Told
told_by endpoint_at e =
    option_map (λ name. record { seq = e.0; name = name; kind = kind_of e.1 }) (changed_by endpoint_at e.1)

-- the changes and the endpoints of records of which the first has this number
abbrev pub changes_from : (endpoint_at : Seq → Option Text) → Seq → List Record → List Told
changes_from endpoint_at seq records = filter_map (told_by endpoint_at) (enumerate_from seq records)

abbrev pub endpoints_from : Seq → List Record → List Endpoint
endpoints_from seq records = filter_map endpoint_by (enumerate_from seq records)

abbrev pub is_put_from : Seq → Entry → Bool
is_put_from seq entry = not (nat_lt entry.put seq)

-- These records wait, and `endpoint_at` tells the endpoint of a delivery. Of them are the changes and the endpoints
-- that the book has and that aren't settled, and no others. Once the first of them are settled, it will show of each
-- endpoint what these make of what it shows now. By all records each endpoint shows what all of them make of this, and
-- has the secrets that were given last, and each topic and endpoint has the flag that was given last.
pub record HasChanges (endpoint_at : Seq → Option Text) (book : BookValue) (records : List Record) : Type 0 where
  pub changes : map told_of book.changes ≡ changes_from endpoint_at book.settled_seq records
  pub puts : map endpoint_by_entry (filter (is_put_from book.settled_seq) book.entries) ≡ endpoints_from
      book.settled_seq records
  pub shown : (name : Text) (k : ℕ) → shown_at (book.settled_seq + k) book.changes name (settled_in book name)
      ≡ shown_after endpoint_at name (take k records) (settled_in book name)
  pub latest : (name : Text)
      → option_map now_of (entry_of book name) ≡ shown_after endpoint_at name records (settled_in book name)
  pub secrets : (name : Text)
      → IfSome (last_of (filter_map (secrets_by name) records)) (λ given. secrets_in book name ≡ given)
  pub topics : (topic name : Text)
      → IfSome (last_flag records topic name) (λ flag. flag_of book.topics topic name ≡ Some flag)
