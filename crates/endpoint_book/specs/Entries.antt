-- What the book keeps: an entry for each endpoint, in the order of their Puts, the changes that aren't settled, and the
-- topics.
use Rattle.std.specs.Prelude.{◌≡◌, ℕ, ◌+◌, ◌&&◌, Bool, true, false, not, nat_lt, List, [], ◌∷◌, ◌++◌, Option, Some}
use Rattle.std.specs.Prelude.{None, length, map, filter, find, is_some, bytes_eq, count_by, max, if◌then◌else◌}
use Rattle.std.specs.Option.{option_map_or}
use Rattle.relay_types.specs.Values.{Text, Seq}
use Rattle.endpoint_book.specs.declared.entry.Change.{Change}
use Rattle.endpoint_book.specs.declared.entry.Entry.{Entry}
use Rattle.endpoint_book.specs.declared.entry.Kind.{Kind}
use Rattle.endpoint_book.specs.declared.entry.Kind.TheVariants.{Put, Secrets, Flag}
use Rattle.endpoint_book.specs.declared.entry.Shown.{Shown}
use Rattle.endpoint_book.specs.Topics.{TopicsValue, with_pair}

-- the least place that the next record may have, and the place below which the records are settled, beside them
pub record BookValue : Type 0 where
  pub entries : List Entry
  pub changes : List Change
  pub topics : TopicsValue
  pub next_seq : Seq
  pub settled_seq : Seq

abbrev pub empty_book : BookValue
empty_book = record { entries = []; changes = []; topics = []; next_seq = 0; settled_seq = 0 }

abbrev pub is_named : (name : Text) (entry : Entry) → Bool
is_named name e = bytes_eq e.name name

-- the entry of this name
abbrev pub entry_of : (book : BookValue) (name : Text) → Option Entry
entry_of book name = find (is_named name) book.entries

-- each entry is the one of its name
abbrev pub AreFound : BookValue → Type 0
AreFound book = map (λ e. entry_of book e.name) book.entries ≡ map Some book.entries

abbrev pub is_known : (book : BookValue) (name : Text) → Bool
is_known book name = is_some (entry_of book name)

-- what the endpoint shows by all records
abbrev pub now_of : Entry → Shown
now_of e = record { enabled = e.enabled; secrets = length e.secrets }

abbrev pub is_flag_kind : Kind → Bool
is_flag_kind Flag = true
is_flag_kind Put = false
is_flag_kind Secrets = false

abbrev pub is_put_kind : Kind → Bool
is_put_kind Put = true
is_put_kind Flag = false
is_put_kind Secrets = false

abbrev pub is_flag : Change → Bool
is_flag c = is_flag_kind c.kind

abbrev pub is_put : Change → Bool
is_put c = is_put_kind c.kind

-- how many flags aren't settled
abbrev pub flags_in : BookValue → ℕ
flags_in book = count_by is_flag book.changes

-- whether the change stands below this place, and whether it stands there or above
abbrev pub is_below : (place : Seq) (change : Change) → Bool
is_below place c = nat_lt c.seq place

abbrev pub is_from : (place : Seq) (change : Change) → Bool
is_from place c = not (is_below place c)

-- what an endpoint that showed this shows after the changes below the place
abbrev pub shown_at : (place : Seq) (changes : List Change) (name : Text) (shown : Option Shown) → Option Shown
shown_at place [] name shown = shown
shown_at place (c ∷ rest) name shown =
    shown_at place rest name (if bytes_eq c.name name && nat_lt c.seq place then Some c.shown else shown)

abbrev pub settled_at : (place : Seq) (changes : List Change) (name : Text) (entry : Entry) → Entry
settled_at place changes name e = record e { settled = shown_at place changes name e.settled }

-- an endpoint that is put
abbrev pub new_entry : (seq : Seq) (name target : Text) (max : ℕ) (secrets : List Text) → Entry
new_entry seq name target max secrets = record {
  put = seq;
  name = name;
  target = target;
  max = max;
  enabled = true;
  secrets = secrets;
  settled = None;
}

-- an endpoint as its records left it, where all of them are settled
abbrev pub restored_entry : (seq : Seq) (name target : Text) (max : ℕ) (secrets : List Text) (enabled : Bool) → Entry
restored_entry seq name target max secrets enabled = record {
  put = seq;
  name = name;
  target = target;
  max = max;
  enabled = enabled;
  secrets = secrets;
  settled = Some (record { enabled = enabled; secrets = length secrets });
}

-- the book with one more endpoint, all of whose records are settled
abbrev pub with_restored : BookValue → Entry → BookValue
with_restored book e = record book {
  entries = book.entries ++ e ∷ [];
  next_seq = e.put + 1;
  settled_seq = e.put + 1;
}

-- the book with one more endpoint, by its Put
abbrev pub with_put : BookValue → Entry → BookValue
with_put book e = record book {
  entries = book.entries ++ e ∷ [];
  changes = book.changes ++ record { seq = e.put; name = e.name; kind = Put; shown = now_of e } ∷ [];
  next_seq = e.put + 1;
}

-- the change, where the name that is asked for is this one
abbrev pub change_at : (name : Text) (change : Entry → Entry) (asked : Text) (entry : Entry) → Entry
change_at name change asked e = if bytes_eq name asked then change e else e

-- what the endpoint shows once its entry is changed so
abbrev pub shown_with : (change : Entry → Entry) (entry : Option Entry) → Shown
shown_with change entry = option_map_or (λ e. now_of (change e)) entry (record { enabled = true; secrets = 0 })

-- the book in which the endpoint of this name is changed so, by the record with this sequence number
abbrev pub with_change : (book : BookValue) (seq : Seq) (name : Text) (kind : Kind) (change : Entry → Entry) → BookValue
with_change book seq name kind change = record book {
  entries = map (λ e. change_at name change e.name e) book.entries;
  changes = book.changes
      ++ record { seq = seq; name = name; kind = kind; shown = shown_with change (entry_of book name) } ∷ [];
  next_seq = seq + 1;
}

abbrev pub with_flag : (book : BookValue) (seq : Seq) (name : Text) (flag : Bool) → BookValue
with_flag book seq name flag = with_change book seq name Flag (λ e. record e { enabled = flag })

abbrev pub with_secrets : (book : BookValue) (seq : Seq) (name : Text) (secrets : List Text) → BookValue
with_secrets book seq name secrets = with_change book seq name Secrets (λ e. record e { secrets = secrets })

-- the book in which this endpoint is subscribed to the topic or not, where the records that said so are settled
abbrev pub with_restored_topic : (book : BookValue) (topic name : Text) (flag : Bool) → BookValue
with_restored_topic book topic name flag = record book { topics = with_pair book.topics topic name flag }

-- the book in which it is, by the record with this sequence number
abbrev pub with_topic : (book : BookValue) (seq : Seq) (topic name : Text) (flag : Bool) → BookValue
with_topic book seq topic name flag = record book {
  topics = with_pair book.topics topic name flag;
  next_seq = seq + 1;
}

-- the book whose records below this place are settled
abbrev pub with_settled : (book : BookValue) (place : Seq) → BookValue
with_settled book place = record book {
  entries = map (λ e. settled_at place book.changes e.name e) book.entries;
  changes = filter (is_from place) book.changes;
  next_seq = max book.next_seq place;
  settled_seq = place;
}
