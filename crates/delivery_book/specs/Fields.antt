-- What ties the index, the counts and the room of a book to its entries.
use Rattle.std.specs.Prelude.{◌≡◌, ℕ, ◌+◌, ◌^◌, ◌<◌, ◌≤◌, ◌&&◌, ◌||◌, ◌==◌, not, Bool, true, false, nat_lt, nat_eq}
use Rattle.std.specs.Prelude.{List, ◌∷◌, ◌++◌}
use Rattle.std.specs.Prelude.{length, take, Option, Some, None, option_map, unwrap_or, is_some, slice_index_or}
use Rattle.std.specs.Prelude.{filter, find, count_by, bytes_eq, All, AllPairs, IfSome, IsTrue, if◌then◌else◌}
use Rattle.std.specs.List.{AllByRecursion, list_all, list_any}
use Rattle.std.specs.Option.{option_or, option_map_or}
use Rattle.std.specs.BTreeMap.{get_by}
use Rattle.std.specs.Box.{boxed_slice_items}
use Rattle.std.specs.Cmp.Lexicographic.{pointwise, slice_cmp}
use Rattle.std.specs.HashMap.{get}
use Rattle.std.specs.Ordering.{nat_cmp}
use Rattle.relay_types.specs.declared.limits.TheConstants.{MAX_RECORDS}
use Rattle.relay_types.specs.declared.state.State.{State}
use Rattle.relay_types.specs.declared.state.State.TheVariants.{Pending, Delivered, Exhausted}
use Rattle.relay_types.specs.Values.{Text, Seq}
use Rattle.relay_types.specs.Deliveries.{is_in_state}
use Rattle.delivery_book.specs.declared.entry.Entry.{Entry}
use Rattle.delivery_book.specs.declared.entry.Unsettled.{Unsettled}
use Rattle.delivery_book.specs.declared.index.EventIndex.{EventIndex}
use Rattle.delivery_book.specs.declared.keys.EndpointKey.{EndpointKey}
use Rattle.delivery_book.specs.declared.row.Counts.{Counts}
use Rattle.delivery_book.specs.declared.tally.Tally.{Tally}
use Rattle.delivery_book.specs.Progress.{Progress}
use Rattle.delivery_book.specs.Entries.{BookValue, IsCaughtUp, is_entry_as, is_kept, is_left, is_of_left, state_in}

-- Keys

-- keys are the same where their characters are
abbrev pub same_endpoint : EndpointKey → EndpointKey → Bool
same_endpoint a b = pointwise nat_eq a.name b.name

-- the key of an event: how long the endpoint's name is, the name, and the id
abbrev pub key_bytes : (name id : Text) → List ℕ
key_bytes name id = length name ∷ name ++ id

-- Counts by state

abbrev pub no_counts : Counts
no_counts = record { pending = 0; delivered = 0; exhausted = 0 }

abbrev pub in_state : State → Counts → ℕ
in_state Pending counts = counts.pending
in_state Delivered counts = counts.delivered
in_state Exhausted counts = counts.exhausted

abbrev pub one_if : (state asked : State) → ℕ
one_if state asked = if is_in_state asked state then 1 else 0

-- whether an endpoint is the one asked for, or any where all are
abbrev pub is_among : (those : Option Text) (name : Text) → Bool
is_among None name = true
is_among (Some asked) name = bytes_eq name asked

-- what the tally has of an endpoint, or of all
abbrev pub counts_for : Tally → (those : Option Text) → Counts
counts_for tally None = tally.all
counts_for tally (Some name) = unwrap_or (get same_endpoint tally.each (record { name = name })) no_counts

-- what holds of the counts in this state that have the endpoint: its own, and those of all
abbrev pub AtCounts : Tally → (name : Text) → State → (ℕ → Type 0) → Type 0
AtCounts tally name state P =
    (those : Option Text) → is_among those name ≡ true → P (in_state state (counts_for tally those))

-- one for a delivery of this endpoint in this state
abbrev pub one_of : (name : Text) (state : State) (those : Option Text) (asked : State) → ℕ
one_of name state those asked = if is_among those name && is_in_state asked state then 1 else 0

-- so many more are counted
abbrev pub HasMore : (old : Tally) → (more : Option Text → State → ℕ) → (new : Tally) → Type 0
HasMore old more new =
    (those : Option Text) (asked : State)
    → in_state asked (counts_for new those) ≡ in_state asked (counts_for old those) + more those asked

abbrev pub HasSame : (old new : Tally) → Type 0
HasSame old new = (those : Option Text) → counts_for new those ≡ counts_for old those

-- the tally has room for counts of the endpoint
abbrev pub has_room : Tally → (name : Text) → Bool
has_room tally name = is_some (get same_endpoint tally.each (record { name = name }))

abbrev pub KeepsRoom : (old new : Tally) → Type 0
KeepsRoom old new = (asked : Text) → has_room old asked ≡ true → has_room new asked ≡ true

abbrev pub HasRoomForAll : Tally → List Entry → Type 0
HasRoomForAll tally entries = IsTrue (list_all (λ e. has_room tally e.name) entries)

-- the entry is of these endpoints, and in this state by what is picked of it
abbrev pub is_counted : (picked : Entry → Progress) (those : Option Text) (asked : State) → Entry → Bool
is_counted picked those asked entry = is_among those entry.name && is_in_state asked (state_in (picked entry))

abbrev pub settled_among : List Entry → (those : Option Text) (asked : State) → ℕ
settled_among entries those asked = count_by (is_counted (λ e. e.settled) those asked) entries

-- the entries of the events that are settled, and how many of them are in each state
abbrev pub settled_entries : BookValue → List Entry
settled_entries book = filter (λ e. nat_lt e.seq book.settled_seq) book.entries

abbrev pub settled_counts : BookValue → (those : Option Text) → Counts
settled_counts book those = record {
  pending = settled_among (settled_entries book) those Pending;
  delivered = settled_among (settled_entries book) those Delivered;
  exhausted = settled_among (settled_entries book) those Exhausted;
}

-- these entries can be counted too
abbrev pub CanCount : Tally → List Entry → Type 0
CanCount tally entries =
    (those : Option Text) (asked : State)
    → in_state asked (counts_for tally those) + settled_among entries those asked < 2 ^ 64

-- these entries are among those that the tally has counted
abbrev pub HasCounted : Tally → List Entry → Type 0
HasCounted tally entries =
    (those : Option Text) (asked : State) → settled_among entries those asked ≤ in_state asked (counts_for tally those)

abbrev pub IsTally : Tally → (picked : Entry → Progress) → List Entry → Type 0
IsTally tally picked entries =
    (those : Option Text) (asked : State)
    → in_state asked (counts_for tally those) ≡ count_by (is_counted picked those asked) entries

-- Order

-- the entries stand in the order of their numbers
abbrev pub IsAscending : List Entry → Type 0
IsAscending entries =
    (i j : ℕ) (d : Entry)
    → i < j → j < length entries → (slice_index_or entries i d).seq < (slice_index_or entries j d).seq

-- the first n entries stand below this number, and those after them don't
abbrev pub FirstBelow : (n : ℕ) → Seq → List Entry → Type 0
FirstBelow n seq entries = (k : ℕ) (d : Entry) → k < n → (slice_index_or entries k d).seq < seq

abbrev pub RestFrom : (n : ℕ) → Seq → List Entry → Type 0
RestFrom n seq entries =
    (k : ℕ) (d : Entry) → n ≤ k → k < length entries → seq ≤ (slice_index_or entries k d).seq

-- the entry stands below the next number, and has no more attempts than can be restored and numbers were handed out
abbrev pub is_numbered : (next : Seq) → Entry → Bool
is_numbered next entry = nat_lt entry.seq next && not (nat_lt (next + MAX_RECORDS) entry.latest.attempts)

-- the number that the index has at a key, and that of an event
abbrev pub number_at : EventIndex → (key : List ℕ) → Option Seq
number_at index key = get_by (λ k. slice_cmp nat_cmp key (boxed_slice_items k)) index.numbers

abbrev pub number_of : EventIndex → (name id : Text) → Option Seq
number_of index name id = number_at index (key_bytes name id)

-- the later index has this number of the event, or none, and has those of others as before
abbrev pub HasNumber : (old : EventIndex) → (name id : Text) → Option Seq → (new : EventIndex) → Type 0
HasNumber old name id number new =
    (other : Text) (other_id : Text)
    → number_of new other other_id
    ≡ (if bytes_eq name other && bytes_eq id other_id then number else number_of old other other_id)

-- the entry is of the event, and no Purge took it
abbrev pub is_known_as : (name id : Text) → Entry → Bool
is_known_as name id entry = is_entry_as name id entry && is_kept entry

-- the index has the number of each event that no Purge took, and of no other
abbrev pub IsIndex : EventIndex → List Entry → Type 0
IsIndex index entries =
    (name id : Text) → number_of index name id ≡ option_map (λ e. e.seq) (find (is_known_as name id) entries)

-- the index has the numbers of these events too
abbrev pub HasMoreKeys : (old : EventIndex) → (events : List Entry) → (new : EventIndex) → Type 0
HasMoreKeys old events new =
    (name id : Text)
    → number_of new name id
    ≡ option_or (number_of old name id) (option_map (λ e. e.seq) (find (is_entry_as name id) events))

-- the index has the numbers of these events no more
abbrev pub HasLessKeys : (old : EventIndex) → (events : List Entry) → (new : EventIndex) → Type 0
HasLessKeys old events new =
    (name id : Text)
    → number_of new name id ≡ (if list_any (is_entry_as name id) events then None else number_of old name id)

abbrev pub HasSameKeys : (old new : EventIndex) → Type 0
HasSameKeys old new = (name id : Text) → number_of new name id ≡ number_of old name id

-- the index has none of these events, and no two of them are one
pub record AreNew (index : EventIndex) (events : List Entry) : Type 0 where
  pub unknown : All (λ e. number_of index e.name e.id ≡ None) events
  pub apart : AllPairs (λ a b. is_entry_as b.name b.id a ≡ false) events

-- Outcomes that wait

-- an outcome of the entry waits
abbrev pub is_waiting : Entry → Bool
is_waiting entry = not (entry.latest.attempts == entry.settled.attempts)

-- whether it is pending by the settled records, so that an outcome of it may wait
abbrev pub may_wait : Entry → Bool
may_wait entry = is_in_state Pending (state_in entry.settled)

-- what is pending by all records is so by the settled ones, and what waits as well
abbrev pub is_in_turn : Entry → Bool
is_in_turn entry = may_wait entry || not (is_waiting entry || is_in_state Pending (state_in entry.latest))

-- the outcome is one of an entry that stands before it, and no Purge took this before
abbrev pub is_later : List Entry → Unsettled → Bool
is_later entries o = is_of_left entries o && nat_lt o.delivery o.seq

-- Purges that wait

-- a Purge below this number took the entry
abbrev pub is_taken_below : Seq → Entry → Bool
is_taken_below seq entry = not (is_left seq entry)

-- the earlier of two entries of one event was taken before the later came
abbrev pub AreApart : List Entry → Type 0
AreApart entries =
    AllPairs (λ a b. is_entry_as b.name b.id a ≡ true → is_taken_below b.seq a ≡ true) entries

-- no Purge took the entry before this one; if there is none, it is kept
abbrev pub is_not_before : (next_purge : Option Seq) → Entry → Bool
is_not_before next_purge entry = option_map_or (λ purge. is_left purge entry) next_purge (is_kept entry)

abbrev pub AreFirst : (next_purge : Option Seq) → List Entry → Type 0
AreFirst next_purge entries = IsTrue (list_all (is_not_before next_purge) entries)

-- the Purge of this number took the entry
abbrev pub is_taken_by : (purge : Seq) → Entry → Bool
is_taken_by purge entry = option_map_or (nat_eq purge) entry.taken_by false

-- if there is such a Purge, it took one of these entries
abbrev pub IsNamed : (next_purge : Option Seq) → List Entry → Type 0
IsNamed next_purge entries = IfSome next_purge (λ purge. IsTrue (list_any (is_taken_by purge) entries))

-- a Purge that took the entry has a number between the entry's and this one, and the delivery has ended
abbrev pub is_rightly_taken : (next : Seq) → Entry → Bool
is_rightly_taken next entry =
    option_map_or (λ purge. nat_lt entry.seq purge
    && (nat_lt purge next && not (is_in_state Pending (state_in entry.latest))))
    entry.taken_by true

-- what holds of the entries that Purges took, this one the first of them
pub record AreMarked (entries : List Entry) (next_purge : Option Seq) (next_seq : Seq) : Type 0 where
  pub apart : AreApart entries
  pub taken : IsTrue (list_all (is_rightly_taken next_seq) entries)
  pub first : AreFirst next_purge entries
  pub named : IsNamed next_purge entries

-- The book

-- what holds of the entries and their numbers
pub record IsKeyed (entries : List Entry) (index : EventIndex) (next_seq settled_seq : Seq)
    (settled_entries : ℕ) : Type 0 where
  pub ascending : IsAscending entries
  pub numbered : IsTrue (list_all (is_numbered next_seq) entries)
  pub settled_next : settled_seq ≤ next_seq
  pub indexed : IsIndex index entries
  pub settled_within : settled_entries ≤ length entries
  pub settled_below : FirstBelow settled_entries settled_seq entries
  pub settled_above : RestFrom settled_entries settled_seq entries

-- what holds of the outcomes that wait, for which there is this room
pub record IsQueue (entries : List Entry) (unsettled : List Unsettled) (capacity : ℕ) : Type 0 where
  pub later : IsTrue (list_all (is_later entries) unsettled)
  pub counted : length unsettled ≤ count_by is_waiting entries
  pub caught_up : AllByRecursion (IsCaughtUp unsettled) entries
  pub in_turn : IsTrue (list_all is_in_turn entries)
  pub room : count_by may_wait entries ≤ capacity

-- the outcomes that wait are in the order of their numbers, which are below this one
pub record AreInOrder (unsettled : List Unsettled) (next_seq : Seq) : Type 0 where
  pub rising : AllPairs (λ a b. a.seq < b.seq) unsettled
  pub below : IsTrue (list_all (λ o. nat_lt o.seq next_seq) unsettled)

-- what holds of the fields of a book
pub record IsBook (entries : List Entry) (index : EventIndex) (tally settled_tally : Tally)
    (unsettled : List Unsettled) (capacity : ℕ) (next_seq settled_seq : Seq) (settled_entries : ℕ)
    (next_purge : Option Seq) : Type 0 where
  pub keyed : IsKeyed entries index next_seq settled_seq settled_entries
  pub latest : IsTally tally (λ e. e.latest) entries
  pub settled : IsTally settled_tally (λ e. e.settled) (take settled_entries entries)
  pub opened : HasRoomForAll settled_tally entries
  pub queue : IsQueue entries unsettled capacity
  pub order : AreInOrder unsettled next_seq
  pub marks : AreMarked entries next_purge next_seq
