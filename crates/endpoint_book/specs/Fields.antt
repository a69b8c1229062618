-- What holds of the fields of a book.
use Rattle.std.specs.Prelude.{◌≡◌, ◌≢◌, ℕ, ◌+◌, ◌-◌, ◌≤◌, Bool, true, nat_eq, List, [], ◌++◌, Option, Some, option_map}
use Rattle.std.specs.Prelude.{length, filter, filter_map, is_some, bytes_eq, count_by, if◌then◌else◌}
use Rattle.std.specs.List.{AllPairs, list_any, list_all}
use Rattle.std.specs.BTreeMap as tree
use Rattle.std.specs.Cmp.Lexicographic.{pointwise, slice_cmp}
use Rattle.std.specs.declared.cmp.Ordering.{Ordering}
use Rattle.std.specs.Ordering.{nat_cmp, on}
use Rattle.relay_types.specs.Values.{Text, Seq}
use Rattle.endpoint_book.specs.declared.entries.Entries.{Entries}
use Rattle.endpoint_book.specs.declared.entry.Change.{Change}
use Rattle.endpoint_book.specs.declared.entry.Entry.{Entry}
use Rattle.endpoint_book.specs.declared.limits.TheConstants.{MAX_FLAGS}
use Rattle.endpoint_book.specs.declared.key.NameKey.{NameKey}
use Rattle.endpoint_book.specs.Topics.{TopicsValue}
use Rattle.endpoint_book.specs.Waiting.{IsInStep}
use Rattle.endpoint_book.specs.Entries.{is_flag, is_put, is_below, is_from, settled_at, change_at}

-- keys are the same where their characters are, and stand in the order of these
abbrev pub same_name : NameKey → NameKey → Bool
same_name a b = pointwise nat_eq a.name b.name

abbrev pub name_cmp : NameKey → NameKey → Ordering
name_cmp = on (λ k. k.name) (slice_cmp nat_cmp)

-- the entry of this name
abbrev pub entry_in : (entries : Entries) (name : Text) → Option Entry
entry_in entries name = tree.get name_cmp entries.by_name (record { name = name })

-- the entry of this name is changed so, and no other
abbrev pub Changes : (old new : Entries) (name : Text) (change : Entry → Entry) → Type 0
Changes old new name change =
    (asked : Text) → entry_in new asked ≡ option_map (change_at name change asked) (entry_in old asked)

-- what a look-up finds with one more entry
abbrev pub with_entry : (find_entry : Text → Option Entry) (entry : Entry) (asked : Text) → Option Entry
with_entry find_entry entry asked = if bytes_eq entry.name asked then Some entry else find_entry asked

abbrev pub Puts : (old new : Entries) (entry : Entry) → Type 0
Puts old new entry = (asked : Text) → entry_in new asked ≡ with_entry (entry_in old) entry asked

abbrev pub IsSame : (old new : Entries) → Type 0
IsSame old new = (asked : Text) → entry_in new asked ≡ entry_in old asked

-- what the settled records show is moved on by the changes below this place
abbrev pub SettlesBelow : (place : Seq) (changes : List Change) (old new : Entries) → Type 0
SettlesBelow place changes old new =
    (asked : Text) → entry_in new asked ≡ option_map (settled_at place changes asked) (entry_in old asked)

-- the entries of these names, in their order
abbrev pub listed : (entries : Entries) (names : List Text) → List Entry
listed entries names = filter_map (entry_in entries) names

-- the names are those of the entries, which a look-up by name finds
pub record AreNames (find_entry : Text → Option Entry) (names : List Text) : Type 0 where
  pub keyed : (name : Text) (e : Entry) → find_entry name ≡ Some e → e.name ≡ name
  pub covered : (name : Text) → is_some (find_entry name) ≡ true → list_any (λ n. bytes_eq n name) names ≡ true
  pub each : list_all (λ n. is_some (find_entry n)) names ≡ true

-- The changes stand in the order of their places, between these two, no two flags at one place, and there is room for
-- all flags.
pub record AreChanges (changes : List Change) (flags puts capacity : ℕ) (next_seq settled_seq : Seq) : Type 0 where
  pub parted : (place : Seq) → changes ≡ filter (is_below place) changes ++ filter (is_from place) changes
  pub below_next : (place : Seq) → next_seq ≤ place → filter (is_from place) changes ≡ []
  pub waiting : filter (is_below settled_seq) changes ≡ []
  pub settled_next : settled_seq ≤ next_seq
  pub sparse : (place : Seq) → count_by is_flag (filter (is_from place) changes) ≤ next_seq - place
  pub flags_are : flags ≡ count_by is_flag changes
  pub puts_are : puts ≡ count_by is_put changes
  pub few : flags ≤ MAX_FLAGS
  pub room : length changes + MAX_FLAGS ≤ capacity + flags

-- what holds of the fields of a book, whatever its topics are
pub record IsBook (entries : Entries) (names : List Text) (changes : List Change) (flags puts capacity : ℕ)
    (next_seq settled_seq : Seq) : Type 0 where
  pub are_names : AreNames (entry_in entries) names
  pub apart : AllPairs (λ a b. a ≢ b) names
  pub are_changes : AreChanges changes flags puts capacity next_seq settled_seq
  pub puts_within : puts ≤ length names
  pub in_step : (topics : TopicsValue) → IsInStep (record {
    entries = listed entries names;
    changes = changes;
    topics = topics;
    next_seq = next_seq;
    settled_seq = settled_seq;
  })
