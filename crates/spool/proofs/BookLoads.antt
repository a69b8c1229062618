-- The books of the tables once all their records are settled, and the vault after a load.
use Rattle.std.proofs.Common.{◌≡◌, ◌<◌, ◌⊎◌, ℕ, Bool, true, false, cond, List, [], ◌∷◌, Result, Ok, Err, IfOk, IfErr}
use Rattle.std.proofs.Common.{IsTrue, map, length, inl}
use Rattle.std.proofs.Common.{inr, refl, sym, subst, ap, ◌∙◌, arith}
use Rattle.std.specs.Prelude.{filter, max, IsErr}
use Rattle.sqlite.specs.Effect.{Database}
use Rattle.sqlite.specs.State.{State, HasCleanDisk, IsUnchanged, Survives}
use Rattle.sqlite.specs.Tree.{Trees}
use Rattle.sqlite.specs.Held.{state}
use Rattle.sqlite_trees.specs.declared.store.Store.{Ghosts}
use Rattle.relay_types.specs.declared.record.Record.{Record}
use Rattle.relay_types.specs.Endpoints.{Endpoint, endpoints}
use Rattle.relay_types.specs.Legal.{IsLegal}
use Rattle.relay_types.specs.declared.limits.TheConstants.{MAX_RECORDS}
use Rattle.relay_types.specs.Rows.{Rows, endpoint_row, rows_of}
use Rattle.endpoint_book.specs.declared.entry.Entry.{Entry as EndpointEntry}
use Rattle.endpoint_book.specs.Entries.{is_from, settled_at}
use Rattle.endpoint_book.specs.Entries as endpoint
use Rattle.endpoint_book.specs.Laws.{entry_for}
use Rattle.endpoint_book.specs.Book as endpoint_book
use Rattle.endpoint_book.specs.Topics.{TellsTopics}
use Rattle.endpoint_book.proofs.Restored.{stands-restored}
use Rattle.delivery_book.specs.declared.entry.Entry.{Entry as DeliveryEntry}
use Rattle.delivery_book.specs.Entries.{at_outcomes, front_below, is_left, rest_from, with_latest_settled}
use Rattle.delivery_book.specs.Entries as delivery
use Rattle.delivery_book.specs.Book as delivery_book
use Rattle.delivery_book.proofs.Laws.{stands_restored}
use Rattle.spool_sql.specs.declared.row.RowFault.{RowFault}
use Rattle.spool_sql.specs.declared.row.RowFault.TheVariants.{Failed, Unreadable}
use Rattle.spool_sql.specs.Readable.{WasRefusal, WasRowRefusal}
use Rattle.spool_sql.specs.Steps.{Spares, Stands}
use Rattle.spool_sql.proofs.RefusalLemmas.{of_failure, was_refusal}
use Rattle.spool_sql.specs.Stored.{IsTables}
use Rattle.spool_load.specs.Loading.{AreAccepted, AreAttempted, AreNames, AreRestored, AreSubscribed, IsReadRefusal}
use Rattle.spool_load.specs.Loading.{WasReadRefusal, entry_of_row}
use Rattle.spool_sql.proofs.StepLemmas.{leaves_along, leaves_commit}
use Rattle.spool_sql.proofs.PageLaws.{legal_length}
use Rattle.spool_load.proofs.QuietReads.{IsQuiet, clean_before, quiet_then, tables_along}
use Rattle.spool_sql.proofs.BothRefused.{refusal_since, was_until}
use Rattle.spool.specs.Vaults.{VaultValue, Holds}
use Rattle.spool.specs.Adopting.{IsOnlyRead}
use Rattle.spool.specs.Commits.{HoldsOnDisk}
use Rattle.spool.specs.Books.{AreBooks, IsLoadRefusal, IsSeen, KeepsOpen, LeavesHeld, TellsLoad}
use Rattle.spool_sql.specs.Reading.{error_of}
use Rattle.spool.specs.declared.faults.LoadFault.{LoadFault}
use Rattle.spool.specs.declared.faults.LoadFault.TheVariants.{Closed, Store, OutOfMemory}
use Rattle.spool.specs.declared.load.Books.{Books}
use Rattle.spool_load.specs.declared.deliveries.Deliveries.{Deliveries}
use Rattle.spool_load.specs.declared.endpoints.Endpoints.{Endpoints}

none_changed : (place : ℕ) (es : List EndpointEntry) → map (λ (e : EndpointEntry). settled_at place [] e.name e) es ≡ es
none_changed place [] = refl
none_changed place (e ∷ es) = ap (λ rest. e ∷ rest) (none_changed place es)

none_settled : (es : List DeliveryEntry) → map (at_outcomes [] with_latest_settled) es ≡ es
none_settled [] = refl
none_settled (e ∷ es) = ap (λ rest. e ∷ rest) (none_settled es)

kept_again : {X : Type 0} (p : X → Bool) (xs : List X) → filter p (filter p xs) ≡ filter p xs
kept_again p [] = refl
kept_again p (x ∷ xs) = at (p x) refl (kept_again p xs)
  where
    at : (b : Bool) → p x ≡ b → filter p (filter p xs) ≡ filter p xs
        → filter p (cond b (x ∷ filter p xs) (filter p xs)) ≡ cond b (x ∷ filter p xs) (filter p xs)
    at true e more =
        ap (λ t. cond t (x ∷ filter p (filter p xs)) (filter p (filter p xs))) e ∙ ap (λ rest. x ∷ rest) more
    at false e more = more

module _ (records : List Record) where
  entries_back : (es : List Endpoint) → map (entry_of_row records) (map (endpoint_row records) es)
      ≡ map (entry_for records) es
  entries_back [] = refl
  entries_back (e ∷ es) = ap (λ rest. entry_for records e ∷ rest) (entries_back es)

  endpoints_stand : (loaded : Endpoints) (book : endpoint.BookValue) → IsLegal records
      → AreSubscribed loaded records → book ≡ endpoint.with_settled loaded.book (length records)
      → endpoint_book.StandsFor book records (length records)
  endpoints_stand loaded book legal h is = stands-restored book records legal (record {
    entries = ap (λ (b : endpoint.BookValue). b.entries) is
        ∙ ap (λ cs. map (λ (e : EndpointEntry). settled_at (length records) cs e.name e) loaded.book.entries) h.changes
        ∙ none_changed (length records) loaded.book.entries ∙ h.entries ∙ entries_back (endpoints records);
    changes = ap (λ (b : endpoint.BookValue). b.changes) is ∙ ap (filter (is_from (length records))) h.changes;
    topics = subst (λ (b : endpoint.BookValue). TellsTopics b.topics records) (sym is) h.topics;
    next_seq = omega (arith, ap (λ (b : endpoint.BookValue). b.next_seq) is, h.next_seq);
    settled_seq = ap (λ (b : endpoint.BookValue). b.settled_seq) is;
  })

  deliveries_stand : (loaded : Deliveries) (book : delivery.BookValue) → IsLegal records → AreAttempted loaded records
      → book ≡ delivery.with_settled loaded.book (length records)
      → delivery_book.StandsFor book records (length records)
  deliveries_stand loaded book legal h is = stands_restored book records legal (record {
    entries = ap (λ (b : delivery.BookValue). b.entries) is
        ∙ ap (λ os. filter (is_left (length records))
        (map (at_outcomes (front_below (length records) os) with_latest_settled) loaded.book.entries)) h.unsettled
        ∙ ap (filter (is_left (length records))) (none_settled loaded.book.entries ∙ h.entries)
        ∙ kept_again (is_left (length records)) _;
    unsettled = ap (λ (b : delivery.BookValue). b.unsettled) is ∙ ap (rest_from (length records)) h.unsettled;
    next_seq = omega (arith, ap (λ (b : delivery.BookValue). b.next_seq) is, h.next_seq);
    settled_seq = ap (λ (b : delivery.BookValue). b.settled_seq) is;
  })

-- what was read, once all of it is settled
pub books_read : (db : Database) (endpoints : Endpoints) (deliveries : Deliveries) (count : ℕ)
    (read : Result Books RowFault)
    → IfOk read (λ books. books.endpoints ≡ endpoint.with_settled endpoints.book count)
    → IfOk read (λ books. books.deliveries ≡ delivery.with_settled deliveries.book count)
    → IfOk read (λ books. books.records ≡ count) → IfOk read (λ books. books.clock ≡ deliveries.clock)
    → ((records : List Record) → IsLegal records → IsTables db (rows_of records)
    → AreSubscribed endpoints records × (AreAttempted deliveries records × (count ≡ length records)))
    → IfOk read (λ books. (records : List Record) → IsLegal records → IsTables db (rows_of records)
    → AreBooks books records)
books_read db endpoints deliveries count (Err fault) first second third fourth known = tt
books_read db endpoints deliveries count (Ok books) first second third fourth known = λ records legal tables.
    let all = known records legal tables in
    record {
      endpoints = endpoints_stand records endpoints books.endpoints legal all.0 (first
          ∙ ap (endpoint.with_settled endpoints.book) all.1.1);
      deliveries = deliveries_stand records deliveries books.deliveries legal all.1.0 (second
          ∙ ap (delivery.with_settled deliveries.book) all.1.1);
      records = third ∙ all.1.1;
      clock = fourth ∙ all.1.0.clock;
    }

-- What a load leaves of a vault, by what it leaves of the store
module _ {S : Type 0} (g : Ghosts S) (old new : VaultValue S) where
  abbrev before : State
  before = state g old.conn

  abbrev after : State
  after = state g new.conn

  abbrev IsSettled : State → Type 0
  IsSettled s = (db : Trees) → IsTrue s.is_open → s.may_leave db → db ≡ s.committed.trees

  holds_still : KeepsOpen before after → new.next ≡ old.next → IsTrue after.is_open → (history : List Record)
      → Holds g old history → Holds g new history
  holds_still keeps next is_open history held = record {
    legal = held.legal;
    stands = (keeps is_open).1 (rows_of history) held.stands;
    next = next ∙ held.next;
  }

  holds_seen : KeepsOpen before after → new.next ≡ old.next → IsTrue after.is_open → IsSettled after
      → (history : List Record) → Holds g old history → HoldsOnDisk g new history
  holds_seen keeps next is_open settled history held =
      let still = holds_still keeps next is_open history held in
      (still, leaves_commit after (rows_of history) still.stands settled)

  pub leaves_held : (result : Result Books LoadFault) → (result ≡ Err Closed → ⊥)
      → (IsSeen result → IsTrue after.is_open) → KeepsOpen before after → Survives before after (λ _. ⊥)
      → HasCleanDisk after → new.next ≡ old.next
      → IsSettled before → IsSettled after → LeavesHeld g old new result
  leaves_held (Ok books) tried seen keeps survives clean next was_settled settled =
      holds_seen keeps next (seen tt) settled
  leaves_held (Err Closed) tried seen keeps survives clean next was_settled settled = absurd (tried refl)
  leaves_held (Err OutOfMemory) tried seen keeps survives clean next was_settled settled =
      holds_seen keeps next (seen tt) settled
  leaves_held (Err (Store error)) tried seen keeps survives clean next was_settled settled = λ history held. (
    (λ is_open. holds_still keeps next is_open history held),
    leaves_along before after (λ r. r ≡ rows_of history) survives clean
        (leaves_commit before (rows_of history) held.stands was_settled),
  )

-- What a read leaves, whatever it is answered
pub only_read : (old new : State) → KeepsOpen old new → Survives old new (λ _. ⊥) → HasCleanDisk new
    → IsOnlyRead old new
only_read old new keeps survives clean = record {
  stays = keeps;
  leaves = λ db may. elim (survives.crash clean db may) [ inl was ↦ was | inr none ↦ absurd none ];
}

-- Why a load is refused

pub settles_read : (a z : State) (read : Result Books RowFault) (U : Type 0) → (IsErr read → U)
    → (IsTrue a.is_open → (records : List Record) → IsLegal records → IsTables a.now (rows_of records) → ¬ U)
    → IfErr read (IsReadRefusal a z (λ _. Unit {0}))
settles_read a z (Ok books) U why never = tt
settles_read a z (Err fault) U why never = λ is_open records legal tables given. absurd
    (never is_open records legal tables (why refl))

-- a transaction that is left
pub read_until : (a m z : State) → Survives a m (λ _. ⊥) → Survives m z (λ _. ⊥) → HasCleanDisk z
    → (read : Result Books RowFault) → (HasCleanDisk m → IfErr read (IsReadRefusal a m (λ _. Unit {0})))
    → IfErr read (WasReadRefusal a z)
read_until a m z early late clean (Ok books) refused = tt
read_until a m z early late clean (Err Unreadable) refused = λ is_open records legal tables. absurd
    (refused (omega (arith, clean, late.clean)) is_open records legal tables tt)
read_until a m z early late clean (Err (Failed error)) refused = λ is_open records legal tables.
    was_until a m z late error (was_refusal a m error
    (refused (omega (arith, clean, late.clean)) is_open records legal tables tt))

-- and a look at the store after it
pub load_refused : (a m z : State) → Survives a m (λ _. ⊥) → Survives m z (λ _. ⊥) → HasCleanDisk z
    → (read : Result Books RowFault) (result : Result Books LoadFault)
    → (HasCleanDisk m → IfErr read (WasReadRefusal a m)) → TellsLoad m z read result
    → IfErr result (λ fault. (history : List Record) → IsLegal history → Stands a (rows_of history)
    → IsLoadRefusal a z fault)
load_refused a m z early late clean read (Ok books) refused told = tt
load_refused a m z early late clean read (Err Closed) refused told = λ history legal stands. tt
load_refused a m z early late clean read (Err OutOfMemory) refused told = λ history legal stands. tt
load_refused a m z early late clean read (Err (Store error)) refused (inr (asks, fails)) = λ history legal stands.
    was_refusal a z error (refusal_since a m z early late clean error (of_failure m z error (fails clean)))
load_refused a m z early late clean read (Err (Store error)) refused (inl (fault, is, own, other)) = λ history legal
    stands. by fault own (subst (λ r. IfErr r (WasReadRefusal a m)) is
    (refused (omega (arith, clean, late.clean))) stands.is_open history legal stands.now)
  where
    by : (fault : RowFault) → error ≡ error_of fault → WasRowRefusal a m fault → WasRefusal a z error
    by Unreadable same none = absurd none
    by (Failed e) same refusal = subst (WasRefusal a z) (sym same) (was_until a m z late e refusal)

-- All that was read, one table after another

module _ (a b t d e z : State) (restored endpoints : Endpoints) (deliveries attempted : Deliveries) (count : ℕ)
    (quiet_b : IsQuiet a b) (quiet_t : IsQuiet b t) (quiet_d : IsQuiet t d) (quiet_e : IsQuiet d e) (look : Spares e z)
    (same : HasCleanDisk z → IsUnchanged e z)
    (first : HasCleanDisk b → (records : List Record) → IsLegal records → IsTables a.now (rows_of records)
    → AreRestored restored records (rows_of records).endpoints)
    (topics : HasCleanDisk t → (records : List Record) → IsLegal records → IsTables b.now (rows_of records)
    → AreRestored restored records (rows_of records).endpoints → AreSubscribed endpoints records)
    (second : HasCleanDisk d → (records : List Record) → IsLegal records → IsTables t.now (rows_of records)
    → AreNames endpoints.names.items records → AreAccepted deliveries records (rows_of records).deliveries)
    (third : HasCleanDisk e → (records : List Record) → IsLegal records → IsTables d.now (rows_of records)
    → AreAccepted deliveries records (rows_of records).deliveries → AreAttempted attempted records)
    (last : HasCleanDisk z → (rows : Rows) → IsTables e.now rows → count ≡ rows.records) where
  pub all_read : HasCleanDisk z → (records : List Record) → IsLegal records → IsTables a.now (rows_of records)
      → AreSubscribed endpoints records
      × (AreAttempted attempted records × (count ≡ length records))
  all_read clean records legal tables =
      let at_e = clean_before e z look clean in
      let at_d = clean_before d e quiet_e.spares at_e in
      let at_t = clean_before t d quiet_d.spares at_d in
      let at_b = clean_before b t quiet_t.spares at_t in
      let open_e = (same clean).0.was_open in
      let open_d = (quiet_e.spares.kept at_e).was_open open_e in
      let open_t = (quiet_d.spares.kept at_d).was_open open_d in
      let open_b = (quiet_t.spares.kept at_t).was_open open_t in
      let quiet_at = quiet_then a b t quiet_b quiet_t in
      let quiet_ad = quiet_then a t d quiet_at quiet_d in
      let quiet_ae = quiet_then a d e quiet_ad quiet_e in
      let rows = rows_of records in
      let subscribed = topics at_t records legal (tables_along a b rows quiet_b at_b open_b tables)
      (first at_b records legal tables) in
      let accepted = second at_d records legal (tables_along a t rows quiet_at at_t open_t tables) subscribed.names in (
        subscribed,
        (
          third at_e records legal (tables_along a d rows quiet_ad at_d open_d tables) accepted,
          last clean rows
              (tables_along a e rows quiet_ae at_e open_e tables),
        ),
      )

  -- so many records are settled
  pub all_settle : HasCleanDisk z → (records : List Record) → IsLegal records → IsTables a.now (rows_of records)
      → ¬ ((count < max endpoints.book.next_seq attempted.book.next_seq) ⊎ (MAX_RECORDS < count))
  all_settle clean records legal tables why =
      let all = all_read clean records legal tables in
      let within = all.0.next_seq in
      let few = legal_length records legal in
      elim why [
        | inl below ↦ omega (arith, below, all.1.1, within, all.1.0.next_seq)
        | inr above ↦ omega (arith, above, all.1.1, few)
      ]
