-- The attempts that a load reads, and what all rows of a history make of the book.
use Rattle.std.proofs.Common.{◌≡◌, ◌<◌, ◌≤◌, ℕ, suc, ◌+◌, ◌==◌, Bool, true, false, cond, ◌||◌, not, nat_le, nat_lt}
use Rattle.std.proofs.Common.{List, [], ◌∷◌}
use Rattle.std.proofs.Common.{◌++◌, Option, Some, None, map, take, length, refl, sym, ap, subst, ◌∙◌, arith, append-nil}
use Rattle.std.proofs.Common.{length-append}
use Rattle.std.specs.Prelude.{count_by, filter, find, filter_map, max, option_map, bytes_eq, is_some, if◌then◌else◌}
use Rattle.std.specs.List.{cons_option, enumerate_from, list_any}
use Rattle.std.specs.Option.{option_map_or}
use Rattle.std.proofs.lemmas.Bool.{eq-eqb, eqb-true, lt-leb, lt-ltb, ne_eqb}
use Rattle.std.proofs.lemmas.List.{map-append, take_all}
use Rattle.std.proofs.lemmas.List.Elements.{filter_map-append}
use Rattle.std.proofs.lemmas.List.Sums.{sum_by-cons}
use Rattle.std.proofs.lemmas.Slice.Eq.{bytes_eq-Decides}
use Rattle.relay_types.specs.declared.record.Record.{Record}
use Rattle.relay_types.specs.declared.record.Record.TheVariants.{Put, Secrets, Enabled, Accept, Outcome, Subscribed}
use Rattle.relay_types.specs.declared.record.Record.TheVariants.{Purge}
use Rattle.relay_types.specs.declared.limits.TheConstants.{MAX_FAILURES, MAX_RECORDS}
use Rattle.relay_types.specs.declared.state.State.TheVariants.{Exhausted, Pending}
use Rattle.relay_types.specs.Judging.{is_delivered_status, is_failed_status}
use Rattle.relay_types.specs.Sound.{AreKeyed, attempts_before, is_delivery_at}
use Rattle.relay_types.specs.Values.{Text}
use Rattle.relay_types.specs.Records.{Attempt, attempt_by, numbered}
use Rattle.relay_types.specs.Deliveries.{attempts_of, is_in_state, is_purged, purge_among, purged_by, takes}
use Rattle.relay_types.specs.Endpoints.{Endpoint, endpoints, endpoint_of, has_endpoint}
use Rattle.relay_types.specs.Legal.{IsLegal}
use Rattle.relay_types.specs.Rows.{EndpointRow, DeliveryRow, AttemptRow, attempt_row, delivery_row, endpoint_row}
use Rattle.relay_types.specs.Rows.{put_of, rows_of}
use Rattle.relay_types.proofs.ConditionLaws.{attempt_values}
use Rattle.relay_types.proofs.KeyLaws.{legal_sound}
use Rattle.relay_types.proofs.KnownLaws.{AllKnown, and_both, legal_known}
use Rattle.relay_types.proofs.OrderLaws.{Rises, puts_rise, finds, finds_above}
use Rattle.relay_types.proofs.RowLaws.{find_map}
use Rattle.relay_types.proofs.TableLaws.{In, found_at, in_all, in_any}
use Rattle.delivery_book.specs.declared.entry.Entry.{Entry}
use Rattle.delivery_book.specs.Entries.{BookValue, at_delivery, entry_at, failed_among, has_room_for_attempt, is_left}
use Rattle.delivery_book.specs.Entries.{is_delivered_among, may_restore, progress_of, state_by, with_attempt_restored}
use Rattle.delivery_book.specs.Entries.{with_outcome_restored}
use Rattle.delivery_book.specs.Book.{entry_by}
use Rattle.delivery_book.proofs.Progresses.{progress_of-append}
use Rattle.spool_sql.specs.Reading.{IsRising}
use Rattle.spool_load.specs.Loading.{AreAccepted, AreAttempted, Attempts, NextToAttempt, HaveAttempts, attempt_by_row}
use Rattle.spool_load.specs.Loading.{attempted_entry, fresh_entry, greatest, name_put}
use Rattle.spool_load.specs.declared.deliveries.Deliveries.{Deliveries}
use Rattle.spool_sql.proofs.PageLaws.{few_below, rising_higher, rising_kept, rows_before, rows_rise, legal_length}
use Rattle.spool_load.proofs.QuietReads.{IsReadTo, read_none}
use Rattle.spool_load.proofs.DeliveryLoads.{accepted_within, greatest-append}
use Rattle.spool_load.proofs.EndpointLoads.{in_middle}

pub not_both : (b : Bool) → b ≡ true → b ≡ false → ⊥
not_both b is other = absurd (let no : true ≡ false = sym is ∙ other in cc)

-- The rows of a history, and its words on deliveries

-- the attempts at a delivery are those of its rows
attempts_tied : (d n : ℕ) (some : List Record)
    → filter_map (attempt_by_row d) (filter_map attempt_row (enumerate_from n some)) ≡ filter_map (attempt_by d) some
attempts_tied d n [] = refl
attempts_tied d n (Put name target max secrets ∷ rest) = attempts_tied d (n + 1) rest
attempts_tied d n (Secrets name secrets ∷ rest) = attempts_tied d (n + 1) rest
attempts_tied d n (Enabled name flag ∷ rest) = attempts_tied d (n + 1) rest
attempts_tied d n (Subscribed topic name flag ∷ rest) = attempts_tied d (n + 1) rest
attempts_tied d n (Accept name id body at ∷ rest) = attempts_tied d (n + 1) rest
attempts_tied d n (Purge moment ∷ rest) = attempts_tied d (n + 1) rest
attempts_tied d n (Outcome delivery attempt status at ∷ rest) =
    ap (cons_option (if delivery == d then Some (record { number = attempt; status = status; at = at }) else None))
    (attempts_tied d (n + 1) rest)

-- they are all there where the delivery isn't gone
attempts_left : (gone : ℕ → Bool) (d : ℕ) (ts : List AttemptRow) → gone d ≡ false
    → filter_map (attempt_by_row d) (filter (λ (t : AttemptRow). not (gone t.delivery)) ts)
    ≡ filter_map (attempt_by_row d) ts
attempts_left gone d [] h = refl
attempts_left gone d (t ∷ ts) h = at (gone t.delivery) refl (attempts_left gone d ts h)
  where
    left : List AttemptRow
    left = filter (λ (s : AttemptRow). not (gone s.delivery)) ts

    apart : gone t.delivery ≡ true → t.delivery == d ≡ false
    apart e = ne_eqb t.delivery d (λ same. not_both (gone d) (sym (ap gone same) ∙ e) h)

    at : (b : Bool) → gone t.delivery ≡ b
        → filter_map (attempt_by_row d) left ≡ filter_map (attempt_by_row d) ts
        → filter_map (attempt_by_row d) (cond (not b) (t ∷ left) left)
        ≡ cons_option (attempt_by_row d t) (filter_map (attempt_by_row d) ts)
    at true e more =
        more ∙ ap (λ b. cons_option (if b then Some (record { number = t.number; status = t.status; at = t.at }) else
        None) (filter_map (attempt_by_row d) ts)) (sym (apart e))
    at false e more = ap (cons_option (attempt_by_row d t)) more

-- so are their ends
delivered_tied : (d : ℕ) (ts : List AttemptRow) → is_delivered_among (filter_map (attempt_by_row d) ts) ≡ list_any
    (λ (s : AttemptRow). is_delivered_status s.status) (filter (λ (s : AttemptRow). s.delivery == d) ts)
delivered_tied d [] = refl
delivered_tied d (t ∷ ts) = at (t.delivery == d) (delivered_tied d ts)
  where
    at : (b : Bool) → is_delivered_among (filter_map (attempt_by_row d) ts) ≡ list_any
        (λ (s : AttemptRow). is_delivered_status s.status) (filter (λ (s : AttemptRow). s.delivery == d) ts)
        → is_delivered_among (cons_option
        (if b then Some (record { number = t.number; status = t.status; at = t.at }) else None)
        (filter_map (attempt_by_row d) ts))
        ≡ list_any (λ (s : AttemptRow). is_delivered_status s.status)
        (if b then t ∷ filter (λ (s : AttemptRow). s.delivery == d) ts else filter
        (λ (s : AttemptRow). s.delivery == d) ts)
    at true rest = ap (λ b. is_delivered_status t.status || b) rest
    at false rest = rest

failed_tied : (d : ℕ) (ts : List AttemptRow) → failed_among (filter_map (attempt_by_row d) ts) ≡ count_by
    (λ (s : AttemptRow). is_failed_status s.status) (filter (λ (s : AttemptRow). s.delivery == d) ts)
failed_tied d [] = refl
failed_tied d (t ∷ ts) = at (t.delivery == d) (failed_tied d ts)
  where
    at : (b : Bool) → failed_among (filter_map (attempt_by_row d) ts) ≡ count_by
        (λ (s : AttemptRow). is_failed_status s.status) (filter (λ (s : AttemptRow). s.delivery == d) ts)
        → failed_among (cons_option (if b then Some (record { number = t.number; status = t.status; at = t.at }) else
        None) (filter_map (attempt_by_row d) ts))
        ≡ count_by (λ (s : AttemptRow). is_failed_status s.status)
        (if b then t ∷ filter (λ (s : AttemptRow). s.delivery == d) ts else filter
        (λ (s : AttemptRow). s.delivery == d) ts)
    at true rest =
        sum_by-cons (λ (a : Attempt). cond (is_failed_status a.status) 1 0)
        (record { number = t.number; status = t.status; at = t.at }) (filter_map (attempt_by_row d) ts)
        ∙ ap (λ n. cond (is_failed_status t.status) 1 0 + n) rest
        ∙ sym (sum_by-cons (λ (s : AttemptRow). cond (is_failed_status s.status) 1 0) t
        (filter (λ (s : AttemptRow). s.delivery == d) ts))
    at false rest = rest

no_more : {X Y : Type 0} (f : X → Option Y) (xs : List X) → length (filter_map f xs) ≤ length xs
no_more f [] = omega arith
no_more f (x ∷ xs) = at (f x) (no_more f xs)
  where
    at : (o : Option _) → length (filter_map f xs) ≤ length xs → length (cons_option o (filter_map f xs)) ≤ suc
        (length xs)
    at None rest = omega (arith, rest)
    at (Some y) rest = omega (arith, rest)

-- an endpoint that has the name is found by its number
by_number : (n : ℕ) (name : Text) (es : List Endpoint) (found : Endpoint) → Rises n es → finds name es ≡ Some found
    → (find (λ (e : Endpoint). e.put == found.put) es ≡ Some found) × (found.name ≡ name)
by_number n name [] found rises is = absurd (let no = is in cc)
by_number n name (e ∷ es) found rises is = at (λ later. by_number (e.put + 1) name es found rises.1 later)
    (bytes_eq e.name name) refl is
  where
    some_is : Some e ≡ Some found → e ≡ found
    some_is h = cc

    at : (finds name es ≡ Some found → (find (λ (x : Endpoint). x.put == found.put) es ≡ Some found)
        × (found.name ≡ name)) → (b : Bool) → bytes_eq e.name name ≡ b → (if b then Some e else finds name es)
        ≡ Some found → (find (λ (x : Endpoint). x.put == found.put) (e ∷ es) ≡ Some found) × (found.name ≡ name)
    at more true same h = subst (λ (t : Endpoint). (find (λ (x : Endpoint). x.put == t.put) (e ∷ es) ≡ Some t)
        × (t.name ≡ name)) (some_is h) (
          ap (λ b. if b then Some e else find (λ (x : Endpoint). x.put == e.put) es) (eq-eqb e.put e.put refl),
          (bytes_eq-Decides e.name name).0 same,
        )
    at more false other h =
        let rest = more h in
        let above = finds_above (e.put + 1) name es found rises.1 h in (
          ap (λ b. if b then Some e else find (λ (x : Endpoint). x.put == found.put) es)
              (ne_eqb e.put found.put (λ same. omega (arith, same, above))) ∙ rest.0,
          rest.1,
        )

-- so the name of an endpoint is that of its number
pub name_back : (records : List Record) (name : Text) → has_endpoint records name ≡ true
    → name_put (rows_of records).endpoints (put_of records name) ≡ name
name_back records name known = at (endpoint_of records name) refl known
  where
    at : (o : Option Endpoint) → endpoint_of records name ≡ o → is_some o ≡ true
        → name_put (rows_of records).endpoints (option_map_or (λ (e : Endpoint). e.put) (endpoint_of records name) 0)
        ≡ name
    at None is there = absurd (let no = there in cc)
    at (Some e) is there =
        let found = by_number 0 name (endpoints records) e (puts_rise records) is in
        ap (λ o. name_put (rows_of records).endpoints (option_map_or (λ (x : Endpoint). x.put) o 0)) is
        ∙ ap (λ o. option_map_or (λ (x : EndpointRow). x.name) o [])
        (find_map (endpoint_row records) (λ (x : EndpointRow). x.put == e.put) (endpoints records)
        ∙ ap (option_map (endpoint_row records)) found.0)
        ∙ found.1

-- Entries

module _ (records : List Record) where
  tied : (d : ℕ) → is_purged records d ≡ false
      → filter_map (attempt_by_row d) (rows_of records).attempts ≡ attempts_of records d
  tied d left =
      attempts_left (is_purged records) d (filter_map attempt_row (numbered records)) left ∙ attempts_tied d 0 records

  taken_below : (before later : List Record) (d p : ℕ) → purge_among before later d ≡ Some p
      → p < length before + length later
  taken_below before [] d p is = absurd (let no = is in cc)
  taken_below before (r ∷ later) d p is = at (takes before d r) (taken_below (before ++ r ∷ []) later d p) is
    where
      some_is : {x y : ℕ} → Some x ≡ Some y → x ≡ y
      some_is e = cc

      at : (b : Bool)
          → (purge_among (before ++ r ∷ []) later d ≡ Some p → p < length (before ++ r ∷ []) + length later)
          → (if b then Some (length before) else purge_among (before ++ r ∷ []) later d) ≡ Some p
          → p < length before + length (r ∷ later)
      at true more e = omega (arith, some_is e)
      at false more e = omega (arith, more e, length-append before (r ∷ []))

  -- what a Purge took is given up once all is settled
  given_up : (d p : ℕ) → purged_by records d ≡ Some p → nat_le (length records) p ≡ false
  given_up d p is = lt-leb (length records) p (omega (arith, taken_below [] records d p is))

  abbrev row_entry : DeliveryRow → Entry
  row_entry = attempted_entry records (rows_of records).attempts

  abbrev rows_left : ℕ → List Record → List DeliveryRow
  rows_left n some =
      filter (λ (d : DeliveryRow). not (is_purged records d.seq))
      (filter_map (delivery_row records) (enumerate_from n some))

  abbrev entries_left : (m n : ℕ) → List Record → List Entry
  entries_left m n some =
      filter (is_left (length records))
      (filter_map (entry_by (attempts_of records) (attempts_of (take m records)) (purged_by records))
      (enumerate_from n some))

  entries_tied : (m n : ℕ) (some : List Record) → take m records ≡ records → AllKnown records some
      → map row_entry (rows_left n some) ≡ entries_left m n some
  entries_tied m n [] whole known = refl
  entries_tied m n (Put name target max secrets ∷ rest) whole known = entries_tied m (n + 1) rest whole known.1
  entries_tied m n (Secrets name secrets ∷ rest) whole known = entries_tied m (n + 1) rest whole known.1
  entries_tied m n (Enabled name flag ∷ rest) whole known = entries_tied m (n + 1) rest whole known.1
  entries_tied m n (Subscribed topic name flag ∷ rest) whole known = entries_tied m (n + 1) rest whole known.1
  entries_tied m n (Outcome delivery attempt status at ∷ rest) whole known = entries_tied m (n + 1) rest whole known.1
  entries_tied m n (Purge moment ∷ rest) whole known = entries_tied m (n + 1) rest whole known.1
  entries_tied m n (Accept name id body at ∷ rest) whole known =
      by (purged_by records n) refl (entries_tied m (n + 1) rest whole known.1)
    where
      row : DeliveryRow
      row = record { seq = n; endpoint = put_of records name; id = id; at = at; body = body }

      entry : Option ℕ → Entry
      entry taken = record {
        seq = n;
        name = name;
        id = id;
        body = body;
        at = at;
        latest = progress_of at (attempts_of records n);
        settled = progress_of at (attempts_of (take m records) n);
        taken_by = taken;
      }

      by : (taken : Option ℕ) → purged_by records n ≡ taken
          → map row_entry (rows_left (n + 1) rest) ≡ entries_left m (n + 1) rest
          → map row_entry (cond (not (is_some taken)) (row ∷ rows_left (n + 1) rest) (rows_left (n + 1) rest))
          ≡ cond (option_map_or (nat_le (length records)) taken true) (entry taken ∷ entries_left m (n + 1) rest)
          (entries_left m (n + 1) rest)
      by (Some p) is more =
          more ∙ sym (ap (λ b. cond b (entry (Some p) ∷ entries_left m (n + 1) rest) (entries_left m (n + 1) rest))
          (given_up n p is))
      by None is more = λ i. record {
        seq = n;
        name = name_back records name known.0 i;
        id = id;
        body = body;
        at = at;
        latest = progress_of at (tied n (ap is_some is) i);
        settled = progress_of at ((tied n (ap is_some is) ∙ ap (λ rs. attempts_of rs n) (sym whole)) i);
        taken_by = None;
      } ∷ more i

  -- One more attempt

  attempted_more : (before : List AttemptRow) (row : AttemptRow) (d : DeliveryRow)
      → at_delivery row.delivery (with_attempt_restored row.status row.at) (attempted_entry records before d)
      ≡ attempted_entry records (before ++ row ∷ []) d
  attempted_more before row d = pick (row.delivery == d.seq)
      ∙ ap entry_after (sym (filter_map-append (attempt_by_row d.seq) before (row ∷ [])))
    where
      a : Attempt
      a = record { number = row.number; status = row.status; at = row.at }

      mine : List Attempt
      mine = filter_map (attempt_by_row d.seq) before

      entry_after : List Attempt → Entry
      entry_after attempts = record (fresh_entry records d) {
        latest = progress_of d.at attempts;
        settled =
            progress_of d.at attempts;
      }

      pick : (b : Bool) → (if b then with_attempt_restored row.status row.at (entry_after mine) else entry_after mine)
          ≡ entry_after (mine ++ cons_option (if b then Some a else None) [])
      pick true = λ i. record (fresh_entry records d) {
        latest = sym (progress_of-append d.at mine a) i;
        settled = sym
            (progress_of-append d.at mine a) i;
      }
      pick false = ap entry_after (sym (append-nil mine))

  map_after : (f : Entry → Entry) (before after : DeliveryRow → Entry) → ((d : DeliveryRow) → f (before d) ≡ after d)
      → (ds : List DeliveryRow) → map f (map before ds) ≡ map after ds
  map_after f before after same [] = refl
  map_after f before after same (d ∷ ds) = λ i. same d i ∷ map_after f before after same ds i

  pub attempts_more : (row : AttemptRow) (old new : Deliveries)
      → new.book ≡ with_outcome_restored old.book row.delivery row.status row.at → new.clock ≡ max old.clock row.at
      → Attempts old new (row ∷ []) records
  attempts_more row old new book clock before after parted h = record {
    entries = ap (λ (b : BookValue). b.entries) book
        ∙ ap (map (at_delivery row.delivery (with_attempt_restored row.status row.at))) h.entries
        ∙ map_after (at_delivery row.delivery (with_attempt_restored row.status row.at))
        (attempted_entry records before) (attempted_entry records (before ++ row ∷ [])) (attempted_more before row)
        (rows_of records).deliveries;
    unsettled = ap (λ (b : BookValue). b.unsettled) book ∙ h.unsettled;
    next_seq = omega (arith, ap (λ (b : BookValue). b.next_seq) book, h.next_seq);
    settled_seq = ap (λ (b : BookValue). b.settled_seq) book ∙ h.settled_seq;
    clock = omega (
      arith,
      clock,
      h.clock,
      ap greatest (map-append (λ (a : AttemptRow). a.at) before (row ∷ [])),
      greatest-append (map (λ (a : AttemptRow). a.at) before) (row.at ∷ []),
    );
  }

  -- All rows

  attempts_rise : IsRising (λ (a : AttemptRow). a.seq) 0 (length records) (rows_of records).attempts
  attempts_rise =
      rising_kept (λ (a : AttemptRow). a.seq) (λ a. not (is_purged records a.delivery)) 0 (length records) all
      (subst (λ m. IsRising (λ (a : AttemptRow). a.seq) 0 m all) whole
      (rows_rise attempt_row (λ (a : AttemptRow). a.seq) at_seq 0 records))
    where
      all : List AttemptRow
      all = filter_map attempt_row (numbered records)

      whole : 0 + length records ≡ length records
      whole = omega arith

      some_is : {x y : AttemptRow} → Some x ≡ Some y → x ≡ y
      some_is e = cc

      at_seq : (k : ℕ) (r : Record) (a : AttemptRow) → attempt_row (k, r) ≡ Some a → a.seq ≡ k
      at_seq k (Outcome delivery attempt status at) a is = ap (λ (x : AttemptRow). x.seq) (sym (some_is is))
      at_seq k (Put name target max secrets) a is = absurd (let no = is in cc)
      at_seq k (Secrets name secrets) a is = absurd (let no = is in cc)
      at_seq k (Enabled name flag) a is = absurd (let no = is in cc)
      at_seq k (Subscribed topic name flag) a is = absurd (let no = is in cc)
      at_seq k (Accept name id body at) a is = absurd (let no = is in cc)
      at_seq k (Purge moment) a is = absurd (let no = is in cc)

  -- Why a row of a legal history is taken in

  -- the attempt of the next row may be restored
  pub may_restore_next : (loaded : Deliveries) (row : AttemptRow) → IsLegal records
      → NextToAttempt loaded (row ∷ []) records → may_restore loaded.book row.delivery ≡ true
  may_restore_next loaded row legal (before, after, parted, h) =
      and_both (loaded.book.settled_seq == 0) _ (eq-eqb loaded.book.settled_seq 0 h.settled_seq)
      (and_both (length loaded.book.unsettled == 0) _ (ap (λ os. length os == 0) h.unsettled) room)
    where
      rises : IsRising (λ (a : AttemptRow). a.seq) 0 (length records) (before ++ (row ∷ after))
      rises = subst (IsRising (λ (a : AttemptRow). a.seq) 0 (length records)) parted attempts_rise

      here : In row (rows_of records).attempts
      here = subst (In row) (sym parted) (in_middle before after row)

      keyed : AreKeyed (rows_of records)
      keyed = (legal_sound records legal).1

      there : (d : DeliveryRow) × In d (rows_of records).deliveries × (d.seq == row.delivery ≡ true)
      there = in_any (λ (d : DeliveryRow). d.seq == row.delivery) (rows_of records).deliveries
          (in_all (λ (t : AttemptRow). is_delivery_at (rows_of records) t.delivery) (rows_of records).attempts row
          keyed.deliveries here)

      d : DeliveryRow
      d = there.0

      is : d.seq ≡ row.delivery
      is = eqb-true d.seq row.delivery there.2

      mine : List Attempt
      mine = filter_map (attempt_by_row d.seq) before

      so_far : attempts_before (rows_of records) row ≡ filter (λ (s : AttemptRow). s.delivery == d.seq) before
      so_far =
          ap (λ ts. filter (λ (s : AttemptRow). s.delivery == row.delivery)
          (filter (λ (s : AttemptRow). nat_lt s.seq row.seq) ts)) parted
          ∙ ap (filter (λ (s : AttemptRow). s.delivery == row.delivery))
          (rows_before (λ (a : AttemptRow). a.seq) 0 (length records) before after row rises)
          ∙ ap (λ n. filter (λ (s : AttemptRow). s.delivery == n) before) (sym is)

      undelivered : is_delivered_among mine ≡ false
      undelivered = delivered_tied d.seq before ∙ ap (list_any (λ (s : AttemptRow). is_delivered_status s.status))
          (sym so_far)
          ∙ (attempt_values (rows_of records) keyed (legal_sound records legal).0 row here).4

      failed : failed_among mine < MAX_FAILURES
      failed = omega (
        arith,
        failed_tied d.seq before,
        ap (count_by (λ (s : AttemptRow). is_failed_status s.status))
            so_far,
        (attempt_values (rows_of records) keyed (legal_sound records legal).0 row here).5,
      )

      few : length mine < MAX_RECORDS
      few = omega (
        arith,
        no_more (attempt_by_row d.seq) before,
        few_below (λ (a : AttemptRow). a.seq) 0 (length records) (before ++ (row ∷ after)) rises,
        length-append before (row ∷ after),
        legal_length records legal,
      )

      pending : is_in_state Pending (state_by (is_delivered_among mine) (failed_among mine)) ≡ true
      pending =
          ap (λ b. is_in_state Pending (state_by b (failed_among mine))) undelivered
          ∙ ap (λ b. is_in_state Pending (if b then Exhausted else Pending))
          (lt-leb MAX_FAILURES (failed_among mine) failed)

      room : option_map_or has_room_for_attempt (entry_at loaded.book.entries row.delivery) false ≡ true
      room =
          ap (λ es. option_map_or has_room_for_attempt (entry_at es row.delivery) false) h.entries
          ∙ ap (λ o. option_map_or has_room_for_attempt o false) (
          find_map (attempted_entry records before) (λ (e : Entry). e.seq == row.delivery)
          (rows_of records).deliveries
          ∙ ap (option_map (attempted_entry records before))
          (found_at (λ (x : DeliveryRow). x.seq) 0 row.delivery (rows_of records).deliveries d
          keyed.deliveries_rise there.1 is))
          ∙ and_both _ (nat_lt (length mine) MAX_RECORDS)
          (and_both _ (length mine == length mine) pending (eq-eqb (length mine) (length mine) refl))
          (lt-ltb (length mine) MAX_RECORDS few)

  -- no attempt is read yet
  pub attempts_none : (loaded : Deliveries) → IsLegal records → AreAccepted loaded records (rows_of records).deliveries
      → IsReadTo (λ (a : AttemptRow). a.seq) (rows_of records).attempts (HaveAttempts loaded records) 0
  attempts_none loaded legal h =
      read_none (λ (a : AttemptRow). a.seq) (rows_of records).attempts (HaveAttempts loaded records)
      (rising_higher (λ (a : AttemptRow). a.seq) 0 (length records) MAX_RECORDS (rows_of records).attempts
      (legal_length records legal) attempts_rise) (record {
        entries = h.entries;
        unsettled = h.unsettled;
        next_seq = accepted_within records loaded h;
        settled_seq = h.settled_seq;
        clock = omega (arith, h.clock);
      })

  -- all are read
  pub attempts_all : (loaded : Deliveries) → IsLegal records → HaveAttempts loaded records (rows_of records).attempts
      → AreAttempted loaded records
  attempts_all loaded legal h = record {
    entries = h.entries ∙ entries_tied (length records) 0 records (take_all (length records) records (omega arith))
        (legal_known records legal);
    unsettled = h.unsettled;
    next_seq = h.next_seq;
    settled_seq = h.settled_seq;
    clock = h.clock;
  }
