-- The events that a load reads.
use Rattle.std.proofs.Common.{◌≡◌, ◌<◌, ◌≤◌, ℕ, ◌+◌, ◌==◌, Bool, true, false, ◌&&◌, not, List, [], ◌∷◌, ◌++◌, Option}
use Rattle.std.proofs.Common.{Some, None, map, length, refl, sym, ap, subst, ◌∙◌, arith, append-nil, append_assoc}
use Rattle.std.specs.Prelude.{max, option_map, slice_get, filter_map, find, bytes_eq}
use Rattle.std.specs.List.{list_any}
use Rattle.std.specs.Option.{option_map_or}
use Rattle.std.proofs.lemmas.Bool.{eq-eqb, eqb-true, not-true}
use Rattle.std.proofs.lemmas.List.{map-append}
use Rattle.relay_types.specs.declared.record.Record.{Record}
use Rattle.relay_types.specs.declared.record.Record.TheVariants.{Put, Secrets, Enabled, Accept, Outcome, Subscribed}
use Rattle.relay_types.specs.declared.record.Record.TheVariants.{Purge}
use Rattle.relay_types.specs.declared.limits.TheConstants.{MAX_RECORDS}
use Rattle.relay_types.specs.Values.{Text, Seq, Seconds}
use Rattle.relay_types.specs.Deliveries.{is_purged}
use Rattle.relay_types.specs.Records.{numbered}
use Rattle.relay_types.specs.Legal.{IsLegal}
use Rattle.relay_types.specs.Rows.{EndpointRow, DeliveryRow, delivery_row, rows_of}
use Rattle.relay_types.specs.Sound.{AreKeyed, is_put_at}
use Rattle.relay_types.proofs.ConditionLaws.{same_named}
use Rattle.relay_types.proofs.KeyLaws.{legal_sound}
use Rattle.relay_types.proofs.KnownLaws.{and_first, and_second}
use Rattle.relay_types.proofs.RowLaws.{find_map}
use Rattle.relay_types.proofs.StandLaws.{same_text, text_same}
use Rattle.relay_types.proofs.TableLaws.{In, found_at, in_all, in_any, in_none, map_in, none_found}
use Rattle.delivery_book.specs.declared.entry.Entry.{Entry}
use Rattle.delivery_book.specs.Entries.{BookValue, empty_book, is_entry_as, is_kept, known_in, new_entry, with_event}
use Rattle.spool_sql.specs.Reading.{IsRising}
use Rattle.spool_load.specs.Loading.{AreAccepted, Accepts, NextToAccept, MayAccept, AreNames, IsNameOf, fresh_entry}
use Rattle.spool_load.specs.Loading.{greatest, named_put_of, name_put}
use Rattle.spool_load.specs.declared.deliveries.Deliveries.{Deliveries}
use Rattle.spool_load.specs.declared.endpoints.NamedPut.{NamedPut}
use Rattle.spool_sql.proofs.PageLaws.{below_next, get_map, rising_find, rising_higher, rising_kept, rising_map}
use Rattle.spool_sql.proofs.PageLaws.{rows_rise, legal_length}
use Rattle.spool_load.proofs.QuietReads.{IsReadTo, read_none}
use Rattle.spool_load.proofs.EndpointLoads.{endpoints_rise, in_front, in_middle}

pub greatest-append : (some more : List Seconds) → greatest (some ++ more) ≡ max (greatest some) (greatest more)
greatest-append [] more = omega arith
greatest-append (at ∷ some) more = omega (arith, greatest-append some more)

module _ (records : List Record) where
  abbrev rows : List EndpointRow
  rows = (rows_of records).endpoints

  some_is : {X : Type 0} {x y : X} → Some x ≡ Some y → x ≡ y
  some_is e = cc

  -- a name among those of the endpoints is that of the number
  pub named : (names : List NamedPut) (put : Seq) (name : Text) → AreNames names records → IsNameOf names put name
      → name_put rows put ≡ name
  named names put name are (k, is) = at (slice_get rows k) refl (sym (get_map named_put_of rows k)
      ∙ ap (λ ks. slice_get ks k) (sym are) ∙ is)
    where
      at : (o : Option EndpointRow) → slice_get rows k ≡ o
          → option_map named_put_of o ≡ Some (record { put = put; name = name }) → name_put rows put ≡ name
      at None e h = absurd (let no = h in cc)
      at (Some row) e h =
          let known : named_put_of row ≡ record { put = put; name = name } = some_is h in
          sym (ap (λ (n : NamedPut). name_put rows n.put) known)
          ∙ ap (λ o. option_map_or (λ (e : EndpointRow). e.name) o [])
          (rising_find (λ (e : EndpointRow). e.put) 0 (length records) k rows row (endpoints_rise records) e)
          ∙ ap (λ (n : NamedPut). n.name) known

  pub deliveries_rise : IsRising (λ (d : DeliveryRow). d.seq) 0 (length records) (rows_of records).deliveries
  deliveries_rise =
      rising_kept (λ (d : DeliveryRow). d.seq) (λ d. not (is_purged records d.seq)) 0 (length records) all
      (subst (λ m. IsRising (λ (d : DeliveryRow). d.seq) 0 m all) whole
      (rows_rise (delivery_row records) (λ (d : DeliveryRow). d.seq) at_seq 0 records))
    where
      all : List DeliveryRow
      all = filter_map (delivery_row records) (numbered records)

      whole : 0 + length records ≡ length records
      whole = omega arith

      at_seq : (k : ℕ) (r : Record) (d : DeliveryRow) → delivery_row records (k, r) ≡ Some d → d.seq ≡ k
      at_seq k (Accept name id body at) d is = ap (λ (x : DeliveryRow). x.seq) (sym (some_is is))
      at_seq k (Put name target max secrets) d is = absurd (let no = is in cc)
      at_seq k (Secrets name secrets) d is = absurd (let no = is in cc)
      at_seq k (Enabled name flag) d is = absurd (let no = is in cc)
      at_seq k (Subscribed topic name flag) d is = absurd (let no = is in cc)
      at_seq k (Outcome delivery attempt status at) d is = absurd (let no = is in cc)
      at_seq k (Purge moment) d is = absurd (let no = is in cc)

  -- the event of one more row, for the endpoint of this name
  pub accepted_more : (names : List NamedPut) (row : DeliveryRow) (name : Text) (old new : Deliveries)
      → AreNames names records → IsNameOf names row.endpoint name
      → new.book ≡ with_event old.book row.seq name row.id row.body row.at → new.clock ≡ max old.clock row.at
      → Accepts old new (row ∷ []) records
  accepted_more names row name old new are is book clock before after parted h = record {
    entries = ap (λ (b : BookValue). b.entries) book
        ∙ (λ i. h.entries i ++ new_entry row.seq (sym (named names row.endpoint name are is) i) row.id row.body row.at
        ∷ [])
        ∙ sym (map-append (fresh_entry records) before (row ∷ []));
    unsettled = ap (λ (b : BookValue). b.unsettled) book ∙ h.unsettled;
    left = λ rest following.
        subst (λ next. IsRising (λ (d : DeliveryRow). d.seq) next (length records) rest)
        (sym (ap (λ (b : BookValue). b.next_seq) book))
        (h.left (row ∷ rest) (following ∙ append_assoc before (row ∷ []) rest)).1;
    settled_seq = ap (λ (b : BookValue). b.settled_seq) book ∙ h.settled_seq;
    clock = clock ∙ ap (λ c. max c row.at) h.clock ∙ later
        ∙ ap greatest (sym (map-append (λ (d : DeliveryRow). d.at) before (row ∷ [])));
  }
    where
      moments : List Seconds
      moments = map (λ (d : DeliveryRow). d.at) before

      later : max (greatest moments) row.at ≡ greatest (moments ++ row.at ∷ [])
      later = omega (arith, greatest-append moments (row.at ∷ []))

  -- The names of the endpoints, in the order of their numbers

  pub names_rise : (names : List NamedPut) → IsLegal records → AreNames names records
      → IsRising (λ (known : NamedPut). known.put) 0 MAX_RECORDS names
  names_rise names legal are =
      subst (IsRising (λ (known : NamedPut). known.put) 0 MAX_RECORDS) (sym are)
      (rising_map named_put_of (λ (known : NamedPut). known.put) 0 MAX_RECORDS rows
      (rising_higher (λ (e : EndpointRow). e.put) 0 (length records) MAX_RECORDS rows (legal_length records legal)
      (endpoints_rise records)))

  module _ (legal : IsLegal records) where
    abbrev deliveries : List DeliveryRow
    deliveries = (rows_of records).deliveries

    keyed : AreKeyed (rows_of records)
    keyed = (legal_sound records legal).1

    -- the endpoint of an event
    endpoint_there : (row : DeliveryRow) → In row deliveries → (e : EndpointRow) × In e rows × (e.put ≡ row.endpoint)
    endpoint_there row i =
        let found = in_any (λ (e : EndpointRow). e.put == row.endpoint) rows
        (in_all (λ (d : DeliveryRow). is_put_at (rows_of records) d.endpoint) deliveries row keyed.endpoints i) in
        (found.0, found.1, eqb-true found.0.put row.endpoint found.2)

    name_there : (row : DeliveryRow) (i : In row deliveries)
        → name_put rows row.endpoint ≡ (endpoint_there row i).0.name
    name_there row i =
        let there = endpoint_there row i in
        ap (λ o. option_map_or (λ (e : EndpointRow). e.name) o [])
        (found_at (λ (e : EndpointRow). e.put) 0 row.endpoint rows there.0 keyed.puts_rise there.1 there.2)

    pub next_in_table : {loaded : Deliveries} {row : DeliveryRow} → NextToAccept loaded (row ∷ []) records
        → In row deliveries
    next_in_table {loaded} {row} (before, after, parted, h) = subst (In row) (sym parted) (in_middle before after row)

    pub none_missing : (names : List NamedPut) (row : DeliveryRow) → AreNames names records → In row deliveries
        → list_any (λ (known : NamedPut). known.put == row.endpoint) names ≡ false → ⊥
    none_missing names row are i none =
        let there = endpoint_there row i in
        let no = in_none (λ (known : NamedPut). known.put == row.endpoint) names (named_put_of there.0) none
        (subst (In (named_put_of there.0)) (sym are) (map_in named_put_of rows there.0 there.1)) in
        let yes = eq-eqb there.0.put row.endpoint there.2 in cc

    -- two events of one endpoint and id are one
    same_event : (d row : DeliveryRow) → In d deliveries → In row deliveries
        → name_put rows d.endpoint ≡ name_put rows row.endpoint → d.id ≡ row.id → d.seq ≡ row.seq
    same_event d row i j names ids =
        let at_d = endpoint_there d i in
        let at_row = endpoint_there row j in
        let one = same_named (rows_of records) keyed (legal_sound records legal).0 at_row.0 at_d.0 at_row.1 at_d.1
        (sym (name_there d i) ∙ names ∙ name_there row j) in
        let put : d.endpoint ≡ row.endpoint = sym at_d.2 ∙ ap (λ (e : EndpointRow). e.put) one ∙ at_row.2 in
        let alone = in_all (λ (x : DeliveryRow). not
        (list_any (λ (g : DeliveryRow). g.endpoint == x.endpoint && (bytes_eq g.id x.id && not (g.seq == x.seq)))
        deliveries)) deliveries row keyed.ids j in
        by (d.seq == row.seq) refl (in_none
        (λ (g : DeliveryRow). g.endpoint == row.endpoint && (bytes_eq g.id row.id && not (g.seq == row.seq)))
        deliveries d (not-true _ alone) i) (eq-eqb d.endpoint row.endpoint put) (same_text d.id row.id ids)
      where
        by : (b : Bool) → d.seq == row.seq ≡ b
            → (d.endpoint == row.endpoint) && (bytes_eq d.id row.id && not (d.seq == row.seq)) ≡ false
            → d.endpoint == row.endpoint ≡ true → bytes_eq d.id row.id ≡ true → d.seq ≡ row.seq
        by true same none put id = eqb-true d.seq row.seq same
        by false other none put id = absurd
            (let no : true && (true && not false) ≡ false = sym (λ i. put i && (id i && not (other i))) ∙ none in cc)

    -- the event of the next row may be taken in
    pub may_accept_next : (names : List NamedPut) (loaded : Deliveries) (row : DeliveryRow) (name : Text)
        → AreNames names records → IsNameOf names row.endpoint name → NextToAccept loaded (row ∷ []) records
        → MayAccept loaded.book row.seq name row.id
    may_accept_next names loaded row name are is (before, after, parted, h) = ((h.left (row ∷ after) parted).0, unknown)
      where
        own : name_put rows row.endpoint ≡ name
        own = named names row.endpoint name are is

        apart : (d : DeliveryRow) → In d before → is_entry_as name row.id (fresh_entry records d) ≡ false
        apart d i = by (is_entry_as name row.id (fresh_entry records d)) refl
          where
            less : d.seq < row.seq
            less = below_next (λ (x : DeliveryRow). x.seq) 0 (length records) before after row d
                (subst (IsRising (λ (x : DeliveryRow). x.seq) 0 (length records)) parted deliveries_rise) i

            by : (b : Bool) → is_entry_as name row.id (fresh_entry records d) ≡ b → b ≡ false
            by false other = refl
            by true same = absurd (
                let one = same_event d row (subst (In d) (sym parted) (in_front before (row ∷ after) d i))
                (subst (In row) (sym parted) (in_middle before after row))
                (text_same (name_put rows d.endpoint) name
                (and_first (bytes_eq (name_put rows d.endpoint) name) (bytes_eq d.id row.id) same) ∙ sym own)
                (text_same d.id row.id (and_second (bytes_eq (name_put rows d.endpoint) name)
                (bytes_eq d.id row.id) same)) in
                omega (arith, one, less))

        unknown : known_in loaded.book name row.id ≡ None
        unknown = ap (λ es. option_map (λ (e : Entry). e.seq) (find is_it es)) h.entries
            ∙ ap (option_map (λ (e : Entry). e.seq)) (find_map (fresh_entry records) is_it before
            ∙ ap (option_map (fresh_entry records))
            (none_found (λ (d : DeliveryRow). is_it (fresh_entry records d)) before
            (λ d i. ap (λ b. b && true) (apart d i))))
          where
            is_it : Entry → Bool
            is_it entry = is_entry_as name row.id entry && is_kept entry

  -- all are read
  pub accepted_within : (loaded : Deliveries) → AreAccepted loaded records (rows_of records).deliveries
      → loaded.book.next_seq ≤ length records
  accepted_within loaded h = h.left [] (sym (append-nil (rows_of records).deliveries))

-- nothing is read yet
pub accepted_none : (records : List Record) (loaded : Deliveries) → IsLegal records → loaded.book ≡ empty_book
    → loaded.clock ≡ 0
    → IsReadTo (λ (d : DeliveryRow). d.seq) (rows_of records).deliveries (AreAccepted loaded records) 0
accepted_none records loaded legal book clock =
    read_none (λ (d : DeliveryRow). d.seq) (rows_of records).deliveries (AreAccepted loaded records)
    (rising_higher (λ (d : DeliveryRow). d.seq) 0 (length records) MAX_RECORDS (rows_of records).deliveries
    (legal_length records legal) (deliveries_rise records)) (record {
      entries = ap (λ (b : BookValue). b.entries) book;
      unsettled = ap (λ (b : BookValue). b.unsettled) book;
      left = λ after parted.
          subst (λ next. IsRising (λ (d : DeliveryRow). d.seq) next (length records) after)
          (sym (ap (λ (b : BookValue). b.next_seq) book))
          (subst (IsRising (λ (d : DeliveryRow). d.seq) 0 (length records)) parted (deliveries_rise records));
      settled_seq = ap (λ (b : BookValue). b.settled_seq) book;
      clock = clock;
    })
