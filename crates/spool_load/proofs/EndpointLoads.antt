-- The endpoints that a load reads, with their secrets.
use Rattle.std.proofs.Common.{◌≡◌, ◌<◌, ◌≤◌, inl, inr, ℕ, suc, ◌+◌, ◌==◌, Bool, true, false, List, [], ◌∷◌, ◌++◌, Some}
use Rattle.std.proofs.Common.{Result, Ok, Err, OnOk, IfOk, map, length, refl, sym, ap, subst, ◌∙◌, arith, append-nil}
use Rattle.std.proofs.Common.{append_assoc}
use Rattle.std.specs.Prelude.{filter, flat_map, find, option_map, is_some, bytes_eq}
use Rattle.std.specs.List.{enumerate_from}
use Rattle.std.specs.List.Sorted.{IsPermutation}
use Rattle.std.proofs.lemmas.Bool.{eq-eqb, ne_eqb}
use Rattle.std.proofs.lemmas.List.{map-append}
use Rattle.std.proofs.lemmas.List.Elements.{filter-append}
use Rattle.relay_types.specs.declared.record.Record.{Record}
use Rattle.relay_types.specs.declared.record.Record.TheVariants.{Put, Secrets, Enabled, Accept, Outcome, Subscribed}
use Rattle.relay_types.specs.declared.record.Record.TheVariants.{Purge}
use Rattle.relay_types.specs.Endpoints.{Endpoint, endpoint_by, endpoints, secrets_of}
use Rattle.relay_types.specs.declared.limits.TheConstants.{MAX_RECORDS}
use Rattle.relay_types.specs.Legal.{IsLegal}
use Rattle.relay_types.specs.Rows.{EndpointRow, SecretRow, endpoint_row, secret_rows, rows_of}
use Rattle.relay_types.specs.Sound.{are_sound}
use Rattle.relay_types.specs.Values.{are_secrets}
use Rattle.relay_types.proofs.ConditionLaws.{endpoint_values, same_named}
use Rattle.relay_types.proofs.KeyLaws.{legal_sound}
use Rattle.relay_types.proofs.OrderLaws.{Rises, puts_rise}
use Rattle.relay_types.proofs.RowLaws.{find_map}
use Rattle.relay_types.proofs.StandLaws.{text_same}
use Rattle.relay_types.proofs.TableLaws.{In, none_found}
use Rattle.endpoint_book.specs.Entries.{BookValue, empty_book, is_known, is_named, restored_entry, with_restored}
use Rattle.spool_sql.specs.Stored.{AreSecretsOf}
use Rattle.spool_sql.specs.Reading.{IsRising}
use Rattle.spool_load.specs.Loading.{AreRestored, Restores, NextToRestore, MayRestore, entry_of_row, named_put_of}
use Rattle.spool_load.specs.declared.endpoints.Endpoints.{Endpoints}
use Rattle.spool_sql.proofs.PageLaws.{below_next, rising_order, rising_map, rising_at, rising_higher, rows_rise}
use Rattle.spool_sql.proofs.PageLaws.{legal_length}
use Rattle.spool_load.proofs.QuietReads.{IsReadTo, read_none}

-- Secrets of one endpoint

abbrev has_put : ℕ → SecretRow → Bool
has_put p s = s.endpoint == p

abbrev row_at : ℕ → ℕ × List ℕ → SecretRow
row_at put s = record { endpoint = put; place = s.0; secret = s.1 }

all_own : (p n : ℕ) (secrets : List (List ℕ)) → filter (has_put p) (map (row_at p) (enumerate_from n secrets)) ≡ map
    (row_at p) (enumerate_from n secrets)
all_own p n [] = refl
all_own p n (s ∷ rest) = rw (eq-eqb p p refl) (ap (λ more. row_at p (n, s) ∷ more) (all_own p (n + 1) rest))

none_own : (p q n : ℕ) (secrets : List (List ℕ)) → (q ≡ p → ⊥)
    → filter (has_put p) (map (row_at q) (enumerate_from n secrets)) ≡ []
none_own p q n [] other = refl
none_own p q n (s ∷ rest) other = rw (ne_eqb q p other) (none_own p q (n + 1) rest other)

places_rise : (p n : ℕ) (secrets : List (List ℕ)) → IsRising (λ (s : SecretRow). s.place) n (n + length secrets)
    (map (row_at p) (enumerate_from n secrets))
places_rise p n [] = omega arith
places_rise p n (s ∷ rest) = (
  omega arith,
  subst (λ m. IsRising (λ (t : SecretRow). t.place) (n + 1) m
      (map (row_at p) (enumerate_from (n + 1) rest))) moved (places_rise p (n + 1) rest),
)
  where
    moved : n + 1 + length rest ≡ n + suc (length rest)
    moved = omega arith

secrets_back : (p n : ℕ) (secrets : List (List ℕ))
    → map (λ (s : SecretRow). s.secret) (map (row_at p) (enumerate_from n secrets)) ≡ secrets
secrets_back p n [] = refl
secrets_back p n (s ∷ rest) = ap (λ more. s ∷ more) (secrets_back p (n + 1) rest)

-- Rows among others

pub in_middle : {X : Type 0} (xs ys : List X) (x : X) → In x (xs ++ (x ∷ ys))
in_middle [] ys x = inl refl
in_middle (y ∷ xs) ys x = inr (in_middle xs ys x)

pub in_front : {X : Type 0} (xs ys : List X) (x : X) → In x xs → In x (xs ++ ys)
in_front [] ys x i = absurd i
in_front (y ∷ xs) ys x (inl same) = inl same
in_front (y ∷ xs) ys x (inr i) = inr (in_front xs ys x i)

module _ (records : List Record) where
  abbrev secrets_at : Endpoint → List SecretRow
  secrets_at e = secret_rows e.put (secrets_of records e.name)

  none_above : (p n : ℕ) (es : List Endpoint) → p < n → Rises n es → filter (has_put p) (flat_map secrets_at es) ≡ []
  none_above p n [] l h = refl
  none_above p n (e ∷ es) l h =
      filter-append (has_put p) (secrets_at e) (flat_map secrets_at es)
      ∙ λ i. none_own p e.put 0 (secrets_of records e.name) (λ same. omega (arith, same, l, h.0)) i ++ none_above p
      (e.put + 1) es (omega (arith, l, h.0)) h.1 i

  -- a row among those of rising endpoints stands from there on
  row_above : (n : ℕ) (es : List Endpoint) (before after : List EndpointRow) (row : EndpointRow) → Rises n es
      → map (endpoint_row records) es ≡ before ++ (row ∷ after) → n ≤ row.put
  row_above n [] [] after row h is = absurd (let no = is in cc)
  row_above n [] (b ∷ before) after row h is = absurd (let no = is in cc)
  row_above n (e ∷ es) [] after row h is = subst (λ (r : EndpointRow). n ≤ r.put) (head is) h.0
    where
      head : endpoint_row records e ∷ map (endpoint_row records) es ≡ row ∷ after → endpoint_row records e ≡ row
      head same = cc
  row_above n (e ∷ es) (b ∷ before) after row h is = let more = row_above (e.put + 1) es before after row h.1 (tail is)
      in omega (arith, more, h.0)
    where
      tail : endpoint_row records e ∷ map (endpoint_row records) es ≡ b ∷ (before ++ (row ∷ after))
          → map (endpoint_row records) es ≡ before ++ (row ∷ after)
      tail same = cc

  own_secrets : (n : ℕ) (es : List Endpoint) (before after : List EndpointRow) (row : EndpointRow) → Rises n es
      → map (endpoint_row records) es ≡ before ++ (row ∷ after)
      → filter (has_put row.put) (flat_map secrets_at es) ≡ secret_rows row.put (secrets_of records row.name)
  own_secrets n [] [] after row h is = absurd (let no = is in cc)
  own_secrets n [] (b ∷ before) after row h is = absurd (let no = is in cc)
  own_secrets n (e ∷ es) [] after row h is = subst
      (λ (r : EndpointRow). filter (has_put r.put) (flat_map secrets_at (e ∷ es)) ≡ secret_rows r.put
      (secrets_of records r.name)) (head is) (
      filter-append (has_put e.put) (secrets_at e) (flat_map secrets_at es)
      ∙ (λ i. all_own e.put 0 (secrets_of records e.name) i ++ none_above e.put (e.put + 1) es (omega arith) h.1 i)
      ∙ append-nil (secrets_at e))
    where
      head : endpoint_row records e ∷ map (endpoint_row records) es ≡ row ∷ after → endpoint_row records e ≡ row
      head same = cc
  own_secrets n (e ∷ es) (b ∷ before) after row h is =
      filter-append (has_put row.put) (secrets_at e) (flat_map secrets_at es)
      ∙ λ i. none_own row.put e.put 0 (secrets_of records e.name) differs i ++ own_secrets (e.put + 1) es before after
      row h.1 (tail is) i
    where
      tail : endpoint_row records e ∷ map (endpoint_row records) es ≡ b ∷ (before ++ (row ∷ after))
          → map (endpoint_row records) es ≡ before ++ (row ∷ after)
      tail same = cc

      above : e.put + 1 ≤ row.put
      above = row_above (e.put + 1) es before after row h.1 (tail is)

      differs : e.put ≡ row.put → ⊥
      differs same = omega (arith, same, above)

  -- what is looked up of an endpoint of the table
  pub secrets_found : (before after : List EndpointRow) (row : EndpointRow) (found : List (List ℕ))
      → (rows_of records).endpoints ≡ before ++ (row ∷ after) → AreSecretsOf row.put (rows_of records) found
      → found ≡ secrets_of records row.name
  secrets_found before after row found is h =
      h.3 ∙ ap (map (λ (s : SecretRow). s.secret)) (rising_order (λ (s : SecretRow). s.place) 0 (0 + length own)
      (secret_rows row.put own) h.0 (places_rise row.put 0 own) (subst (λ s. IsPermutation s h.0) those h.1) h.2)
      ∙ secrets_back row.put 0 own
    where
      own : List (List ℕ)
      own = secrets_of records row.name

      those : filter (has_put row.put) (rows_of records).secrets ≡ secret_rows row.put own
      those = own_secrets 0 (endpoints records) before after row (puts_rise records) is

  -- Endpoints in turn

  pub endpoints_rise : IsRising (λ (e : EndpointRow). e.put) 0 (length records) (rows_of records).endpoints
  endpoints_rise = rising_map (endpoint_row records) (λ (e : EndpointRow). e.put) 0 (length records) (endpoints records)
      (subst (λ m. IsRising (λ (e : Endpoint). e.put) 0 m (endpoints records)) whole
      (rows_rise endpoint_by (λ (e : Endpoint). e.put) at_seq 0 records))
    where
      whole : 0 + length records ≡ length records
      whole = omega arith

      some_is : {e f : Endpoint} → Some e ≡ Some f → e ≡ f
      some_is same = cc

      at_seq : (k : ℕ) (r : Record) (e : Endpoint) → endpoint_by (k, r) ≡ Some e → e.put ≡ k
      at_seq k (Put name target max secrets) e is = ap (λ (x : Endpoint). x.put) (sym (some_is is))
      at_seq k (Secrets name secrets) e is = absurd (let no = is in cc)
      at_seq k (Enabled name flag) e is = absurd (let no = is in cc)
      at_seq k (Subscribed topic name flag) e is = absurd (let no = is in cc)
      at_seq k (Accept name id body at) e is = absurd (let no = is in cc)
      at_seq k (Outcome delivery attempt status at) e is = absurd (let no = is in cc)
      at_seq k (Purge moment) e is = absurd (let no = is in cc)

  -- the endpoint of one more row, with its secrets
  pub restored_more : (row : EndpointRow) (secrets : List (List ℕ)) (old new : Endpoints)
      → ((before after : List EndpointRow) → (rows_of records).endpoints ≡ before ++ (row ∷ after)
      → secrets ≡ secrets_of records row.name)
      → new.book ≡ with_restored old.book (restored_entry row.put row.name row.url row.max secrets row.enabled)
      → new.names.items ≡ old.names.items ++ named_put_of row ∷ []
      → Restores old new (row ∷ []) records
  restored_more row secrets old new given book names before after is h = record {
    entries = ap (λ (b : BookValue). b.entries) book
        ∙ (λ i. h.entries i ++ restored_entry row.put row.name row.url row.max (given before after is i) row.enabled
        ∷ [])
        ∙ sym (map-append (entry_of_row records) before (row ∷ []));
    changes = ap (λ (b : BookValue). b.changes) book ∙ h.changes;
    topics = ap (λ (b : BookValue). b.topics) book ∙ h.topics;
    left = λ rest parted.
        subst (λ next. IsRising (λ (e : EndpointRow). e.put) next (length records) rest)
        (sym (ap (λ (b : BookValue). b.next_seq) book))
        (h.left (row ∷ rest) (parted ∙ append_assoc before (row ∷ []) rest)).1;
    settled_seq = omega (arith, ap (λ (b : BookValue). b.settled_seq) book, within);
    names = names ∙ ap (λ ks. ks ++ named_put_of row ∷ []) h.names ∙ sym (map-append named_put_of before (row ∷ []));
  }
    where
      within : row.put < length records
      within = rising_at (λ (e : EndpointRow). e.put) 0 (length records) before after row
          (subst (IsRising (λ (e : EndpointRow). e.put) 0 (length records)) is endpoints_rise)

  -- the endpoint of the next row may be restored
  pub may_restore_next : (loaded : Endpoints) (row : EndpointRow) → IsLegal records
      → NextToRestore loaded (row ∷ []) records → MayRestore loaded.book row.put row.name
  may_restore_next loaded row legal (before, after, is, h) = ((h.left (row ∷ after) is).0, unknown)
    where
      sound : are_sound (rows_of records) ≡ true
      sound = (legal_sound records legal).0

      apart : (e : EndpointRow) → In e before → bytes_eq e.name row.name ≡ false
      apart e i = by (bytes_eq e.name row.name) refl
        where
          less : e.put < row.put
          less = below_next (λ (e : EndpointRow). e.put) 0 (length records) before after row e
              (subst (IsRising (λ (e : EndpointRow). e.put) 0 (length records)) is endpoints_rise) i

          by : (b : Bool) → bytes_eq e.name row.name ≡ b → b ≡ false
          by false other = refl
          by true same = absurd (
              let e_is = same_named (rows_of records) (legal_sound records legal).1 sound row e
              (subst (In row) (sym is) (in_middle before after row))
              (subst (In e) (sym is) (in_front before (row ∷ after) e i)) (text_same e.name row.name same) in
              omega (arith, ap (λ (x : EndpointRow). x.put) e_is, less))

      unknown : is_known loaded.book row.name ≡ false
      unknown = ap (λ es. is_some (find (is_named row.name) es)) h.entries
          ∙ ap is_some (find_map (entry_of_row records) (is_named row.name) before
          ∙ ap (option_map (entry_of_row records))
          (none_found (λ (e : EndpointRow). bytes_eq e.name row.name) before apart))

  -- and it has secrets
  pub has_secrets : (before after : List EndpointRow) (row : EndpointRow) → IsLegal records
      → (rows_of records).endpoints ≡ before ++ (row ∷ after) → are_secrets (secrets_of records row.name) ≡ true
  has_secrets before after row legal is =
      let laws = legal_sound records legal in
      let kept = (endpoint_values (rows_of records) laws.1 laws.0 row
      (subst (In row) (sym is) (in_middle before after row))).3 in
      subst (λ ss. are_secrets ss ≡ true)
      (ap (map (λ (s : SecretRow). s.secret))
      (own_secrets 0 (endpoints records) before after row (puts_rise records) is)
      ∙ secrets_back row.put 0 (secrets_of records row.name)) kept

  -- all are read
  pub restored_within : (loaded : Endpoints) → AreRestored loaded records (rows_of records).endpoints
      → loaded.book.next_seq ≤ length records
  restored_within loaded h = h.left [] (sym (append-nil (rows_of records).endpoints))

-- nothing is read yet
pub restored_none : (records : List Record) (loaded : Endpoints) → IsLegal records → loaded.book ≡ empty_book
    → loaded.names.items ≡ [] → IsReadTo (λ (e : EndpointRow). e.put) (rows_of records).endpoints
    (AreRestored loaded records) 0
restored_none records loaded legal book names =
    read_none (λ (e : EndpointRow). e.put) (rows_of records).endpoints (AreRestored loaded records)
    (rising_higher (λ (e : EndpointRow). e.put) 0 (length records) MAX_RECORDS (rows_of records).endpoints
    (legal_length records legal) (endpoints_rise records)) (record {
      entries = ap (λ (b : BookValue). b.entries) book;
      changes = ap (λ (b : BookValue). b.changes) book;
      topics = ap (λ (b : BookValue). b.topics) book;
      left = λ after parted.
          subst (λ next. IsRising (λ (e : EndpointRow). e.put) next (length records) after)
          (sym (ap (λ (b : BookValue). b.next_seq) book))
          (subst (IsRising (λ (e : EndpointRow). e.put) 0 (length records)) parted (endpoints_rise records));
      settled_seq = omega (arith, ap (λ (b : BookValue). b.settled_seq) book);
      names = names;
    })

pub on_ok_both : {X E : Type 0} (r : Result X E) {P Q R : Type 0} → OnOk r P → OnOk r Q → (P → Q → R) → IfOk r (λ _. R)
on_ok_both (Ok x) p q f = f p q
on_ok_both (Err e) p q f = tt
