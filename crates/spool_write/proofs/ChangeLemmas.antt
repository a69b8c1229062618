-- What the statements of a Secrets, an Enabled and an Outcome make of the rows is what these records change.
use Rattle.std.proofs.Common.{◌≡◌, ◌==◌, ℕ, Bool, true, false, ◌&&◌, not, nat_lt, cond, List, [], ◌∷◌, ◌++◌, map}
use Rattle.std.proofs.Common.{Option, Some, None, refl, sym, ap, subst, ◌∙◌, arith, append_assoc}
use Rattle.std.specs.Prelude.{is_some, filter, bytes_eq, if◌then◌else◌}
use Rattle.std.specs.Bool.{then_some}
use Rattle.std.specs.Option.{option_map_or}
use Rattle.std.specs.List.Sorted.{IsPermutation}
use Rattle.std.proofs.lemmas.List.Sorted.{IsPermutation-filter_both, IsPermutation-append_left}
use Rattle.std.proofs.lemmas.List.Sorted.{IsPermutation-append_right, IsPermutation-append_comm, IsPermutation-map}
use Rattle.std.proofs.lemmas.List.Sorted.{IsPermutation-trans}
use Rattle.std.proofs.lemmas.Bool.{lt-ltb, le-ltb, ltb-true, ltb-false, ne_eqb, eqb-true, eqb-false}
use Rattle.sqlite.specs.Effect.{Database}
use Rattle.relay_types.specs.declared.record.Record.{Record}
use Rattle.relay_types.specs.Endpoints.{Endpoint, endpoints, endpoint_of, has_endpoint}
use Rattle.relay_types.specs.Legal.{IsLegal}
use Rattle.relay_types.specs.Rows.{Rows, EndpointRow, SecretRow, change_where, endpoint_row, put_of, rows_of}
use Rattle.relay_types.specs.Rows.{replace_secrets, secret_rows}
use Rattle.relay_types.proofs.OrderLaws.{TellsByNumber, puts_rise, legal_names, tells_by_number}
use Rattle.relay_types.proofs.RowLaws.{put_by_name-is}
use Rattle.spool_sql.specs.Stored.{IsTables, IsPutOf, secret_stored}
use Rattle.spool_write.proofs.LegalLemmas.{has_name-is, legal_once}
use Rattle.spool_write.proofs.RowLemmas.{has_name-found, put_by_name-found}

-- ---- the endpoint of a name

pub unknown_endpoint : (records : List Record) (name : List ℕ) → IsPutOf name (rows_of records) None
    → false ≡ has_endpoint records name
unknown_endpoint records name h = has_name-found (rows_of records) name None h ∙ has_name-is records name

pub known_endpoint : (records : List Record) (name : List ℕ) (put : ℕ) → IsLegal records
    → IsPutOf name (rows_of records) (Some put) → (true ≡ has_endpoint records name) × (put ≡ put_of records name)
known_endpoint records name put legal h = (
  has_name-found (rows_of records) name (Some put) h ∙ has_name-is records name,
  put_by_name-found (rows_of records) name put (legal_once records legal) h ∙ put_by_name-is records name,
)

-- ---- an endpoint's row is told by its number as by its name

changed_alike : (name : List ℕ) (put : ℕ) (edit : EndpointRow → EndpointRow) (records : List Record)
    (es : List Endpoint) → TellsByNumber name put es
    → change_where (λ (e : EndpointRow). e.put == put) edit (map (endpoint_row records) es)
    ≡ change_where (λ (e : EndpointRow). bytes_eq name e.name) edit (map (endpoint_row records) es)
changed_alike name put edit records [] tells = refl
changed_alike name put edit records (e ∷ es) tells =
    λ i. (if sym tells.0 i then edit (endpoint_row records e) else endpoint_row records e)
    ∷ changed_alike name put edit records es tells.1 i

found_if : {X : Type 0} (o : Option X) → true ≡ is_some o → (x : X) × (o ≡ Some x)
found_if (Some x) h = (x, refl)
found_if None h = absurd (let e = h in cc)

pub changed_by_number : (records : List Record) (name : List ℕ) (put : ℕ) (edit : EndpointRow → EndpointRow)
    → IsLegal records → true ≡ has_endpoint records name → put ≡ put_of records name
    → change_where (λ (e : EndpointRow). e.put == put) edit (rows_of records).endpoints
    ≡ change_where (λ (e : EndpointRow). bytes_eq name e.name) edit (rows_of records).endpoints
changed_by_number records name put edit legal has is =
    let found = found_if (endpoint_of records name) has in
    let same : put ≡ found.0.put = is ∙ ap (λ o. option_map_or (λ (e : Endpoint). e.put) o 0) found.1 in
    changed_alike name put edit records (endpoints records)
    (subst (λ p. TellsByNumber name p (endpoints records)) (sym same)
    (tells_by_number 0 name (endpoints records) found.0 (puts_rise records) (legal_names records legal) found.1))

-- ---- secrets in any order

-- the tables have the same secrets in another order
pub tables_permuted : (db : Database) (rows : Rows) (secrets : List SecretRow) → IsPermutation rows.secrets secrets
    → IsTables db rows → IsTables db (record rows { secrets = secrets })
tables_permuted db rows secrets same t = record {
  schema_is = t.schema_is;
  tables = record {
    five = record {
      sound = t.tables.five.sound;
      meta = t.tables.five.meta;
      endpoints = t.tables.five.endpoints;
      secrets = IsPermutation-trans _ (map secret_stored rows.secrets) (map secret_stored secrets) t.tables.five.secrets
          (IsPermutation-map secret_stored rows.secrets secrets same);
      deliveries = t.tables.five.deliveries;
      attempts = t.tables.five.attempts;
      secret_rowids = t.tables.five.secret_rowids;
    };
    topics = t.tables.topics;
    topic_rowids = t.tables.topic_rowids;
  };
}

filter_twice : (p q r : SecretRow → Bool) → ((x : SecretRow) → q x && p x ≡ r x) → (xs : List SecretRow)
    → filter p (filter q xs) ≡ filter r xs
filter_twice p q r both [] = refl
filter_twice p q r both (x ∷ xs) = at (q x) refl (filter_twice p q r both xs)
  where
    at : (a : Bool) → q x ≡ a → filter p (filter q xs) ≡ filter r xs
        → filter p (cond (q x) (x ∷ filter q xs) (filter q xs)) ≡ cond (r x) (x ∷ filter r xs) (filter r xs)
    at true e same =
        ap (λ b. filter p (cond b (x ∷ filter q xs) (filter q xs))) e
        ∙ λ i. cond ((sym (ap (λ b. b && p x) e) ∙ both x) i) (x ∷ same i) (same i)
    at false e same =
        ap (λ b. filter p (cond b (x ∷ filter q xs) (filter q xs))) e ∙ same
        ∙ ap (λ b. cond b (x ∷ filter r xs) (filter r xs)) (sym (ap (λ b. b && p x) e) ∙ both x)

and_false : (a : Bool) → a && false ≡ false
and_false true = refl
and_false false = refl

below_is : (a b : ℕ) → not (a == b) && nat_lt a b ≡ nat_lt a b
below_is a b = at (nat_lt a b) refl
  where
    at : (t : Bool) → nat_lt a b ≡ t → not (a == b) && t ≡ t
    at true e = ap (λ s. not s && true) (ne_eqb a b (λ same. omega (arith, same, ltb-true a b e)))
    at false e = and_false (not (a == b))

above_is : (a b : ℕ) → not (a == b) && not (nat_lt a b) ≡ nat_lt b a
above_is a b = at (nat_lt a b) refl
  where
    at : (t : Bool) → nat_lt a b ≡ t → not (a == b) && not t ≡ nat_lt b a
    at true e = and_false (not (a == b)) ∙ sym (le-ltb b a (omega (arith, ltb-true a b e)))
    at false e = by (a == b) refl
      where
        by : (s : Bool) → a == b ≡ s → not s && true ≡ nat_lt b a
        by true f = sym (le-ltb b a (omega (arith, eqb-true a b f)))
        by false f = sym (lt-ltb b a (omega (arith, ltb-false a b e, eqb-false a b f)))

-- taken out and added after all others, they are those that are replaced in their place
pub replaced_in_place : (put : ℕ) (secrets : List (List ℕ)) (rows : List SecretRow)
    → IsPermutation (filter (λ (s : SecretRow). not (s.endpoint == put)) rows ++ secret_rows put secrets)
    (replace_secrets put secrets rows)
replaced_in_place put secrets rows =
    let others = filter (λ (s : SecretRow). not (s.endpoint == put)) rows in
    let below = filter (λ (s : SecretRow). nat_lt s.endpoint put) rows in
    let above = filter (λ (s : SecretRow). nat_lt put s.endpoint) rows in
    let new = secret_rows put secrets in
    let parts : IsPermutation others (below ++ above) =
    subst (λ xs. IsPermutation others xs) (λ i. filter_twice (λ s. nat_lt s.endpoint put) (λ s. not (s.endpoint == put))
    (λ s. nat_lt s.endpoint put) (λ s. below_is s.endpoint put) rows i
    ++ filter_twice (λ s. not (nat_lt s.endpoint put)) (λ s. not (s.endpoint == put)) (λ s. nat_lt put s.endpoint)
    (λ s. above_is s.endpoint put) rows i)
    (IsPermutation-filter_both (λ (s : SecretRow). nat_lt s.endpoint put)
    (λ (s : SecretRow). not (nat_lt s.endpoint put)) (λ s. refl) others) in
    let moved : IsPermutation ((below ++ above) ++ new) ((below ++ new) ++ above) =
    subst (λ xs. IsPermutation xs ((below ++ new) ++ above)) (sym (append_assoc below above new))
    (subst (IsPermutation (below ++ (above ++ new))) (sym (append_assoc below new above))
    (IsPermutation-append_right below (above ++ new) (new ++ above) (IsPermutation-append_comm above new))) in
    IsPermutation-trans (others ++ new) ((below ++ above) ++ new) ((below ++ new) ++ above)
    (IsPermutation-append_left new others (below ++ above) parts) moved

pub some_if : (b : Bool) (put : ℕ) → then_some b put ≡ (if b then Some put else None)
some_if true put = refl
some_if false put = refl
