-- The look-ups in the rows of a legal history tell which record may follow it.
use Rattle.std.proofs.Common.{◌≡◌, ◌≤◌, ◌==◌, ℕ, suc, ◌+◌, Bool, true, false, ◌&&◌, ◌||◌, not, nat_lt, cond, List, []}
use Rattle.std.proofs.Common.{◌∷◌, ◌++◌, length, map, Option, Some, None, refl, sym, ap, subst, ◌∙◌, arith, append-nil}
use Rattle.std.proofs.Common.{append_assoc}
use Rattle.std.specs.Prelude.{is_some, find, filter, filter_map, bytes_eq, slice_get, option_map, option_and_then}
use Rattle.std.specs.Prelude.{if◌then◌else◌}
use Rattle.std.specs.List.{enumerate_from, cons_option, list_any}
use Rattle.std.specs.Option.{option_map_or}
use Rattle.std.proofs.lemmas.Bool.{ne_eqb, eq-eqb}
use Rattle.std.proofs.lemmas.List.{length-map}
use Rattle.std.proofs.lemmas.List.Elements.{filter-append}
use Rattle.std.proofs.lemmas.Slice.Eq.{bytes_eq-Decides}
use Rattle.relay_types.specs.declared.limits.TheConstants.{MAX_ENDPOINTS}
use Rattle.relay_types.specs.declared.record.Record.{Record}
use Rattle.relay_types.specs.declared.record.Record.TheVariants.{Put, Accept}
use Rattle.relay_types.specs.Records.{numbered}
use Rattle.relay_types.specs.Deliveries.{is_accept_as, is_purged, known_as}
use Rattle.relay_types.specs.Endpoints.{Endpoint, endpoint_by, endpoints, endpoint_of, has_endpoint}
use Rattle.relay_types.specs.Legal.{may_follow, may_all_follow, IsLegal}
use Rattle.relay_types.specs.Rows.{EndpointRow, DeliveryRow, endpoint_row, delivery_row, put_of, put_by_name, rows_of}
use Rattle.relay_types.proofs.GrowthLaws.{endpoints-snoc}
use Rattle.spool_write.specs.Entering.{may_put, may_accept, accepting}
use Rattle.relay_types.proofs.KnownLaws.{and_first, and_second, AllKnown, legal_known}
use Rattle.spool_write.proofs.RowLemmas.{has_name, has_event, HasEachNameOnce, allows_put, allows_accept, allowed_for}
use Rattle.spool_write.proofs.RowLemmas.{find_is_first, none_if_unnamed}
use Rattle.relay_types.proofs.RowLaws.{find_map, put_by_name-is}

some_map : {X Y : Type 0} (f : X → Y) (o : Option X) → is_some (option_map f o) ≡ is_some o
some_map f None = refl
some_map f (Some x) = refl

pub has_name-is : (records : List Record) (name : List ℕ) → has_name (rows_of records) name ≡ has_endpoint records name
has_name-is records name = ap is_some (find_map (endpoint_row records) (λ (e : EndpointRow). bytes_eq e.name name)
    (endpoints records)) ∙ some_map (endpoint_row records) (endpoint_of records name)

-- Two names with one Put are the same

abbrev name_in : Record → Option (List ℕ)
name_in (Put name target max secrets) = Some name
name_in entry = None

some_is : {X : Type 0} {x y : X} → Some x ≡ Some y → x ≡ y
some_is e = cc

-- the Put of an endpoint stands at its number
abbrev StandsAt : ℕ → List Record → Endpoint → Type 0
StandsAt n some e = (k : ℕ) × (e.put ≡ n + k) × (option_and_then name_in (slice_get some k) ≡ Some e.name)

later : (n : ℕ) (r : Record) (some : List Record) (e : Endpoint) → StandsAt (n + 1) some e → StandsAt n (r ∷ some) e
later n r some e h = (suc h.0, omega (arith, h.1), h.2)

stands_at : (n : ℕ) (some : List Record) (name : List ℕ) (e : Endpoint)
    → find (λ (t : Endpoint). bytes_eq t.name name) (filter_map endpoint_by (enumerate_from n some)) ≡ Some e
    → StandsAt n some e × (bytes_eq e.name name ≡ true)
stands_at n [] name e is = absurd (let h = is in cc)
stands_at n (Put other target max secrets ∷ rest) name e is = at (bytes_eq other name) refl
    is (stands_at (n + 1) rest name e)
  where
    new : Endpoint
    new = record { put = n; name = other; target = target; max = max }

    more : Option Endpoint
    more = find (λ (t : Endpoint). bytes_eq t.name name) (filter_map endpoint_by (enumerate_from (n + 1) rest))

    at : (b : Bool) → bytes_eq other name ≡ b
        → (if b then Some new else find (λ (t : Endpoint). bytes_eq t.name name)
        (filter_map endpoint_by (enumerate_from (n + 1) rest))) ≡ Some e
        → (find (λ (t : Endpoint). bytes_eq t.name name) (filter_map endpoint_by (enumerate_from (n + 1) rest)) ≡ Some e
        → StandsAt (n + 1) rest e × (bytes_eq e.name name ≡ true))
        → StandsAt n (Put other target max secrets ∷ rest) e × (bytes_eq e.name name ≡ true)
    at true same is rest_is =
        let new_is : record { put = n; name = other; target = target; max = max } ≡ e = some_is is in (
          (0, ap (λ (t : Endpoint). t.put) (sym new_is) ∙ omega arith, ap (λ (t : Endpoint). Some t.name) new_is),
          ap
              (λ (t : Endpoint). bytes_eq t.name name) (sym new_is) ∙ same,
        )
    at false same is rest_is =
        let found = rest_is is in
        (later n (Put other target max secrets) rest e found.0, found.1)
stands_at n (entry ∷ rest) name e is =
    let found = stands_at (n + 1) rest name e is in
    (later n entry rest e found.0, found.1)

same_name : (records : List Record) (a b : List ℕ) (e f : Endpoint) → endpoint_of records a ≡ Some e
    → endpoint_of records b ≡ Some f → e.put ≡ f.put → a ≡ b
same_name records a b e f is_e is_f same =
    let at_e = stands_at 0 records a e is_e in
    let at_f = stands_at 0 records b f is_f in
    let place : at_e.0.0 ≡ at_f.0.0 = omega (arith, at_e.0.1, at_f.0.1, same) in
    let names : e.name ≡ f.name = some_is (sym at_e.0.2 ∙ ap (λ k. option_and_then name_in (slice_get records k)) place
    ∙ at_f.0.2) in
    sym ((bytes_eq-Decides e.name a).0 at_e.1) ∙ names ∙ (bytes_eq-Decides f.name b).0 at_f.1

same_put : (records : List Record) (a b : List ℕ) → has_endpoint records a ≡ true → has_endpoint records b ≡ true
    → put_of records a ≡ put_of records b → a ≡ b
same_put records a b has_a has_b same = at (endpoint_of records a) (endpoint_of records b) refl refl has_a has_b same
  where
    at : (o p : Option Endpoint) → endpoint_of records a ≡ o → endpoint_of records b ≡ p → is_some o ≡ true
        → is_some p ≡ true
        → option_map_or (λ (e : Endpoint). e.put) o 0 ≡ option_map_or (λ (e : Endpoint). e.put) p 0 → a ≡ b
    at (Some e) (Some f) is_e is_f h i same = same_name records a b e f is_e is_f same
    at None p is_e is_f h i same = absurd (let e = h in cc)
    at (Some e) None is_e is_f h i same = absurd (let e = i in cc)

put_tells : (records : List Record) (a b : List ℕ) → has_endpoint records a ≡ true → has_endpoint records b ≡ true
    → bytes_eq a b ≡ (put_of records a == put_of records b)
put_tells records a b has_a has_b = at (bytes_eq a b) refl
  where
    at : (t : Bool) → bytes_eq a b ≡ t → t ≡ (put_of records a == put_of records b)
    at true e = sym (eq-eqb (put_of records a) (put_of records b) (ap (put_of records) ((bytes_eq-Decides a b).0 e)))
    at false e = sym (ne_eqb (put_of records a) (put_of records b)
        (λ same. absurd (let yes = (bytes_eq-Decides a b).1 (same_put records a b has_a has_b same) in let no = e
        in cc)))

-- An event is known exactly where its row is there

and_true : (b : Bool) → b && true ≡ b
and_true true = refl
and_true false = refl

and_false : (b : Bool) → b && false ≡ false
and_false true = refl
and_false false = refl

module _ (records : List Record) (name id : List ℕ) (gone : ℕ → Bool) (has : has_endpoint records name ≡ true) where
  -- an Accept of this endpoint and id whose event isn't gone, and the row of one
  abbrev accepts_it : ℕ × Record → Bool
  accepts_it e = is_accept_as name id e.1 && not (gone e.0)

  abbrev is_row_of_it : DeliveryRow → Bool
  is_row_of_it d = (d.endpoint == put_of records name) && bytes_eq d.id id

  abbrev rows_left : ℕ → List Record → List DeliveryRow
  rows_left n some =
      filter (λ (d : DeliveryRow). not (gone d.seq)) (filter_map (delivery_row records) (enumerate_from n some))

  known_in : (n : ℕ) (some : List Record) → AllKnown records some
      → is_some (find accepts_it (enumerate_from n some)) ≡ list_any is_row_of_it (rows_left n some)
  known_in n [] known = refl
  known_in n (Accept other other_id body at ∷ rest) known = by (gone n) (known_in (n + 1) rest known.1)
    where
      it : ℕ × Record
      it = (n, Accept other other_id body at)

      row : DeliveryRow
      row = record { seq = n; endpoint = put_of records other; id = other_id; at = at; body = body }

      is_named : Bool
      is_named = bytes_eq other name && bytes_eq other_id id

      step : (b : Bool) (o : Option (ℕ × Record)) → is_some (if b then Some it else o) ≡ b || is_some o
      step true o = refl
      step false o = refl

      by : (b : Bool)
          → is_some (find accepts_it (enumerate_from (n + 1) rest)) ≡ list_any is_row_of_it (rows_left (n + 1) rest)
          → is_some (if is_named && not b then Some it else find accepts_it (enumerate_from (n + 1) rest))
          ≡ list_any is_row_of_it (cond (not b) (row ∷ rows_left (n + 1) rest) (rows_left (n + 1) rest))
      by true more =
          ap (λ t. is_some (if t then Some it else find accepts_it (enumerate_from (n + 1) rest))) (and_false is_named)
          ∙ more
      by false more =
          ap (λ t. is_some (if t then Some it else find accepts_it (enumerate_from (n + 1) rest))) (and_true is_named)
          ∙ step is_named (find accepts_it (enumerate_from (n + 1) rest))
          ∙ λ i. (put_tells records other name known.0 has i && bytes_eq other_id id) || more i
  known_in n (entry ∷ rest) known = known_in (n + 1) rest known.1

has_event-is : (records : List Record) (name id : List ℕ) → AllKnown records records → has_endpoint records name ≡ true
    → has_event (rows_of records) (put_by_name (rows_of records) name) id ≡ is_some (known_as records name id)
has_event-is records name id known has =
    ap (λ p. has_event (rows_of records) p id) (put_by_name-is records name)
    ∙ sym (some_map (λ (e : ℕ × Record). e.0)
    (find (λ (e : ℕ × Record). is_accept_as name id e.1 && not (is_purged records e.0)) (numbered records))
    ∙ known_in records name id (is_purged records) has 0 records known)

-- the look-ups allow what may follow

pub allows_put-is : (records : List Record) (name : List ℕ) → allows_put (rows_of records) name ≡ may_put records name
allows_put-is records name = λ i. not (has_name-is records name i)
    && nat_lt (length-map (endpoints records) (endpoint_row records) i) MAX_ENDPOINTS

allows_accept-is : (records : List Record) (name id : List ℕ) → IsLegal records
    → allows_accept (rows_of records) name id ≡ may_accept records name id
allows_accept-is records name id legal = by (has_endpoint records name) refl
  where
    by : (b : Bool) → has_endpoint records name ≡ b → allows_accept (rows_of records) name id ≡ has_endpoint records
        name && not (is_some (known_as records name id))
    by true has = λ i. has_name-is records name i
        && not (has_event-is records name id (legal_known records legal) has i)
    by false lacks =
        ap (λ b. b && not (has_event (rows_of records) (put_by_name (rows_of records) name) id))
        (has_name-is records name ∙ lacks)
        ∙ ap (λ b. b && not (is_some (known_as records name id))) (sym lacks)

pub allowed_for-is : (records : List Record) (name id : List ℕ) → IsLegal records
    → allowed_for (rows_of records) name id ≡ accepting records name id
allowed_for-is records name id legal = λ i. if allows_accept-is records name id legal i then Some
    (put_by_name-is records name i) else None

-- No two endpoints of a legal history have one name

abbrev Once : List Endpoint → Type 0
Once es = (name : List ℕ) → length (filter (λ (e : Endpoint). bytes_eq e.name name) es) ≤ 1

none_named : (es : List Endpoint) (name : List ℕ) → is_some (find (λ (e : Endpoint). bytes_eq e.name name) es) ≡ false
    → filter (λ (e : Endpoint). bytes_eq e.name name) es ≡ []
none_named es name h = none_if_unnamed (filter (λ (e : Endpoint). bytes_eq e.name name) es)
    (ap is_some (sym (find_is_first (λ (e : Endpoint). bytes_eq e.name name) es)) ∙ h)

once_more : (es : List Endpoint) (new : Endpoint) → Once es
    → is_some (find (λ (e : Endpoint). bytes_eq e.name new.name) es) ≡ false → Once (es ++ new ∷ [])
once_more es new once lacks other = rw (filter-append (λ (e : Endpoint). bytes_eq e.name other) es (new ∷ []))
    (at (bytes_eq new.name other) refl)
  where
    at : (b : Bool) → bytes_eq new.name other ≡ b
        → length (filter (λ (e : Endpoint). bytes_eq e.name other) es ++ cond b (new ∷ []) []) ≤ 1
    at true e =
        let none : filter (λ (e : Endpoint). bytes_eq e.name other) es
        ≡ [] = subst (λ n. filter (λ (e : Endpoint). bytes_eq e.name n) es ≡ [])
        ((bytes_eq-Decides new.name other).0 e) (none_named es new.name lacks) in
        rw none (omega arith)
    at false e = rw (append-nil (filter (λ (e : Endpoint). bytes_eq e.name other) es)) (once other)

once_step : (before : List Record) (entry : Record) → Once (endpoints before) → may_follow before entry ≡ true
    → Once (endpoints before ++ cons_option (endpoint_by (length before, entry)) [])
once_step before (Put name target max secrets) once follows =
    once_more (endpoints before) (record { put = length before; name = name; target = target; max = max }) once
    (lacks (has_endpoint before name) (and_first (not (has_endpoint before name)) _ follows))
  where
    lacks : (b : Bool) → not b ≡ true → b ≡ false
    lacks true e = absurd (let f = e in cc)
    lacks false e = refl
once_step before entry once follows = subst Once (sym (append-nil (endpoints before))) once

all_once : (before later : List Record) → Once (endpoints before) → may_all_follow before later ≡ true
    → Once (endpoints (before ++ later))
all_once before [] once h = subst (λ r. Once (endpoints r)) (sym (append-nil before)) once
all_once before (entry ∷ later) once h =
    let follows = and_first (may_follow before entry) (may_all_follow (before ++ entry ∷ []) later) h in
    let rest = and_second (may_follow before entry) (may_all_follow (before ++ entry ∷ []) later) h in
    subst (λ r. Once (endpoints r)) (append_assoc before (entry ∷ []) later)
    (all_once (before ++ entry ∷ []) later
    (subst Once (sym (endpoints-snoc before entry)) (once_step before entry once follows)) rest)

filter_map_row : (records : List Record) (name : List ℕ) (es : List Endpoint)
    → length (filter (λ (e : EndpointRow). bytes_eq e.name name) (map (endpoint_row records) es))
    ≡ length (filter (λ (e : Endpoint). bytes_eq e.name name) es)
filter_map_row records name [] = refl
filter_map_row records name (e ∷ es) = at (bytes_eq e.name name) (filter_map_row records name es)
  where
    at : (b : Bool) → length (filter (λ (t : EndpointRow). bytes_eq t.name name) (map (endpoint_row records) es))
        ≡ length (filter (λ (t : Endpoint). bytes_eq t.name name) es)
        → length (cond b (endpoint_row records e ∷ filter (λ (t : EndpointRow). bytes_eq t.name name)
        (map (endpoint_row records) es))
        (filter (λ (t : EndpointRow). bytes_eq t.name name) (map (endpoint_row records) es)))
        ≡ length (cond b (e ∷ filter (λ (t : Endpoint). bytes_eq t.name name) es)
        (filter (λ (t : Endpoint). bytes_eq t.name name) es))
    at true h = ap suc h
    at false h = h

pub legal_once : (records : List Record) → IsLegal records → HasEachNameOnce (rows_of records)
legal_once records legal name =
    let once = all_once [] records (λ other. omega arith) (and_first (may_all_follow [] records) _ legal) name in
    omega (arith, filter_map_row records name (endpoints records), once)
