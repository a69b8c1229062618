-- Records inside a transaction: one by one, and then their number.
use Rattle.std.proofs.Common.{◌≡◌, ◌<◌, ◌≤◌, inl, inr, ℕ, zero, suc, ◌+◌, Bool, true, false, List, [], ◌∷◌, ◌++◌}
use Rattle.std.proofs.Common.{length, take, Some, None, IsTrue, refl, sym, ap, subst, ◌∙◌, arith, append-nil}
use Rattle.std.proofs.Common.{append_assoc, length-append, add-one}
use Rattle.std.specs.Prelude.{◌==◌, ◌&&◌, not, min, slice_get, get_or, if◌then◌else◌}
use Rattle.sqlite.specs.State.{State, IsUnchanged}
use Rattle.sqlite.specs.Effect.{Database}
use Rattle.sqlite.proofs.Callers.{unchanged_then}
use Rattle.relay_types.specs.declared.limits.TheConstants.{MAX_RECORDS}
use Rattle.relay_types.specs.declared.record.Record.{Record}
use Rattle.relay_types.specs.declared.record.Record.TheVariants.{Put, Secrets, Enabled, Accept, Outcome, Subscribed}
use Rattle.relay_types.specs.Values.{is_moment}
use Rattle.relay_types.specs.Judging.{is_gone_status}
use Rattle.relay_types.specs.Endpoints.{has_endpoint}
use Rattle.relay_types.specs.Records.{History, records_of}
use Rattle.relay_types.specs.Steps.{IsStep}
use Rattle.std.proofs.lemmas.List.{length-map}
use Rattle.relay_types.specs.Legal.{may_follow, is_legal, is_within_limits}
use Rattle.relay_types.specs.Rows.{Rows, EndpointRow, change_where, put_of, put_by_delivery, replace_secrets, rows_of}
use Rattle.relay_types.specs.Rows.{put_record}
use Rattle.spool_sql.specs.Stored.{IsTables, IsPutOf, with_records, with_delivery, with_attempt, with_enabled}
use Rattle.spool_sql.specs.Stored.{with_topic, without_topic}
use Rattle.spool_sql.specs.Steps.{AddsUnlessKnown, GoesOn, Alters}
use Rattle.spool_write.specs.Entering.{HasRows, Enters, EntersWhole, with_put, with_secrets_replaced, disabled_if_gone}
use Rattle.spool_write.specs.Entering.{may_put, may_accept, accepting, may_subscribe, subscribing, may_attempt}
use Rattle.spool_write.specs.Entering.{attempting}
use Rattle.relay_types.proofs.KnownLaws.{legal_more, illegal_if, illegal_front}
use Rattle.spool_write.proofs.RowLemmas.{accepting-found, accepting-unknown, answer-none, answer-some}
use Rattle.spool_write.proofs.LegalLemmas.{allowed_for-is, legal_once}
use Rattle.relay_types.proofs.GrowthLaws.{map-none}
use Rattle.relay_types.proofs.RowLaws.{rows_of-more, put_by_name-is}
use Rattle.spool_write.proofs.ChangeLemmas.{unknown_endpoint, known_endpoint, changed_by_number, tables_permuted}
use Rattle.spool_write.proofs.ChangeLemmas.{replaced_in_place}
use Rattle.spool_write.proofs.OutcomeLemmas.{attempted-none, attempted-some}

pub goes_then : (a b c : State) → GoesOn a b → GoesOn b c → GoesOn a c
goes_then a b c p q = record {
  was_open = p.was_open;
  is_open = q.is_open;
  now_is = refl;
  committed_is = q.committed_is
      ∙ p.committed_is;
  mode = q.mode;
}

pub goes_if_same : (a b : State) → IsTrue a.in_transaction → IsUnchanged a b → GoesOn a b
goes_if_same a b inside same = record {
  was_open = same.0.was_open;
  is_open = same.0.is_open;
  now_is =
      refl;
  committed_is = same.0.committed_is;
  mode = same.0.mode ∙ inside;
}

-- ---- one record

-- what the rows tell of each history that ends before this number
abbrev OfEach : State → ℕ → (List Record → Type 0) → Type 0
OfEach a next P = (count : ℕ) (records : List Record) → next ≡ length records → HasRows a.now count records → P records

-- it may not follow, and nothing is changed
enters_refused : (a b : State) (next : ℕ) (entry : Record) → IsTrue a.in_transaction → IsUnchanged a b
    → OfEach a next (λ records. false ≡ may_follow records entry) → Enters a b next (entry ∷ []) false
enters_refused a b next entry inside same follows = record {
  on = goes_if_same a b inside same;
  judges = λ count records at has. sym (illegal_if records entry (sym (follows count records at has)));
  makes = λ is. absurd (let no = is in cc);
}

-- tables of the changed rows are tables of the rows that the record leaves, beside the number of records
abbrev IsChangeOf : State → State → ℕ → Record → (Rows → Rows) → Type 0
IsChangeOf a c next entry change =
    (count : ℕ) (records : List Record) → next ≡ length records → HasRows a.now count records
    → IsTables c.now (change (with_records count (rows_of records)))
    → IsTables c.now (with_records count (put_record (rows_of records) entry))

enters_made : (a b c : State) (next : ℕ) (entry : Record) (change : Rows → Rows) → IsTrue a.in_transaction
    → IsUnchanged a b → OfEach a next (λ records. true ≡ may_follow records entry)
    → IsTrue (is_within_limits entry) → next < MAX_RECORDS → Alters b c change → IsChangeOf a c next entry change
    → Enters a c next (entry ∷ []) true
enters_made a b c next entry change inside same follows within room made is = record {
  on = goes_then a b c (goes_if_same a b inside same) made.on;
  judges = λ count records at has. sym (legal count records at has);
  makes = λ _ count records at has.
      let law = rows_of-more records has.legal entry (sym (follows count records at has)) in
      let now = made.makes (with_records count (rows_of records))
      (subst (λ d. IsTables d (with_records count (rows_of records))) (sym same.0.now_is) has.tables) in
      record {
        legal = legal count records at has;
        tables = subst (IsTables c.now) (ap (with_records count) (sym law))
            (is count records at has now);
      };
}
  where
    legal : (count : ℕ) (records : List Record) → next ≡ length records → HasRows a.now count records
        → is_legal (records ++ entry ∷ []) ≡ true
    legal count records at has = legal_more records entry has.legal (sym (follows count records at has)) within
        (omega (arith, at, room))

pub put_refused : (a b : State) (next : ℕ) (name target : List ℕ) (max : ℕ) (secrets : List (List ℕ))
    → IsTrue a.in_transaction → IsUnchanged a b
    → ((count : ℕ) (records : List Record) → HasRows a.now count records → false ≡ may_put records name)
    → Enters a b next (Put name target max secrets ∷ []) false
put_refused a b next name target max secrets inside same may = enters_refused a b next (Put name target max secrets)
    inside same (λ count records at has. may count records has)

pub put_made : (a b c : State) (next : ℕ) (name target : List ℕ) (max : ℕ) (secrets : List (List ℕ))
    → IsTrue a.in_transaction → IsUnchanged a b
    → ((count : ℕ) (records : List Record) → HasRows a.now count records → true ≡ may_put records name)
    → IsTrue (is_within_limits (Put name target max secrets)) → next < MAX_RECORDS
    → Alters b c (with_put next name target max secrets)
    → Enters a c next (Put name target max secrets ∷ []) true
put_made a b c next name target max secrets inside same may within room made =
    enters_made a b c next (Put name target max secrets) _ inside same (λ count records at has. may count records has)
    within room made
    (λ count records at has. subst
    (λ n. IsTables c.now (with_put n name target max secrets (with_records count (rows_of records)))) at)

pub accept_refused : (a b : State) (next : ℕ) (name id body : List ℕ) (at : ℕ) → IsTrue a.in_transaction
    → IsUnchanged a b
    → ((count : ℕ) (records : List Record) → HasRows a.now count records → None ≡ accepting records name id)
    → Enters a b next (Accept name id body at ∷ []) false
accept_refused a b next name id body at inside same found = enters_refused a b next (Accept name id body at) inside same
    (λ count records place has. answer-none (may_accept records name id) _ (found count records has))

pub accept_made : (a b c : State) (next : ℕ) (name id body : List ℕ) (at put : ℕ) → IsTrue a.in_transaction
    → IsUnchanged a b
    → ((count : ℕ) (records : List Record) → HasRows a.now count records → Some put ≡ accepting records name id)
    → IsTrue (is_within_limits (Accept name id body at)) → next < MAX_RECORDS
    → Alters b c (with_delivery (record { seq = next; endpoint = put; id = id; at = at; body = body }))
    → Enters a c next (Accept name id body at ∷ []) true
accept_made a b c next name id body at put inside same found within room made =
    enters_made a b c next (Accept name id body at) _ inside same
    (λ count records place has. (answer-some (may_accept records name id) _ put (found count records has)).0)
    within room made
    (λ count records place has.
    let known = (answer-some (may_accept records name id) _ put (found count records has)).1
    ∙ sym (put_by_name-is records name) in
    subst (IsTables c.now)
    (λ i. with_delivery (record { seq = place i; endpoint = known i; id = id; at = at; body = body })
    (with_records count (rows_of records))))

-- no endpoint has the name
pub accept_unnamed : (a b : State) (next : ℕ) (name id body : List ℕ) (at : ℕ) → IsTrue a.in_transaction
    → IsUnchanged a b → ((rows : Rows) → IsTables a.now rows → IsPutOf name rows None)
    → Enters a b next (Accept name id body at ∷ []) false
accept_unnamed a b next name id body at inside same none =
    accept_refused a b next name id body at inside same
    (λ count records has.
    let rows = with_records count (rows_of records) in
    accepting-unknown rows name id (none rows has.tables) ∙ allowed_for-is records name id has.legal)

-- an endpoint has it, and the INSERT answered whether the id is new
pub accept_answered : (a b c : State) (next : ℕ) (name id body : List ℕ) (at put : ℕ) (made : Bool)
    → IsTrue a.in_transaction → IsUnchanged a b
    → ((rows : Rows) → IsTables a.now rows → IsPutOf name rows (Some put))
    → IsTrue (is_within_limits (Accept name id body at)) → next < MAX_RECORDS
    → AddsUnlessKnown (record { seq = next; endpoint = put; id = id; at = at; body = body }) b c made
    → Enters a c next (Accept name id body at ∷ []) made
accept_answered a b c next name id body at put made inside same found within room adds = by made adds
  where
    flipped : (m known : Bool) → m ≡ not known → not m ≡ known
    flipped m true e = ap not e
    flipped m false e = ap not e

    judged : (m : Bool) → AddsUnlessKnown (record { seq = next; endpoint = put; id = id; at = at; body = body }) b c m
        → (count : ℕ) (records : List Record) → HasRows a.now count records
        → (if not m then None else Some put) ≡ accepting records name id
    judged m adds count records has =
        let rows = with_records count (rows_of records) in
        let there = subst (λ d. IsTables d rows) (sym same.0.now_is) has.tables in
        accepting-found rows name id put (not m) (legal_once records has.legal) (found rows has.tables)
        (flipped m _ (adds.judges rows there))
        ∙ allowed_for-is records name id has.legal

    by : (m : Bool) → AddsUnlessKnown (record { seq = next; endpoint = put; id = id; at = at; body = body }) b c m
        → Enters a c next (Accept name id body at ∷ []) m
    by true adds =
        accept_made a b c next name id body at put inside same (judged true adds) within room
        (record { on = adds.on; makes = adds.makes refl })
    by false adds =
        accept_refused a c next name id body at inside (unchanged_then a b c same (adds.leaves refl))
        (judged false adds)

pub secrets_refused : (a b : State) (next : ℕ) (name : List ℕ) (secrets : List (List ℕ)) → IsTrue a.in_transaction
    → IsUnchanged a b → ((rows : Rows) → IsTables a.now rows → IsPutOf name rows None)
    → Enters a b next (Secrets name secrets ∷ []) false
secrets_refused a b next name secrets inside same none =
    enters_refused a b next (Secrets name secrets) inside same
    (λ count records at has. unknown_endpoint records name (none (with_records count (rows_of records)) has.tables))

pub secrets_made : (a b c : State) (next : ℕ) (name : List ℕ) (secrets : List (List ℕ)) (put : ℕ)
    → IsTrue a.in_transaction → IsUnchanged a b → ((rows : Rows) → IsTables a.now rows → IsPutOf name rows (Some put))
    → IsTrue (is_within_limits (Secrets name secrets)) → next < MAX_RECORDS
    → Alters b c (with_secrets_replaced put next secrets) → Enters a c next (Secrets name secrets ∷ []) true
secrets_made a b c next name secrets put inside same found within room made =
    enters_made a b c next (Secrets name secrets) _ inside same (λ count records at has. (known count records has).0)
    within room made
    (λ count records at has t.
    let told = known count records has in
    let changed = ap (λ n. change_where (λ (e : EndpointRow). e.put == put)
    (λ (e : EndpointRow). record e { secrets_by = n }) (rows_of records).endpoints) at
    ∙ changed_by_number records name put (λ (e : EndpointRow). record e { secrets_by = length records }) has.legal
    told.0 told.1 in
    let moved = tables_permuted c.now _ _ (replaced_in_place put secrets (rows_of records).secrets) t in
    subst (λ rows. IsTables c.now rows) (λ i. record (with_records count (rows_of records)) {
      endpoints = changed i;
      secrets = replace_secrets ((told.1 ∙ sym (put_by_name-is records name)) i) secrets (rows_of records).secrets;
    }) moved)
  where
    known : (count : ℕ) (records : List Record) → HasRows a.now count records → (true ≡ has_endpoint records name)
        × (put ≡ put_of records name)
    known count records has = known_endpoint records name put has.legal
        (found (with_records count (rows_of records)) has.tables)

pub enabled_refused : (a b : State) (next : ℕ) (name : List ℕ) (flag : Bool) → IsTrue a.in_transaction → IsUnchanged a b
    → ((rows : Rows) → IsTables a.now rows → IsPutOf name rows None)
    → Enters a b next (Enabled name flag ∷ []) false
enabled_refused a b next name flag inside same none =
    enters_refused a b next (Enabled name flag) inside same
    (λ count records at has. unknown_endpoint records name (none (with_records count (rows_of records)) has.tables))

pub enabled_made : (a b c : State) (next : ℕ) (name : List ℕ) (flag : Bool) (put : ℕ) → IsTrue a.in_transaction
    → IsUnchanged a b → ((rows : Rows) → IsTables a.now rows → IsPutOf name rows (Some put))
    → IsTrue (is_within_limits (Enabled name flag)) → next < MAX_RECORDS → Alters b c (with_enabled put flag next)
    → Enters a c next (Enabled name flag ∷ []) true
enabled_made a b c next name flag put inside same found within room made =
    enters_made a b c next (Enabled name flag) _ inside same (λ count records at has. (known count records has).0)
    within room made
    (λ count records at has.
    let told = known count records has in
    subst (λ es. IsTables c.now (record (with_records count (rows_of records)) { endpoints = es }))
    (ap (λ n. change_where (λ (e : EndpointRow). e.put == put)
    (λ (e : EndpointRow). record e { enabled = flag; enabled_by = n }) (rows_of records).endpoints) at
    ∙ changed_by_number records name put (λ (e : EndpointRow). record e { enabled = flag; enabled_by = length records })
    has.legal told.0 told.1))
  where
    known : (count : ℕ) (records : List Record) → HasRows a.now count records → (true ≡ has_endpoint records name)
        × (put ≡ put_of records name)
    known count records has = known_endpoint records name put has.legal
        (found (with_records count (rows_of records)) has.tables)

pub subscribed_refused : (a b : State) (next : ℕ) (topic name : List ℕ) (flag : Bool) → IsTrue a.in_transaction
    → IsUnchanged a b
    → ((count : ℕ) (records : List Record) → HasRows a.now count records → None ≡ subscribing records topic name)
    → Enters a b next (Subscribed topic name flag ∷ []) false
subscribed_refused a b next topic name flag inside same found =
    enters_refused a b next (Subscribed topic name flag) inside same
    (λ count records place has. answer-none (may_subscribe records topic name) _ (found count records has))

pub subscribed_made : (a b c : State) (next : ℕ) (topic name : List ℕ) (flag : Bool) (put : ℕ)
    → IsTrue a.in_transaction → IsUnchanged a b
    → ((count : ℕ) (records : List Record) → HasRows a.now count records → Some put ≡ subscribing records topic name)
    → IsTrue (is_within_limits (Subscribed topic name flag)) → next < MAX_RECORDS
    → Alters b c (λ rows.
    with_topic (record { topic = topic; endpoint = put; subscribed = flag; set_by = next })
    (without_topic topic put rows))
    → Enters a c next (Subscribed topic name flag ∷ []) true
subscribed_made a b c next topic name flag put inside same found within room made =
    enters_made a b c next (Subscribed topic name flag) _ inside same
    (λ count records place has. (told count records has).0) within room made
    (λ count records place has.
    let known = (told count records has).1 ∙ sym (put_by_name-is records name) in
    subst (IsTables c.now) (λ i.
    with_topic (record { topic = topic; endpoint = known i; subscribed = flag; set_by = place i })
    (without_topic topic (known i) (with_records count (rows_of records)))))
  where
    told : (count : ℕ) (records : List Record) → HasRows a.now count records
        → (true ≡ may_subscribe records topic name) × (put ≡ put_of records name)
    told count records has = answer-some (may_subscribe records topic name) _ put (found count records has)

pub outcome_refused : (a b : State) (next delivery attempt status at : ℕ) → IsTrue a.in_transaction → IsUnchanged a b
    → ((count : ℕ) (records : List Record) → HasRows a.now count records
    → None ≡ attempting records (min delivery next) attempt status)
    → Enters a b next (Outcome delivery attempt status at ∷ []) false
outcome_refused a b next delivery attempt status at inside same found =
    enters_refused a b next (Outcome delivery attempt status at) inside same
    (λ count records place has. attempted-none records next delivery attempt status place (found count records has))

pub outcome_made : (a b c : State) (next delivery attempt status at put : ℕ) → IsTrue a.in_transaction → IsUnchanged a b
    → ((count : ℕ) (records : List Record) → HasRows a.now count records
    → Some put ≡ attempting records (min delivery next) attempt status)
    → IsTrue (is_moment at) → next < MAX_RECORDS
    → Alters b c (λ rows. disabled_if_gone put status next
    (with_attempt (record { seq = next; delivery = min delivery next; number = attempt; status = status; at = at })
    rows))
    → Enters a c next (Outcome delivery attempt status at ∷ []) true
outcome_made a b c next delivery attempt status at put inside same found within room made =
    enters_made a b c next (Outcome delivery attempt status at) _ inside same
    (λ count records place has. (told count records place has).1.0) within room made
    (λ count records place has t.
    let known = told count records place has in
    subst (IsTables c.now)
    ((λ i. disabled_if_gone (known.1.1 i) status (place i)
    (with_attempt (record { seq = place i; delivery = known.0 i; number = attempt; status = status; at = at })
    (with_records count (rows_of records))))
    ∙ by count (rows_of records) (put_by_delivery (rows_of records) delivery) (length records) (is_gone_status status))
    t)
  where
    told : (count : ℕ) (records : List Record) → next ≡ length records → HasRows a.now count records
        → (min delivery next ≡ delivery)
        × ((true ≡ may_attempt records delivery attempt status)
        × (put ≡ put_by_delivery (rows_of records) delivery))
    told count records place has = attempted-some records next delivery attempt status put place
        (found count records has)

    attempted : Rows → ℕ → Rows
    attempted rows n = with_attempt
        (record { seq = n; delivery = delivery; number = attempt; status = status; at = at }) rows

    by : (count : ℕ) (rows : Rows) (p n : ℕ) (gone : Bool)
        → (if gone then with_enabled p false n (attempted (with_records count rows) n) else attempted
        (with_records count rows) n)
        ≡ record (attempted (with_records count rows) n) {
          endpoints = change_where (λ (e : EndpointRow). gone
              && (e.put == p)) (λ (e : EndpointRow). record e { enabled = false; enabled_by = n }) rows.endpoints;
        }
    by count rows p n true = refl
    by count rows p n false = λ i. record (attempted (with_records count rows) n)
        { endpoints = sym (map-none rows.endpoints) i }

-- ---- one record after another

behind : (next : ℕ) (records some : List Record) (place : ℕ) → place ≡ next + length some → next ≡ length records
    → place ≡ length (records ++ some)
behind next records some place is at = omega (arith, is, at, length-append records some)

pub enters_then : (a b c : State) (next place : ℕ) (some more : List Record) (legal : Bool) → place ≡ next + length some
    → Enters a b next some true → Enters b c place more legal → Enters a c next (some ++ more) legal
enters_then a b c next place some more legal is p q = record {
  on = goes_then a b c p.on q.on;
  judges = λ count records at has. q.judges count (records ++ some) (behind next records some place is at)
      (p.makes refl count records at has) ∙ ap is_legal (append_assoc records some more);
  makes = λ yes count records at has. subst (HasRows c.now count) (append_assoc records some more)
      (q.makes yes count (records ++ some) (behind next records some place is at) (p.makes refl count records at has));
}

begins_with : (db : Database) (records : List Record) → IsTables db (rows_of records)
    → IsTables db (with_records (length records) (rows_of records))
begins_with db records t = t

-- one of them may not follow, so that all can't
pub enters_stopped : (a b : State) (next : ℕ) (some more : List Record) → Enters a b next some false
    → EntersWhole a b next (some ++ more) false
enters_stopped a b next some more p = record {
  on = p.on;
  judges = λ records legal at t.
      sym (sym (ap is_legal (append_assoc records some more))
      ∙ illegal_front (records ++ some) more
      (sym (p.judges (length records) records at
      (record { legal = legal; tables = begins_with a.now records t }))));
  makes = λ is. absurd (let no = is in cc);
}

-- all are written, and their number
pub enters_whole : (a b c : State) (next place : ℕ) (entries : List Record) → place ≡ next + length entries
    → Enters a b next entries true → Alters b c (with_records place) → EntersWhole a c next entries true
enters_whole a b c next place entries is p made = record {
  on = goes_then a b c p.on made.on;
  judges = λ records legal at t. p.judges (length records) records
      at (record { legal = legal; tables = begins_with a.now records t });
  makes = λ _ records legal at t.
      let has = p.makes refl (length records) records
      at (record { legal = legal; tables = begins_with a.now records t }) in
      subst (λ n. IsTables c.now (with_records n (rows_of (records ++ entries))))
      (behind next records entries place is at)
      (made.makes (with_records (length records) (rows_of (records ++ entries))) has.tables);
}

-- one of the first may not follow, so that all can't
pub enters_cut : (a b : State) (next : ℕ) (some more : List Record) → Enters a b next some false
    → Enters a b next (some ++ more) false
enters_cut a b next some more p = record {
  on = p.on;
  judges = λ count records at has.
      sym (sym (ap is_legal (append_assoc records some more)) ∙ illegal_front (records ++ some) more
      (sym (p.judges count records at has)));
  makes = λ is. absurd (let no = is in cc);
}

-- ---- the records of a list, and of steps

pub take_more : (k : ℕ) (entries : List Record) (entry : Record) → k < length entries → entry ≡ get_or entries k entry
    → take (k + 1) entries ≡ take k entries ++ entry ∷ []
take_more k entries entry below is = ap (λ n. take n entries) (add-one k) ∙ at k entries below is
  where
    at : (k : ℕ) (entries : List Record) → k < length entries → entry ≡ get_or entries k entry
        → take (suc k) entries ≡ take k entries ++ entry ∷ []
    at k [] below is = absurd (omega (arith, below))
    at zero (e ∷ rest) below is = ap (λ x. x ∷ []) (sym is)
    at (suc k) (e ∷ rest) below is = ap (λ xs. e ∷ xs) (at k rest (omega (arith, below)) is)

pub split_at : (k : ℕ) (entries : List Record) (entry : Record) → k < length entries → entry ≡ get_or entries k entry
    → (rest : List Record) × (entries ≡ take k entries ++ entry ∷ rest)
split_at k [] entry below is = absurd (omega (arith, below))
split_at zero (e ∷ rest) entry below is = (rest, ap (λ x. x ∷ rest) (sym is))
split_at (suc k) (e ∷ rest) entry below is = let more = split_at k rest entry (omega (arith, below)) is in
    (more.0, ap (λ xs. e ∷ xs) more.1)

-- a step has a record
pub step_some : (step : List Record) → IsStep step → 0 < length step
step_some step (inl one) = omega (arith, one)
step_some step (inr event) = omega
    (arith, ap length event.are, length-map event.names (λ name. Accept name event.id event.body event.at), event.some)

pub records_more : (k : ℕ) (steps : History) (step : List Record) → slice_get steps k ≡ Some step
    → records_of (take (k + 1) steps) ≡ records_of (take k steps) ++ step
records_more k steps step is = ap (λ n. records_of (take n steps)) (add-one k) ∙ at k steps is
  where
    same : {X : Type 0} {x y : X} → Some x ≡ Some y → x ≡ y
    same e = cc

    at : (k : ℕ) (steps : History) → slice_get steps k ≡ Some step → records_of (take (suc k) steps) ≡ records_of
        (take k steps) ++ step
    at k [] is = absurd (let e = is in cc)
    at zero (s ∷ rest) is = append-nil s ∙ same is
    at (suc k) (s ∷ rest) is = ap (λ r. s ++ r) (at k rest is) ∙ sym (append_assoc s (records_of (take k rest)) step)

pub records_split : (k : ℕ) (steps : History) (step : List Record) → slice_get steps k ≡ Some step
    → (rest : List Record) × (records_of steps ≡ records_of (take k steps) ++ (step ++ rest))
records_split k [] step is = absurd (let e = is in cc)
records_split zero (s ∷ rest) step is = (records_of rest, ap (λ x. x ++ records_of rest) (same is))
  where
    same : {X : Type 0} {x y : X} → Some x ≡ Some y → x ≡ y
    same e = cc
records_split (suc k) (s ∷ rest) step is =
    let more = records_split k rest step is in
    (more.0, ap (λ r. s ++ r) more.1 ∙ sym (append_assoc s (records_of (take k rest)) (step ++ more.0)))

pub step_room : (k next : ℕ) (steps : History) (step : List Record) → slice_get steps k ≡ Some step
    → next + length (records_of steps) ≤ MAX_RECORDS → next + length (records_of (take k steps)) + length step
    ≤ MAX_RECORDS
step_room k next steps step is room =
    let split = records_split k steps step is in
    omega (
      arith,
      room,
      ap length split.1,
      length-append (records_of (take k steps)) (step ++ split.0),
      length-append
          step split.0,
    )

-- the step at this place, as a loop has it
pub got_step : (k : ℕ) (steps : History) (step : List Record) → k < length steps → step ≡ get_or steps k step
    → slice_get steps k ≡ Some step
got_step k [] step below is = absurd (omega (arith, below))
got_step zero (s ∷ rest) step below is = ap Some (sym is)
got_step (suc k) (s ∷ rest) step below is = got_step k rest step (omega (arith, below)) is
