-- The topics that a load reads.
use Rattle.std.proofs.Common.{◌≡◌, ℕ, ◌+◌, Bool, true, false, ◌&&◌, List, [], ◌∷◌, ◌++◌, Option, Some, None, map}
use Rattle.std.proofs.Common.{length, inl, inr, refl, sym, ap, subst, ◌∙◌, arith, length-append, lt-ltb}
use Rattle.std.specs.Prelude.{◌==◌, ◌||◌, bytes_eq, find, is_some, option_map, if◌then◌else◌}
use Rattle.std.specs.List.{list_any}
use Rattle.std.specs.Option.{option_or}
use Rattle.std.proofs.lemmas.List.{length-map}
use Rattle.std.proofs.lemmas.List.Folds.{find-append}
use Rattle.relay_types.specs.declared.limits.TheConstants.{MAX_RECORDS, MAX_SUBSCRIPTIONS}
use Rattle.relay_types.specs.declared.record.Record.{Record}
use Rattle.relay_types.specs.declared.record.Record.TheVariants.{Put, Secrets, Enabled, Accept, Outcome, Subscribed}
use Rattle.relay_types.specs.declared.record.Record.TheVariants.{Purge}
use Rattle.relay_types.specs.Endpoints.{has_endpoint}
use Rattle.relay_types.specs.Legal.{IsLegal}
use Rattle.relay_types.specs.Rows.{EndpointRow, TopicRow, put_of, rows_of, topic_row}
use Rattle.relay_types.specs.Subscriptions.{Subscription, subscription_by, subscriptions}
use Rattle.relay_types.specs.Values.{Text}
use Rattle.relay_types.specs.Sound.{AreKeyed, is_put_at}
use Rattle.relay_types.proofs.ConditionLaws.{few_topics}
use Rattle.relay_types.proofs.KeyLaws.{legal_sound}
use Rattle.relay_types.proofs.KnownLaws.{legal_known}
use Rattle.relay_types.proofs.SubscriptionLaws.{each_once, is_for, last_told, same_texts, subscriptions_are}
use Rattle.relay_types.proofs.TableLaws.{In, in_all, in_any, in_map, in_none, map_in, none_found}
use Rattle.relay_types.proofs.TopicLaws.{AllThere, all_there}
use Rattle.endpoint_book.specs.Entries.{BookValue, with_restored_topic}
use Rattle.endpoint_book.specs.Topics.{TopicsValue, flag_of, has_place, last_flag, with_pair}
use Rattle.endpoint_book.proofs.Pairs.{count-put, flag-put}
use Rattle.spool_sql.specs.Reading.{IsRising}
use Rattle.spool_load.specs.Loading.{AreNames, AreRestored, AreSubscribed, HaveFlags, HaveTopics, IsNameOf, Subscribes}
use Rattle.spool_load.specs.Loading.{NextToSubscribe, is_topic_of, named_put_of, name_put}
use Rattle.spool_load.specs.declared.endpoints.Endpoints.{Endpoints}
use Rattle.spool_load.specs.declared.endpoints.NamedPut.{NamedPut}
use Rattle.spool_sql.proofs.PageLaws.{below_next, rising_higher, rising_map, rows_rise, legal_length}
use Rattle.spool_load.proofs.QuietReads.{IsReadTo, read_none}
use Rattle.spool_load.proofs.EndpointLoads.{in_front, in_middle, restored_within}
use Rattle.spool_load.proofs.DeliveryLoads.{named}
use Rattle.spool_load.proofs.AttemptLoads.{name_back}

-- one more row, of a topic and an endpoint that have none yet
flags_more : (topics : TopicsValue) (endpoints : List EndpointRow) (before : List TopicRow) (row : TopicRow)
    → find (is_topic_of endpoints row.topic (name_put endpoints row.endpoint)) before ≡ None
    → HaveFlags topics endpoints before
    → HaveFlags (with_pair topics row.topic (name_put endpoints row.endpoint) row.subscribed) endpoints
    (before ++ row ∷ [])
flags_more topics endpoints before row new h = record {
  flags = λ topic name.
      flag-put topics row.topic own row.subscribed topic name
      ∙ by topic name (is_topic_of endpoints topic name row) refl
      ∙ ap (option_map (λ (t : TopicRow). t.subscribed))
      (sym (find-append (is_topic_of endpoints topic name) before (row ∷ [])));
  count = omega (
    arith,
    count-put topics row.topic own row.subscribed
        (h.flags row.topic own ∙ ap (option_map (λ (t : TopicRow). t.subscribed)) new),
    h.count,
    length-append before (row ∷ []),
  );
}
  where
    own : Text
    own = name_put endpoints row.endpoint

    by : (topic name : Text) (b : Bool) → is_topic_of endpoints topic name row ≡ b
        → (if b then Some row.subscribed else flag_of topics topic name)
        ≡ option_map (λ (t : TopicRow). t.subscribed)
        (option_or (find (is_topic_of endpoints topic name) before) (if b then Some row else None))
    by topic name true is =
        let same = same_texts row.topic topic own name is in
        ap (λ o. option_map (λ (t : TopicRow). t.subscribed) (option_or o (Some row)))
        (sym new ∙ (λ i. find (is_topic_of endpoints (same.0 i) (same.1 i)) before))
    by topic name false is =
        h.flags topic name
        ∙ ap (option_map (λ (t : TopicRow). t.subscribed)) (or_none (find (is_topic_of endpoints topic name) before))
      where
        or_none : (o : Option TopicRow) → o ≡ option_or o None
        or_none None = refl
        or_none (Some t) = refl

module _ (records : List Record) where
  abbrev endpoints : List EndpointRow
  endpoints = (rows_of records).endpoints

  pub topics_rise : IsRising (λ (t : TopicRow). t.set_by) 0 (length records) (rows_of records).topics
  topics_rise = rising_map (topic_row records) (λ (t : TopicRow). t.set_by) 0 (length records) (subscriptions records)
      (subst (λ m. IsRising (λ (s : Subscription). s.set_by) 0 m (subscriptions records)) whole
      (rows_rise (subscription_by records) (λ (s : Subscription). s.set_by) at_seq 0 records))
    where
      whole : 0 + length records ≡ length records
      whole = omega arith

      some_is : {x y : Subscription} → Some x ≡ Some y → x ≡ y
      some_is e = cc

      own : (k : ℕ) (b : Bool) (s t : Subscription) → s.set_by ≡ k → (if b then None else Some s) ≡ Some t
          → t.set_by ≡ k
      own k true s t at is = absurd (let no = is in cc)
      own k false s t at is = ap (λ (x : Subscription). x.set_by) (sym (some_is is)) ∙ at

      at_seq : (k : ℕ) (r : Record) (s : Subscription) → subscription_by records (k, r) ≡ Some s → s.set_by ≡ k
      at_seq k (Subscribed topic name flag) s is = own k _ _ s refl is
      at_seq k (Put name target max secrets) s is = absurd (let no = is in cc)
      at_seq k (Secrets name secrets) s is = absurd (let no = is in cc)
      at_seq k (Enabled name flag) s is = absurd (let no = is in cc)
      at_seq k (Accept name id body at) s is = absurd (let no = is in cc)
      at_seq k (Outcome delivery attempt status at) s is = absurd (let no = is in cc)
      at_seq k (Purge moment) s is = absurd (let no = is in cc)

  -- the endpoint of a subscription has its name
  name_told : (ss : List Subscription) (s : Subscription) → AllThere records ss → In s ss
      → name_put endpoints (put_of records s.name) ≡ s.name
  name_told [] s all i = absurd i
  name_told (t ∷ ss) s all (inl same) =
      name_back records s.name (ap (λ (x : Subscription). has_endpoint records x.name) (sym same) ∙ all.0)
  name_told (t ∷ ss) s all (inr i) = name_told ss s all.1 i

  -- two rows of one topic and endpoint are one
  same_row : IsLegal records → (t row : TopicRow) → In t (rows_of records).topics → In row (rows_of records).topics
      → is_topic_of endpoints row.topic (name_put endpoints row.endpoint) t ≡ true → t ≡ row
  same_row legal t row i j same =
      let all = all_there records (legal_known records legal) in
      let one = in_map (topic_row records) (subscriptions records) t i in
      let other = in_map (topic_row records) (subscriptions records) row j in
      let texts = same_texts t.topic row.topic (name_put endpoints t.endpoint) (name_put endpoints row.endpoint) same in
      sym one.2
      ∙ ap (topic_row records) (each_once records one.0 other.0 one.1 other.1
      (ap (λ (x : TopicRow). x.topic) one.2 ∙ texts.0 ∙ ap (λ (x : TopicRow). x.topic) (sym other.2))
      (sym (name_told (subscriptions records) one.0 all one.1)
      ∙ ap (λ (x : TopicRow). name_put endpoints x.endpoint) one.2 ∙ texts.1
      ∙ ap (λ (x : TopicRow). name_put endpoints x.endpoint) (sym other.2)
      ∙ name_told (subscriptions records) other.0 all other.1))
      ∙ other.2

  -- so the rows before have none of the topic and the endpoint of the next one
  none_yet : (before after : List TopicRow) (row : TopicRow) → IsLegal records
      → (rows_of records).topics ≡ before ++ (row ∷ after)
      → find (is_topic_of endpoints row.topic (name_put endpoints row.endpoint)) before ≡ None
  none_yet before after row legal parted = none_found asks before (λ t i. by t i (asks t) refl)
    where
      asks : TopicRow → Bool
      asks = is_topic_of endpoints row.topic (name_put endpoints row.endpoint)

      by : (t : TopicRow) → In t before → (b : Bool) → asks t ≡ b → b ≡ false
      by t i false is = refl
      by t i true is = absurd (
          let less = below_next (λ (x : TopicRow). x.set_by) 0 (length records) before after row t
          (subst (IsRising (λ (x : TopicRow). x.set_by) 0 (length records)) parted topics_rise) i in
          let one = same_row legal t row (subst (In t) (sym parted) (in_front before (row ∷ after) t i))
          (subst (In row) (sym parted) (in_middle before after row)) is in
          omega (arith, less, ap (λ (x : TopicRow). x.set_by) one))

  -- one more row
  pub topics_more : IsLegal records → (row : TopicRow) (name : Text) (old new : Endpoints)
      → AreNames old.names.items records → IsNameOf old.names.items row.endpoint name
      → new.book ≡ with_restored_topic old.book row.topic name row.subscribed → new.names ≡ old.names
      → Subscribes old new (row ∷ []) records
  topics_more legal row name old new are is book names before after parted h = record {
    entries = ap (λ (b : BookValue). b.entries) book ∙ h.entries;
    changes = ap (λ (b : BookValue). b.changes) book ∙ h.changes;
    topics = subst (λ topics. HaveFlags topics endpoints (before ++ row ∷ []))
        (sym (ap (λ (b : BookValue). b.topics) book
        ∙ ap (λ n. with_pair old.book.topics row.topic n row.subscribed)
        (sym (named records old.names.items row.endpoint name are is))))
        (flags_more old.book.topics endpoints before row (none_yet before after row legal parted) h.topics);
    next_seq = omega (arith, ap (λ (b : BookValue). b.next_seq) book, h.next_seq);
    settled_seq = omega (arith, ap (λ (b : BookValue). b.settled_seq) book, h.settled_seq);
    names = ap (λ ks. ks.items) names ∙ h.names;
  }

  -- no topic is read yet
  pub topics_none : (loaded : Endpoints) → IsLegal records → AreRestored loaded records endpoints
      → IsReadTo (λ (t : TopicRow). t.set_by) (rows_of records).topics (HaveTopics loaded records) 0
  topics_none loaded legal h =
      read_none (λ (t : TopicRow). t.set_by) (rows_of records).topics (HaveTopics loaded records)
      (rising_higher (λ (t : TopicRow). t.set_by) 0 (length records) MAX_RECORDS (rows_of records).topics
      (legal_length records legal) topics_rise) (record {
        entries = h.entries;
        changes = h.changes;
        topics = record {
          flags = λ topic name. ap (λ ts. flag_of ts topic name) h.topics;
          count = ap length h.topics;
        };
        next_seq = restored_within records loaded h;
        settled_seq = h.settled_seq;
        names = h.names;
      })

  -- the row of a topic and an endpoint is that of their subscription
  back : (topic name : Text) (ss : List Subscription) → AllThere records ss
      → find (is_topic_of endpoints topic name) (map (topic_row records) ss)
      ≡ option_map (topic_row records) (find (is_for topic name) ss)
  back topic name [] there = refl
  back topic name (s ∷ ss) there =
      ap (λ n. if bytes_eq s.topic topic && bytes_eq n name then Some (topic_row records s)
      else find (is_topic_of endpoints topic name) (map (topic_row records) ss))
      (name_back records s.name there.0)
      ∙ at (back topic name ss there.1) (is_for topic name s)
    where
      at : find (is_topic_of endpoints topic name) (map (topic_row records) ss)
          ≡ option_map (topic_row records) (find (is_for topic name) ss)
          → (b : Bool) → (if b then Some (topic_row records s)
          else find (is_topic_of endpoints topic name) (map (topic_row records) ss))
          ≡ option_map (topic_row records) (if b then Some s else find (is_for topic name) ss)
      at rest true = refl
      at rest false = rest

  told : (topic name : Text) → IsLegal records
      → option_map (λ (t : TopicRow). t.subscribed) (find (is_topic_of endpoints topic name) (rows_of records).topics)
      ≡ last_flag records topic name
  told topic name legal =
      ap (option_map (λ (t : TopicRow). t.subscribed))
      (back topic name (subscriptions records) (all_there records (legal_known records legal)))
      ∙ flag (find (is_for topic name) (subscriptions records))
      ∙ ap (λ ss. option_map (λ (s : Subscription). s.flag) (find (is_for topic name) ss)) (subscriptions_are records)
      ∙ sym (last_told 0 records topic name)
    where
      flag : (o : Option Subscription)
          → option_map (λ (t : TopicRow). t.subscribed) (option_map (topic_row records) o)
          ≡ option_map (λ (s : Subscription). s.flag) o
      flag None = refl
      flag (Some s) = refl

  -- all are read
  pub topics_all : (loaded : Endpoints) → IsLegal records → HaveTopics loaded records (rows_of records).topics
      → AreSubscribed loaded records
  topics_all loaded legal h = record {
    entries = h.entries;
    changes = h.changes;
    topics = record {
      flags = λ topic name. h.topics.flags topic name ∙ told topic name legal;
      count = h.topics.count ∙ length-map (subscriptions records) (topic_row records);
    };
    next_seq = h.next_seq;
    settled_seq = h.settled_seq;
    names = h.names;
  }

-- Why a row of a legal history is taken in

or_true : (a b : Bool) → b ≡ true → a || b ≡ true
or_true true b h = refl
or_true false b h = h

module _ (records : List Record) (legal : IsLegal records) where
  keyed : AreKeyed (rows_of records)
  keyed = (legal_sound records legal).1

  -- there is a place for the topic of the next row
  pub place_next : (loaded : Endpoints) (row : TopicRow) (name : Text)
      → NextToSubscribe loaded (row ∷ []) records → has_place loaded.book.topics row.topic name ≡ true
  place_next loaded row name (before, after, parted, h) =
      or_true (is_some (flag_of loaded.book.topics row.topic name)) _
      (lt-ltb (length loaded.book.topics) MAX_SUBSCRIPTIONS (omega (
        arith,
        h.topics.count,
        ap length parted,
        length-append before (row ∷ after),
        few_topics (rows_of records) keyed (legal_sound records legal).0,
      )))

  pub next_topic : (loaded : Endpoints) (row : TopicRow) → NextToSubscribe loaded (row ∷ []) records
      → In row (rows_of records).topics
  next_topic loaded row (before, after, parted, h) = subst (In row) (sym parted) (in_middle before after row)

  pub no_topic_missing : (names : List NamedPut) (row : TopicRow) → AreNames names records
      → In row (rows_of records).topics
      → list_any (λ (known : NamedPut). known.put == row.endpoint) names ≡ false → ⊥
  no_topic_missing names row are i none =
      let found = in_any (λ (e : EndpointRow). e.put == row.endpoint) (rows_of records).endpoints
      (in_all (λ (t : TopicRow). is_put_at (rows_of records) t.endpoint)
      (rows_of records).topics row keyed.subscribed i) in
      let no = in_none (λ (known : NamedPut). known.put == row.endpoint) names (named_put_of found.0) none
      (subst (In (named_put_of found.0)) (sym are) (map_in named_put_of (rows_of records).endpoints found.0 found.1)) in
      let yes = found.2 in cc
