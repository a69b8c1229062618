-- Topics with one more flag, and what one more record says of them.
use Rattle.std.proofs.Common.{◌≡◌, ℕ, ◌+◌, Bool, true, false, ◌&&◌, ◌||◌, List, [], ◌∷◌, ◌++◌, Option, Some, None}
use Rattle.std.proofs.Common.{length, refl, sym, ap, cond, ◌∙◌, arith, append-nil, length-append}
use Rattle.std.specs.Prelude.{is_some, bytes_eq, filter, filter_map, unwrap_or, if◌then◌else◌}
use Rattle.std.specs.List.{cons_option}
use Rattle.std.specs.Option.{option_or}
use Rattle.std.specs.BTreeMap.{insert_entry, is_at}
use Rattle.std.specs.Map.{lookup}
use Rattle.std.specs.Cmp.{first_so, second_so}
use Rattle.std.specs.Cmp.Lexicographic.{bytes_decides, nat_list_eq_equiv, slice_cmp}
use Rattle.std.specs.declared.cmp.Ordering.{Ordering}
use Rattle.std.specs.declared.cmp.Ordering.TheVariants.{Less, Equal, Greater}
use Rattle.std.specs.Ordering.{is_eq, match_ordering, nat_cmp, ordering_then}
use Rattle.std.proofs.lemmas.List.Elements.{filter_map-append}
use Rattle.std.proofs.lemmas.Map.Text.{is_eq-slice_cmp}
use Rattle.relay_types.specs.declared.record.Record.{Record}
use Rattle.relay_types.specs.declared.record.Record.TheVariants.{Put, Secrets, Enabled, Accept, Outcome, Purge}
use Rattle.relay_types.specs.declared.record.Record.TheVariants.{Subscribed}
use Rattle.relay_types.specs.Lists.{last_of}
use Rattle.relay_types.specs.Subscriptions.{Subscription, is_pair_named, is_subscribed, subscribed_by, subscriptions}
use Rattle.relay_types.proofs.FilterLaws.{filter_all}
use Rattle.relay_types.proofs.SubscriptionLaws.{fewer_before, fewer_kept, grows, is_kept, named_keeps, named_last, own}
use Rattle.relay_types.proofs.SubscriptionLaws.{subscriptions-snoc}
use Rattle.endpoint_book.specs.declared.key.PairKey.{PairKey}
use Rattle.endpoint_book.specs.Book.{is_other, sets_flag}
use Rattle.endpoint_book.specs.Topics.{TellsTopics, TopicsValue, flag_of, is_on, last_flag, pair_cmp, with_pair}

-- Keys

ties : (a b : Ordering) → is_eq (ordering_then a b) ≡ is_eq a && is_eq b
ties Less b = refl
ties Equal b = refl
ties Greater b = refl

-- keys tie exactly where their characters are the same
same_at : (k q : PairKey) → is_at (pair_cmp k) q ≡ bytes_eq k.topic q.topic && bytes_eq k.name q.name
same_at k q = ties (slice_cmp nat_cmp k.topic q.topic) (slice_cmp nat_cmp k.name q.name)
    ∙ (λ i. is_eq-slice_cmp k.topic q.topic i && is_eq-slice_cmp k.name q.name i)

same_key : (k q : PairKey) → is_at (pair_cmp k) q ≡ true → k ≡ q
same_key k q h =
    let both : (bytes_eq k.topic q.topic && bytes_eq k.name q.name) ≡ true = sym (same_at k q) ∙ h in
    λ i. record {
      topic = (bytes_decides k.topic q.topic).0 (first_so (bytes_eq k.topic q.topic) (bytes_eq k.name q.name) both) i;
      name = (bytes_decides k.name q.name).0 (second_so (bytes_eq k.topic q.topic) (bytes_eq k.name q.name) both) i;
    }

own_key : (k : PairKey) → is_at (pair_cmp k) k ≡ true
own_key k = same_at k k ∙ (λ i. (bytes_decides k.topic k.topic).1 refl i && (bytes_decides k.name k.name).1 refl i)

turned : (k q : PairKey) → is_at (pair_cmp q) k ≡ bytes_eq k.topic q.topic && bytes_eq k.name q.name
turned k q = same_at q k ∙ (λ i. nat_list_eq_equiv.symm q.topic k.topic i && nat_list_eq_equiv.symm q.name k.name i)

-- One more flag

module _ (k q : PairKey) (flag : Bool) where
  abbrev asks : PairKey → Bool
  asks = is_at (pair_cmp q)

  twice : (b old : Bool) (o : Option Bool) → cond b (Some flag) o ≡ cond b (Some flag) (cond b (Some old) o)
  twice true old o = refl
  twice false old o = refl

  swap : (a b old : Bool) (o : Option Bool) → a && b ≡ false → cond b (Some old) (cond a (Some flag) o) ≡ cond a
      (Some flag) (cond b (Some old) o)
  swap true true old o apart = absurd (let no = apart in cc)
  swap true false old o apart = refl
  swap false b old o apart = refl

  apart : (x : PairKey) → pair_cmp k x ≡ Greater → (a b : Bool) → asks k ≡ a → asks x ≡ b → a && b ≡ false
  apart x is true true one other = absurd
      (let no = sym (own_key k) ∙ ap (is_at (pair_cmp k)) (sym (same_key q k one) ∙ same_key q x other)
      ∙ ap is_eq is in let clash : true ≡ false = no in cc)
  apart x is true false one other = refl
  apart x is false b one other = refl

  found-put : (ts : TopicsValue) → lookup asks (insert_entry pair_cmp ts k flag) ≡ cond (asks k) (Some flag)
      (lookup asks ts)
  found-put [] = refl
  found-put (e ∷ es) = at (pair_cmp k e.0) refl (found-put es)
    where
      at : (o : Ordering) → pair_cmp k e.0 ≡ o → lookup asks (insert_entry pair_cmp es k flag) ≡ cond (asks k)
          (Some flag) (lookup asks es)
          → lookup asks (match_ordering o ((k, flag) ∷ e ∷ es) ((e.0, flag) ∷ es) (e ∷ insert_entry pair_cmp es k flag))
          ≡ cond (asks k) (Some flag) (cond (asks e.0) (Some e.1) (lookup asks es))
      at Less is more = refl
      at Equal is more =
          twice (asks e.0) e.1 (lookup asks es)
          ∙ ap (λ b. cond b (Some flag) (cond (asks e.0) (Some e.1) (lookup asks es)))
          (ap asks (sym (same_key k e.0 (ap is_eq is))))
      at Greater is more =
          ap (cond (asks e.0) (Some e.1)) more
          ∙ swap (asks k) (asks e.0) e.1 (lookup asks es) (apart e.0 is (asks k) (asks e.0) refl refl)

-- what a look-up finds with one more flag
pub flag-put : (ts : TopicsValue) (topic name : List ℕ) (flag : Bool) (other asked : List ℕ)
    → flag_of (with_pair ts topic name flag) other asked
    ≡ (if bytes_eq topic other && bytes_eq name asked then Some flag else flag_of ts other asked)
flag-put ts topic name flag other asked =
    let k : PairKey = record { topic = topic; name = name } in
    let q : PairKey = record { topic = other; name = asked } in
    found-put k q flag ts ∙ ap (λ b. cond b (Some flag) (flag_of ts other asked)) (turned k q)

count_new : (k : PairKey) (flag : Bool) (ts : TopicsValue) → lookup (is_at (pair_cmp k)) ts ≡ None
    → length (insert_entry pair_cmp ts k flag) ≡ length ts + 1
count_new k flag [] none = refl
count_new k flag (e ∷ es) none = at (pair_cmp k e.0) none (count_new k flag es)
  where
    at : (o : Ordering) → cond (is_eq o) (Some e.1) (lookup (is_at (pair_cmp k)) es) ≡ None
        → (lookup (is_at (pair_cmp k)) es ≡ None → length (insert_entry pair_cmp es k flag) ≡ length es + 1)
        → length (match_ordering o ((k, flag) ∷ e ∷ es) ((e.0, flag) ∷ es) (e ∷ insert_entry pair_cmp es k flag))
        ≡ length (e ∷ es) + 1
    at Less h more = omega arith
    at Equal h more = absurd (let no = h in cc)
    at Greater h more = let one = more h in omega (arith, one)

-- a pair that wasn't there makes them one more
pub count-put : (ts : TopicsValue) (topic name : List ℕ) (flag : Bool) → flag_of ts topic name ≡ None
    → length (with_pair ts topic name flag) ≡ length ts + 1
count-put ts topic name flag none = count_new (record { topic = topic; name = name }) flag ts none

-- One more record

last-more : (flags : List Bool) (o : Option Bool) → last_of (flags ++ cons_option o []) ≡ option_or o (last_of flags)
last-more [] None = refl
last-more [] (Some f) = refl
last-more (g ∷ []) None = refl
last-more (g ∷ []) (Some f) = refl
last-more (g ∷ h ∷ flags) o = last-more (h ∷ flags) o

pub last_flag-snoc : (records : List Record) (r : Record) (topic name : List ℕ)
    → last_flag (records ++ r ∷ []) topic name ≡ option_or (subscribed_by topic name r) (last_flag records topic name)
last_flag-snoc records r topic name =
    ap last_of (filter_map-append (subscribed_by topic name) records (r ∷ []))
    ∙ last-more (filter_map (subscribed_by topic name) records) (subscribed_by topic name r)

-- a record that names no topic
abbrev pub names_topic : Record → Bool
names_topic (Subscribed topic name flag) = true
names_topic entry = false

pub none_said : (r : Record) (topic name : List ℕ) → names_topic r ≡ false → subscribed_by topic name r ≡ None
none_said (Subscribed its other flag) topic name h = absurd (let no = h in cc)
none_said (Put other target max secrets) topic name h = refl
none_said (Secrets other secrets) topic name h = refl
none_said (Enabled other flag) topic name h = refl
none_said (Accept other id body at) topic name h = refl
none_said (Outcome delivery attempt status at) topic name h = refl
none_said (Purge before) topic name h = refl

pub other_unnamed : (r : Record) → is_other r ≡ true → names_topic r ≡ false
other_unnamed (Subscribed its other flag) h = absurd (let no = h in cc)
other_unnamed (Put other target max secrets) h = refl
other_unnamed (Secrets other secrets) h = refl
other_unnamed (Enabled other flag) h = refl
other_unnamed (Accept other id body at) h = refl
other_unnamed (Outcome delivery attempt status at) h = refl
other_unnamed (Purge before) h = refl

pub flag_unnamed : (r : Record) → sets_flag r ≡ true → names_topic r ≡ false
flag_unnamed (Subscribed its other flag) h = absurd (let no = h in cc)
flag_unnamed (Put other target max secrets) h = refl
flag_unnamed (Secrets other secrets) h = refl
flag_unnamed (Enabled other flag) h = refl
flag_unnamed (Accept other id body at) h = refl
flag_unnamed (Outcome delivery attempt status at) h = refl
flag_unnamed (Purge before) h = refl

same_with : (records : List Record) (r : Record) → ((s : Subscription) → is_kept r s ≡ true)
    → own r (length records) ≡ [] → subscriptions (records ++ r ∷ []) ≡ subscriptions records
same_with records r kept none =
    subscriptions-snoc records r ∙ (λ i. filter_all (is_kept r) (subscriptions records) (λ s _. kept s) i ++ none i)
    ∙ append-nil (subscriptions records)

pub pairs-same : (records : List Record) (r : Record) → names_topic r ≡ false
    → subscriptions (records ++ r ∷ []) ≡ subscriptions records
pairs-same records (Subscribed its other flag) h = absurd (let no = h in cc)
pairs-same records (Put other target max secrets) h = same_with records (Put other target max secrets) (λ s. refl) refl
pairs-same records (Secrets other secrets) h = same_with records (Secrets other secrets) (λ s. refl) refl
pairs-same records (Enabled other flag) h = same_with records (Enabled other flag) (λ s. refl) refl
pairs-same records (Accept other id body at) h = same_with records (Accept other id body at) (λ s. refl) refl
pairs-same records (Outcome delivery attempt status at) h = same_with records (Outcome delivery attempt status at)
    (λ s. refl) refl
pairs-same records (Purge before) h = same_with records (Purge before) (λ s. refl) refl

pub flag-same : (records : List Record) (r : Record) (topic name : List ℕ) → names_topic r ≡ false
    → last_flag (records ++ r ∷ []) topic name ≡ last_flag records topic name
flag-same records r topic name h = last_flag-snoc records r topic name
    ∙ ap (λ o. option_or o (last_flag records topic name)) (none_said r topic name h)

pub topics-same : (ts : TopicsValue) (records : List Record) (r : Record) → names_topic r ≡ false
    → TellsTopics ts records → TellsTopics ts (records ++ r ∷ [])
topics-same ts records r h told = record {
  flags = λ topic name. told.flags topic name ∙ sym (flag-same records r topic name h);
  count = told.count ∙ ap length (sym (pairs-same records r h));
}

-- a Subscribed makes the pairs one more, if no record named its topic and endpoint
pairs-snoc : (records : List Record) (topic name : List ℕ) (flag : Bool)
    → length (subscriptions (records ++ Subscribed topic name flag ∷ [])) ≡ length (subscriptions records)
    + (if is_pair_named records topic name then 0 else 1)
pairs-snoc records topic name flag = at (is_pair_named records topic name) refl
  where
    entry : Record
    entry = Subscribed topic name flag

    made : length (subscriptions (records ++ entry ∷ [])) ≡ length (filter (is_kept entry) (subscriptions records)) + 1
    made = ap length (subscriptions-snoc records entry) ∙ length-append (filter (is_kept entry) (subscriptions records))
        (own entry (length records))

    itself : is_pair_named (entry ∷ []) topic name ≡ true
    itself = ap (λ b. is_some (cond b (Some flag) None) || false) (λ i. (bytes_decides topic topic).1 refl i
        && (bytes_decides name name).1 refl i)

    at : (b : Bool) → is_pair_named records topic name ≡ b → length (subscriptions (records ++ entry ∷ [])) ≡ length
        (subscriptions records) + cond b 0 1
    at true is =
        let less = named_keeps records topic name flag is in
        let more = grows records entry in
        omega (arith, made, less, more)
    at false is =
        let more = fewer_before records (entry ∷ []) topic name is itself in
        let least = fewer_kept entry records in
        omega (arith, made, more, least)

-- what is asked of the pairs is what the records say
pub named-told : (ts : TopicsValue) (records : List Record) (topic name : List ℕ) → TellsTopics ts records
    → is_some (flag_of ts topic name) ≡ is_pair_named records topic name
named-told ts records topic name told = ap is_some (told.flags topic name) ∙ sym (named_last records topic name)

pub subscribed-told : (ts : TopicsValue) (records : List Record) (topic name : List ℕ) → TellsTopics ts records
    → is_on ts topic name ≡ is_subscribed records topic name
subscribed-told ts records topic name told = ap (λ o. unwrap_or o false) (told.flags topic name)

pub topics-more : (ts : TopicsValue) (records : List Record) (topic name : List ℕ) (flag : Bool)
    → TellsTopics ts records
    → length (with_pair ts topic name flag) ≡ length ts + (if is_some (flag_of ts topic name) then 0 else 1)
    → TellsTopics (with_pair ts topic name flag) (records ++ Subscribed topic name flag ∷ [])
topics-more ts records topic name flag told counted = record {
  flags = λ other asked. flag-put ts topic name flag other asked
      ∙ by other asked (bytes_eq topic other && bytes_eq name asked)
      ∙ sym (last_flag-snoc records (Subscribed topic name flag) other asked);
  count = counted ∙ (λ i. told.count i + cond (named-told ts records topic name told i) 0 1)
      ∙ sym (pairs-snoc records topic name flag);
}
  where
    by : (other asked : List ℕ) (b : Bool) → cond b (Some flag) (flag_of ts other asked) ≡ option_or
        (cond b (Some flag) None) (last_flag records other asked)
    by other asked true = refl
    by other asked false = told.flags other asked
