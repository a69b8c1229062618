-- What the last record of a topic and an endpoint says, found from the front of a list.
use Rattle.std.proofs.Common.{◌≡◌, ◌≤◌, ◌<◌, inl, inr, ℕ, zero, suc, ◌+◌, ◌⊎◌, Bool, true, false, ◌&&◌, ◌||◌, not, List}
use Rattle.std.proofs.Common.{[], ◌∷◌, ◌++◌, Option, Some, None, length, drop, refl, sym, ap, subst, ◌∙◌, arith}
use Rattle.std.proofs.Common.{append-nil, append_assoc, length-append}
use Rattle.std.specs.Prelude.{cond, is_some, find, filter, filter_map, bytes_eq, slice_get, option_map, unwrap_or}
use Rattle.std.specs.Prelude.{if◌then◌else◌}
use Rattle.std.specs.List.{enumerate_from, cons_option}
use Rattle.std.specs.Option.{option_map_or}
use Rattle.std.proofs.lemmas.Slice.Eq.{bytes_eq-Decides}
use Rattle.relay_types.specs.declared.record.Record.{Record}
use Rattle.relay_types.specs.declared.record.Record.TheVariants.{Put, Secrets, Enabled, Accept, Outcome, Subscribed}
use Rattle.relay_types.specs.declared.record.Record.TheVariants.{Purge}
use Rattle.relay_types.specs.Lists.{last_of}
use Rattle.relay_types.specs.Subscriptions.{Subscription, is_subscribed, subscribed_by, names_pair, is_pair_named}
use Rattle.relay_types.specs.Subscriptions.{subscription_by, subscriptions}
use Rattle.relay_types.proofs.TableLaws.{In}
use Rattle.relay_types.proofs.FilterLaws.{filter_all}

-- The subscriptions of a list whose first record has this number

abbrev pub latest : ℕ → Record → List Record → Option Subscription
latest n (Subscribed topic name flag) rest = if is_pair_named rest topic name then None else Some
    (record { topic = topic; name = name; flag = flag; set_by = n })
latest n entry rest = None

abbrev pub later : ℕ → List Record → List Subscription
later n [] = []
later n (r ∷ rest) = cons_option (latest n r rest) (later (n + 1) rest)

behind : (front : List Record) (r : Record) (rest : List Record) → drop (length front + 1) (front ++ r ∷ rest) ≡ rest
behind [] r rest = refl
behind (x ∷ front) r rest = ap (λ k. drop k (x ∷ front ++ r ∷ rest)) one_more ∙ behind front r rest
  where
    one_more : suc (length front) + 1 ≡ suc (length front + 1)
    one_more = omega arith

latest_is : (all : List Record) (n : ℕ) (r : Record) (rest : List Record) → drop (n + 1) all ≡ rest
    → subscription_by all (n, r) ≡ latest n r rest
latest_is all n (Subscribed topic name flag) rest is =
    ap (λ rs. if is_pair_named rs topic name then None else Some
    (record { topic = topic; name = name; flag = flag; set_by = n })) is
latest_is all n (Put name target max secrets) rest is = refl
latest_is all n (Secrets name secrets) rest is = refl
latest_is all n (Enabled name flag) rest is = refl
latest_is all n (Accept name id body at) rest is = refl
latest_is all n (Outcome delivery attempt status at) rest is = refl
latest_is all n (Purge moment) rest is = refl

later_is : (front : List Record) (n : ℕ) (some : List Record) → n ≡ length front
    → filter_map (subscription_by (front ++ some)) (enumerate_from n some) ≡ later n some
later_is front n [] is = refl
later_is front n (r ∷ rest) is = λ i. cons_option
    (latest_is (front ++ r ∷ rest) n r rest (ap (λ k. drop (k + 1) (front ++ r ∷ rest)) is ∙ behind front r rest) i)
    ((ap (λ rs. filter_map (subscription_by rs) (enumerate_from (n + 1) rest)) (sym (append_assoc front (r ∷ []) rest))
    ∙ later_is (front ++ r ∷ []) (n + 1) rest longer) i)
  where
    longer : n + 1 ≡ length (front ++ r ∷ [])
    longer = omega (arith, is, length-append front (r ∷ []))

pub subscriptions_are : (records : List Record) → subscriptions records ≡ later 0 records
subscriptions_are records = later_is [] 0 records refl

-- A topic and an endpoint

abbrev pub is_for : (topic name : List ℕ) → Subscription → Bool
is_for topic name s = bytes_eq s.topic topic && bytes_eq s.name name

some_if : (b : Bool) (flag : Bool) → is_some (if b then Some flag else None) ≡ b
some_if true flag = refl
some_if false flag = refl

pub named-append : (xs ys : List Record) (topic name : List ℕ)
    → is_pair_named (xs ++ ys) topic name ≡ is_pair_named xs topic name || is_pair_named ys topic name
named-append [] ys topic name = refl
named-append (x ∷ xs) ys topic name = grind (arith, named-append xs ys topic name)

pub named_last : (records : List Record) (topic name : List ℕ) → is_pair_named records topic name ≡ is_some
    (last_of (filter_map (subscribed_by topic name) records))
named_last [] topic name = refl
named_last (r ∷ rest) topic name = at (subscribed_by topic name r) (named_last rest topic name)
  where
    at : (o : Option Bool)
        → is_pair_named rest topic name ≡ is_some (last_of (filter_map (subscribed_by topic name) rest))
        → is_some o || is_pair_named rest topic name ≡ is_some
        (last_of (cons_option o (filter_map (subscribed_by topic name) rest)))
    at None more = more
    at (Some flag) more = some_last flag (filter_map (subscribed_by topic name) rest)
      where
        some_last : (flag : Bool) (flags : List Bool) → true ≡ is_some (last_of (flag ∷ flags))
        some_last flag [] = refl
        some_last flag (f ∷ flags) = some_last f flags

last_more : (flag : Bool) (flags : List Bool) → is_some (last_of flags) ≡ true → last_of (flag ∷ flags) ≡ last_of flags
last_more flag [] h = absurd (let no = h in cc)
last_more flag (f ∷ flags) h = refl

none_last : (flags : List Bool) → is_some (last_of flags) ≡ false → flags ≡ []
none_last [] h = refl
none_last (f ∷ flags) h = absurd (by f flags h)
  where
    by : (f : Bool) (flags : List Bool) → is_some (last_of (f ∷ flags)) ≡ false → ⊥
    by f [] h = let no = h in cc
    by f (g ∷ flags) h = by g flags h

-- another pair than that of a record
other_pair : (topic name its other : List ℕ) (flag : Bool) (set_by : ℕ)
    → subscribed_by topic name (Subscribed its other flag) ≡ None
    → is_for topic name (record { topic = its; name = other; flag = flag; set_by = set_by }) ≡ false
other_pair topic name its other flag set_by h = grind arith

-- the last record of the pair is that of the one subscription that is for it
pub last_told : (n : ℕ) (records : List Record) (topic name : List ℕ)
    → last_of (filter_map (subscribed_by topic name) records) ≡ option_map (λ (s : Subscription). s.flag)
    (find (is_for topic name) (later n records))
last_told n [] topic name = refl
last_told n (Subscribed its other flag ∷ rest) topic name = grind
    (arith, last_told (n + 1) rest topic name, named_last, last_more, none_last, bytes_eq-Decides)
last_told n (Put its target max secrets ∷ rest) topic name = last_told (n + 1) rest topic name
last_told n (Secrets its secrets ∷ rest) topic name = last_told (n + 1) rest topic name
last_told n (Enabled its flag ∷ rest) topic name = last_told (n + 1) rest topic name
last_told n (Accept its id body at ∷ rest) topic name = last_told (n + 1) rest topic name
last_told n (Outcome delivery attempt status at ∷ rest) topic name = last_told (n + 1) rest topic name
last_told n (Purge moment ∷ rest) topic name = last_told (n + 1) rest topic name

-- One more record

-- what is for the pair of a new record goes
abbrev pub is_kept : Record → Subscription → Bool
is_kept (Subscribed topic name flag) s = not (is_for topic name s)
is_kept entry s = true

abbrev pub own : Record → ℕ → List Subscription
own entry n = cons_option (latest n entry []) []

abbrev kept : Record → Option Subscription → Option Subscription
kept entry None = None
kept entry (Some s) = if is_kept entry s then Some s else None

one_pair : (its other topic name : List ℕ) (flag : Bool) → is_pair_named (Subscribed topic name flag ∷ []) its other
    ≡ (bytes_eq its topic && bytes_eq other name)
one_pair its other topic name flag = grind (arith, bytes_eq-Decides)

gone_if : (a b : Bool) (s : Subscription)
    → (if a || b then None else Some s) ≡ (if a then None else (if not b then Some s else None))
gone_if a b s = grind arith

kept_if : (a : Bool) (b : Bool) (s : Subscription) (entry : Record) → is_kept entry s ≡ not b
    → (if a || b then None else Some s) ≡ kept entry (if a then None else Some s)
kept_if true b s entry h = refl
kept_if false b s entry h = gone_if false b s ∙ ap (λ c. if c then Some s else None) (sym h)

named_more : (rest : List Record) (entry : Record) (its other : List ℕ) (b : Bool)
    → is_pair_named (entry ∷ []) its other ≡ b → is_pair_named (rest ++ entry ∷ []) its other ≡ is_pair_named rest its
    other || b
named_more rest entry its other b h = named-append rest (entry ∷ []) its other
    ∙ ap (λ c. is_pair_named rest its other || c) h

stays : (n : ℕ) (its other : List ℕ) (flag : Bool) (rest : List Record) (entry : Record) (b : Bool)
    → is_pair_named (entry ∷ []) its other ≡ b
    → is_kept entry (record { topic = its; name = other; flag = flag; set_by = n }) ≡ not b
    → latest n (Subscribed its other flag) (rest ++ entry ∷ []) ≡ kept entry (latest n (Subscribed its other flag) rest)
stays n its other flag rest entry b h k =
    ap (λ c. if c then None else Some (record { topic = its; name = other; flag = flag; set_by = n }))
    (named_more rest entry its other b h)
    ∙ kept_if (is_pair_named rest its other) b (record { topic = its; name = other; flag = flag; set_by = n }) entry k

latest_more : (n : ℕ) (r : Record) (rest : List Record) (entry : Record) → latest n r (rest ++ entry ∷ []) ≡ kept entry
    (latest n r rest)
latest_more n (Subscribed its other flag) rest (Subscribed topic name own_flag) = stays n its other flag rest
    (Subscribed topic name own_flag) (bytes_eq its topic && bytes_eq other name)
    (one_pair its other topic name own_flag) refl
latest_more n (Subscribed its other flag) rest (Put name target max secrets) = stays n its other flag rest
    (Put name target max secrets) false refl refl
latest_more n (Subscribed its other flag) rest (Secrets name secrets) = stays n its other flag rest
    (Secrets name secrets) false refl refl
latest_more n (Subscribed its other flag) rest (Enabled name own_flag) = stays n its other flag rest
    (Enabled name own_flag) false refl refl
latest_more n (Subscribed its other flag) rest (Accept name id body at) = stays n its other flag rest
    (Accept name id body at) false refl refl
latest_more n (Subscribed its other flag) rest (Outcome delivery attempt status at) = stays n its other flag rest
    (Outcome delivery attempt status at) false refl refl
latest_more n (Subscribed its other flag) rest (Purge moment) = stays n its other flag rest (Purge moment) false refl
    refl
latest_more n (Put name target max secrets) rest entry = refl
latest_more n (Secrets name secrets) rest entry = refl
latest_more n (Enabled name flag) rest entry = refl
latest_more n (Accept name id body at) rest entry = refl
latest_more n (Outcome delivery attempt status at) rest entry = refl
latest_more n (Purge moment) rest entry = refl

filter_kept : (entry : Record) (o : Option Subscription) (ss more : List Subscription)
    → cons_option (kept entry o) (filter (is_kept entry) ss ++ more) ≡ filter (is_kept entry) (cons_option o ss) ++ more
filter_kept entry None ss more = refl
filter_kept entry (Some s) ss more = at (is_kept entry s)
  where
    at : (b : Bool) → cons_option (if b then Some s else None) (filter (is_kept entry) ss ++ more) ≡ cond b
        (s ∷ filter (is_kept entry) ss) (filter (is_kept entry) ss) ++ more
    at true = refl
    at false = refl

later-snoc : (n : ℕ) (xs : List Record) (entry : Record) → later n (xs ++ entry ∷ []) ≡ filter (is_kept entry)
    (later n xs) ++ own entry (n + length xs)
later-snoc n [] entry = ap (λ m. cons_option (latest m entry []) []) same
  where
    same : n ≡ n + 0
    same = omega arith
later-snoc n (r ∷ xs) entry =
    (λ i. cons_option (latest_more n r xs entry i)
    ((later-snoc (n + 1) xs entry ∙ ap (λ m. filter (is_kept entry) (later (n + 1) xs) ++ own entry m) moved) i))
    ∙ filter_kept entry (latest n r xs) (later (n + 1) xs) (own entry (n + suc (length xs)))
  where
    moved : n + 1 + length xs ≡ n + suc (length xs)
    moved = omega arith

-- a new record of a pair takes the place of the last one, and no other changes anything
pub subscriptions-snoc : (records : List Record) (entry : Record) → subscriptions (records ++ entry ∷ []) ≡ filter
    (is_kept entry) (subscriptions records) ++ own entry (length records)
subscriptions-snoc records entry =
    subscriptions_are (records ++ entry ∷ []) ∙ later-snoc 0 records entry
    ∙ (λ i. filter (is_kept entry) (sym (subscriptions_are records) i) ++ own entry (whole (length records) i))
  where
    whole : (k : ℕ) → 0 + k ≡ k
    whole k = omega arith

-- What is said of a pair, by the subscriptions

pub named-told : (records : List Record) (topic name : List ℕ) → is_pair_named records topic name ≡ is_some
    (find (is_for topic name) (subscriptions records))
named-told records topic name =
    named_last records topic name ∙ ap is_some (last_told 0 records topic name)
    ∙ by (find (is_for topic name) (later 0 records))
    ∙ ap (λ ss. is_some (find (is_for topic name) ss)) (sym (subscriptions_are records))
  where
    by : (o : Option Subscription) → is_some (option_map (λ (s : Subscription). s.flag) o) ≡ is_some o
    by None = refl
    by (Some s) = refl

pub subscribed-told : (records : List Record) (topic name : List ℕ) → is_subscribed records topic name ≡ option_map_or
    (λ (s : Subscription). s.flag) (find (is_for topic name) (subscriptions records)) false
subscribed-told records topic name =
    ap (λ o. unwrap_or o false) (last_told 0 records topic name) ∙ by (find (is_for topic name) (later 0 records))
    ∙ ap (λ ss. option_map_or (λ (s : Subscription). s.flag) (find (is_for topic name) ss) false)
    (sym (subscriptions_are records))
  where
    by : (o : Option Subscription) → unwrap_or (option_map (λ (s : Subscription). s.flag) o) false ≡ option_map_or
        (λ (s : Subscription). s.flag) o false
    by None = refl
    by (Some s) = refl

-- Records of a pair

pub same_texts : (a b c d : List ℕ) → (bytes_eq a b && bytes_eq c d) ≡ true → (a ≡ b) × (c ≡ d)
same_texts a b c d h = grind (arith, bytes_eq-Decides)

pub pair_named : (topic name : List ℕ) (r : Record) → names_pair topic name r ≡ true → (flag : Bool)
    × (r ≡ Subscribed topic name flag)
pair_named topic name (Subscribed its other flag) h =
    let same = same_texts its topic other name (sym (some_if (bytes_eq its topic && bytes_eq other name) flag) ∙ h) in
    (flag, λ i. Subscribed (same.0 i) (same.1 i) flag)
pair_named topic name (Put other target max secrets) h = absurd (let no = h in cc)
pair_named topic name (Secrets other secrets) h = absurd (let no = h in cc)
pair_named topic name (Enabled other flag) h = absurd (let no = h in cc)
pair_named topic name (Accept other id body at) h = absurd (let no = h in cc)
pair_named topic name (Outcome delivery attempt status at) h = absurd (let no = h in cc)
pair_named topic name (Purge moment) h = absurd (let no = h in cc)

pub named_in : (records : List Record) (topic name : List ℕ) → is_pair_named records topic name ≡ true → (k : ℕ)
    × (flag : Bool) × (slice_get records k ≡ Some (Subscribed topic name flag))
named_in [] topic name h = absurd (let no = h in cc)
named_in (r ∷ rest) topic name h = at (named_in rest topic name) (names_pair topic name r) refl h
  where
    at : (is_pair_named rest topic name ≡ true → (k : ℕ) × (flag : Bool)
        × (slice_get rest k ≡ Some (Subscribed topic name flag))) → (b : Bool) → names_pair topic name r ≡ b
        → b || is_pair_named rest topic name ≡ true
        → (k : ℕ) × (flag : Bool) × (slice_get (r ∷ rest) k ≡ Some (Subscribed topic name flag))
    at more true is h = let own = pair_named topic name r is in (0, own.0, ap Some own.1)
    at more false is h = let found = more h in (suc found.0, found.1, found.2)

pub in_named : (records : List Record) (k : ℕ) (topic name : List ℕ) (flag : Bool)
    → slice_get records k ≡ Some (Subscribed topic name flag) → is_pair_named records topic name ≡ true
in_named [] k topic name flag h = absurd (let no = h in cc)
in_named (r ∷ rest) zero topic name flag h =
    ap (λ t. names_pair topic name t || is_pair_named rest topic name) (some_is h) ∙ itself
  where
    some_is : {X : Type 0} {x y : X} → Some x ≡ Some y → x ≡ y
    some_is e = cc

    itself : names_pair topic name (Subscribed topic name flag) || is_pair_named rest topic name ≡ true
    itself = grind (arith, bytes_eq-Decides)
in_named (r ∷ rest) (suc k) topic name flag h = grind (arith, in_named rest k topic name flag h)

-- Subscriptions of a list

in_behind : (o : Option Subscription) (ss : List Subscription) (s : Subscription) → In s ss → In s (cons_option o ss)
in_behind None ss s i = i
in_behind (Some t) ss s i = inr i

-- a record of a pair, or a later one, is that of its subscription
last_from : (m n k : ℕ) (some : List Record) (topic name : List ℕ) (flag : Bool) → k ≡ m + n
    → slice_get some n ≡ Some (Subscribed topic name flag)
    → (s : Subscription) × In s (later m some) × (s.topic ≡ topic) × (s.name ≡ name) × (k ≤ s.set_by)
last_from m n k [] topic name flag here h = absurd (let no = h in cc)
last_from m zero k (r ∷ rest) topic name flag here h =
    at (λ j own is. last_from (m + 1) j (m + 1 + j) rest topic name own refl is) (is_pair_named rest topic name) refl
  where
    some_is : {X : Type 0} {x y : X} → Some x ≡ Some y → x ≡ y
    some_is e = cc

    at : ((j : ℕ) (own : Bool) → slice_get rest j ≡ Some (Subscribed topic name own) → (s : Subscription)
        × In s (later (m + 1) rest) × (s.topic ≡ topic) × (s.name ≡ name) × (m + 1 + j ≤ s.set_by))
        → (b : Bool) → is_pair_named rest topic name ≡ b → (s : Subscription) × In s (later m (r ∷ rest))
        × (s.topic ≡ topic) × (s.name ≡ name) × (k ≤ s.set_by)
    at more false is =
        let new : Subscription = record { topic = topic; name = name; flag = flag; set_by = m } in
        let made : latest m r rest ≡ Some new = ap (λ t. latest m t rest) (some_is h)
        ∙ ap (λ b. if b then None else Some new) is in (
          new,
          subst (λ o. In new (cons_option o (later (m + 1) rest))) (sym made) (inl refl),
          refl,
          refl,
          omega
              (arith, here),
        )
    at more true is =
        let found = named_in rest topic name is in
        let s = more found.0 found.1 found.2 in
        (s.0, in_behind (latest m r rest) (later (m + 1) rest) s.0 s.1, s.2, s.3, omega (arith, here, s.4))
last_from m (suc n) k (r ∷ rest) topic name flag here h =
    let s = last_from (m + 1) n k rest topic name flag (omega (arith, here)) h in
    (s.0, in_behind (latest m r rest) (later (m + 1) rest) s.0 s.1, s.2, s.3, s.4)

pub last_of_pair : (records : List Record) (n : ℕ) (topic name : List ℕ) (flag : Bool)
    → slice_get records n ≡ Some (Subscribed topic name flag)
    → (s : Subscription) × In s (subscriptions records) × (s.topic ≡ topic) × (s.name ≡ name) × (n ≤ s.set_by)
last_of_pair records n topic name flag h =
    let s = last_from 0 n n records topic name flag (omega arith) h in
    (s.0, subst (In s.0) (sym (subscriptions_are records)) s.1, s.2, s.3, s.4)

-- each pair once

in_option : (o : Option Subscription) (ss : List Subscription) (s : Subscription) → In s (cons_option o ss)
    → (o ≡ Some s) ⊎ In s ss
in_option None ss s i = inr i
in_option (Some t) ss s (inl same) = inl (ap Some same)
in_option (Some t) ss s (inr i) = inr i

latest_is_of : (m : ℕ) (r : Record) (rest : List Record) (s : Subscription) → latest m r rest ≡ Some s
    → (r ≡ Subscribed s.topic s.name s.flag) × (is_pair_named rest s.topic s.name ≡ false)
latest_is_of m (Subscribed topic name flag) rest s h = at (is_pair_named rest topic name) refl h
  where
    some_is : {X : Type 0} {x y : X} → Some x ≡ Some y → x ≡ y
    some_is e = cc

    at : (b : Bool) → is_pair_named rest topic name ≡ b
        → (if b then None else Some (record { topic = topic; name = name; flag = flag; set_by = m })) ≡ Some s
        → (Subscribed topic name flag ≡ Subscribed s.topic s.name s.flag) × (is_pair_named rest s.topic s.name ≡ false)
    at true is h = absurd (let no = h in cc)
    at false is h = let same = some_is h
        in (
          (λ i. Subscribed (same i).topic (same i).name (same i).flag),
          ap
              (λ (t : Subscription). is_pair_named rest t.topic t.name) (sym same) ∙ is,
        )
latest_is_of m (Put name target max secrets) rest s h = absurd (let no = h in cc)
latest_is_of m (Secrets name secrets) rest s h = absurd (let no = h in cc)
latest_is_of m (Enabled name flag) rest s h = absurd (let no = h in cc)
latest_is_of m (Accept name id body at) rest s h = absurd (let no = h in cc)
latest_is_of m (Outcome delivery attempt status at) rest s h = absurd (let no = h in cc)
latest_is_of m (Purge moment) rest s h = absurd (let no = h in cc)

later_named : (m : ℕ) (some : List Record) (s : Subscription) → In s (later m some)
    → is_pair_named some s.topic s.name ≡ true
later_named m [] s i = absurd i
later_named m (r ∷ rest) s i = at (later_named (m + 1) rest s) (in_option (latest m r rest) (later (m + 1) rest) s i)
  where
    or_true : (a : Bool) → a || true ≡ true
    or_true a = grind arith

    at : (In s (later (m + 1) rest) → is_pair_named rest s.topic s.name ≡ true) → (latest m r rest ≡ Some s)
        ⊎ In s (later (m + 1) rest) → is_pair_named (r ∷ rest) s.topic s.name ≡ true
    at more (inl h) = in_named (r ∷ rest) 0 s.topic s.name s.flag (ap Some (latest_is_of m r rest s h).0)
    at more (inr j) = ap (λ b. names_pair s.topic s.name r || b) (more j) ∙ or_true (names_pair s.topic s.name r)

later_once : (m : ℕ) (some : List Record) (s t : Subscription) → In s (later m some) → In t (later m some)
    → s.topic ≡ t.topic → s.name ≡ t.name → s ≡ t
later_once m [] s t i j topic name = absurd i
later_once m (r ∷ rest) s t i j topic name =
    at (λ i j. later_once (m + 1) rest s t i j topic name) (in_option (latest m r rest) (later (m + 1) rest) s i)
    (in_option (latest m r rest) (later (m + 1) rest) t j)
  where
    some_is : {X : Type 0} {x y : X} → Some x ≡ Some y → x ≡ y
    some_is e = cc

    never : (a b : Subscription) → latest m r rest ≡ Some a → In b (later (m + 1) rest) → a.topic ≡ b.topic
        → a.name ≡ b.name → ⊥
    never a b h j topic name =
        let no = (latest_is_of m r rest a h).1 in
        let yes = (λ i. is_pair_named rest (topic i) (name i)) ∙ later_named (m + 1) rest b j in
        let clash : false ≡ true = sym no ∙ yes in cc

    at : (In s (later (m + 1) rest) → In t (later (m + 1) rest) → s ≡ t) → (latest m r rest ≡ Some s)
        ⊎ In s (later (m + 1) rest) → (latest m r rest ≡ Some t) ⊎ In t (later (m + 1) rest) → s ≡ t
    at more (inl h) (inl k) = some_is (sym h ∙ k)
    at more (inl h) (inr j) = absurd (never s t h j topic name)
    at more (inr i) (inl k) = absurd (never t s k i (sym topic) (sym name))
    at more (inr i) (inr j) = more i j

pub each_once : (records : List Record) (s t : Subscription) → In s (subscriptions records)
    → In t (subscriptions records) → s.topic ≡ t.topic → s.name ≡ t.name → s ≡ t
each_once records s t i j topic name = later_once 0 records s t (subst (In s) (subscriptions_are records) i)
    (subst (In t) (subscriptions_are records) j) topic name

-- How many

no_more : {X : Type 0} (p : X → Bool) (xs : List X) → length (filter p xs) ≤ length xs
no_more p [] = omega arith
no_more p (x ∷ xs) = at (p x) (no_more p xs)
  where
    at : (b : Bool) → length (filter p xs) ≤ length xs → length (cond b (x ∷ filter p xs) (filter p xs)) ≤ suc
        (length xs)
    at true less = omega (arith, less)
    at false less = omega (arith, less)

one_less : {X : Type 0} (p : X → Bool) (xs : List X) (x : X) → In x xs → p x ≡ false
    → length (filter p xs) + 1 ≤ length xs
one_less p [] x i h = absurd i
one_less p (y ∷ xs) x (inl same) h = ap_le (ap p same ∙ h)
  where
    ap_le : p y ≡ false → length (filter p (y ∷ xs)) + 1 ≤ suc (length xs)
    ap_le is = subst (λ b. length (cond b (y ∷ filter p xs) (filter p xs)) + 1 ≤ suc (length xs)) (sym is)
        (omega (arith, no_more p xs))
one_less p (y ∷ xs) x (inr i) h = at (p y) (one_less p xs x i h)
  where
    at : (b : Bool) → length (filter p xs) + 1 ≤ length xs → length (cond b (y ∷ filter p xs) (filter p xs)) + 1 ≤ suc
        (length xs)
    at true less = omega (arith, less)
    at false less = omega (arith, less)

-- a record of a pair that was named takes its place
pub named_keeps : (records : List Record) (topic name : List ℕ) (flag : Bool) → is_pair_named records topic name ≡ true
    → length (filter (is_kept (Subscribed topic name flag)) (subscriptions records)) + 1 ≤ length
    (subscriptions records)
named_keeps records topic name flag h =
    let found = named_in records topic name h in
    let s = last_of_pair records found.0 topic name found.1 found.2 in
    one_less (is_kept (Subscribed topic name flag)) (subscriptions records) s.0 s.1
    (grind (arith, bytes_eq-Decides, s.2, s.3))

pub fewer_kept : (entry : Record) (records : List Record)
    → length (filter (is_kept entry) (subscriptions records)) ≤ length (subscriptions records)
fewer_kept entry records = no_more (is_kept entry) (subscriptions records)

-- A longer list has no fewer

none_out : (m : ℕ) (some : List Record) (topic name : List ℕ) (flag : Bool) → is_pair_named some topic name ≡ false
    → filter (is_kept (Subscribed topic name flag)) (later m some) ≡ later m some
none_out m some topic name flag h = filter_all (is_kept (Subscribed topic name flag)) (later m some)
    (λ s i. at s i (is_for topic name s) refl)
  where
    at : (s : Subscription) → In s (later m some) → (b : Bool) → is_for topic name s ≡ b → not b ≡ true
    at s i false is = refl
    at s i true is =
        let same = same_texts s.topic topic s.name name is in
        let yes = (λ j. is_pair_named some (sym same.0 j) (sym same.1 j)) ∙ later_named m some s i in
        absurd (let clash : false ≡ true = sym h ∙ yes in cc)

one_out : (m : ℕ) (some : List Record) (topic name : List ℕ) (flag : Bool)
    → length (later m some) ≤ length (filter (is_kept (Subscribed topic name flag)) (later m some)) + 1
one_out m [] topic name flag = omega arith
one_out m (r ∷ rest) topic name flag = at (latest m r rest) refl (one_out (m + 1) rest topic name flag)
  where
    test : Subscription → Bool
    test = is_kept (Subscribed topic name flag)

    at : (o : Option Subscription) → latest m r rest ≡ o
        → length (later (m + 1) rest) ≤ length (filter test (later (m + 1) rest)) + 1
        → length (cons_option o (later (m + 1) rest)) ≤ length (filter test (cons_option o (later (m + 1) rest))) + 1
    at None is more = more
    at (Some s) is more = by (is_for topic name s) refl
      where
        by : (b : Bool) → is_for topic name s ≡ b → suc (length (later (m + 1) rest)) ≤ length
            (cond (not b) (s ∷ filter test (later (m + 1) rest)) (filter test (later (m + 1) rest))) + 1
        by false e = omega (arith, more)
        by true e =
            let same = same_texts s.topic topic s.name name e in
            let unnamed = (λ j. is_pair_named rest (sym same.0 j) (sym same.1 j)) ∙ (latest_is_of m r rest s is).1 in
            let whole = ap length (none_out (m + 1) rest topic name flag unnamed) in omega (arith, whole)

more_if : (records : List Record) (topic name : List ℕ) (flag : Bool)
    → length (subscriptions records) ≤ length (subscriptions (records ++ Subscribed topic name flag ∷ []))
more_if records topic name flag =
    let snoc = ap length (subscriptions-snoc records (Subscribed topic name flag))
    ∙ length-append (filter (is_kept (Subscribed topic name flag)) (subscriptions records))
    (own (Subscribed topic name flag) (length records)) in
    let least = subst (λ ss. length ss ≤ length (filter (is_kept (Subscribed topic name flag)) ss) + 1)
    (sym (subscriptions_are records)) (one_out 0 records topic name flag) in
    omega (arith, snoc, least)

same_if : (records : List Record) (entry : Record) → ((s : Subscription) → is_kept entry s ≡ true)
    → length (subscriptions records) ≤ length (subscriptions (records ++ entry ∷ []))
same_if records entry kept =
    let snoc = ap length (subscriptions-snoc records entry)
    ∙ length-append (filter (is_kept entry) (subscriptions records)) (own entry (length records)) in
    let all = ap length (filter_all (is_kept entry) (subscriptions records) (λ s i. kept s)) in
    omega (arith, snoc, all)

pub grows : (records : List Record) (entry : Record)
    → length (subscriptions records) ≤ length (subscriptions (records ++ entry ∷ []))
grows records (Subscribed topic name flag) = more_if records topic name flag
grows records (Put name target max secrets) = same_if records (Put name target max secrets) (λ s. refl)
grows records (Secrets name secrets) = same_if records (Secrets name secrets) (λ s. refl)
grows records (Enabled name flag) = same_if records (Enabled name flag) (λ s. refl)
grows records (Accept name id body at) = same_if records (Accept name id body at) (λ s. refl)
grows records (Outcome delivery attempt status at) = same_if records (Outcome delivery attempt status at) (λ s. refl)
grows records (Purge moment) = same_if records (Purge moment) (λ s. refl)

grow_all : (records more : List Record) → length (subscriptions records) ≤ length (subscriptions (records ++ more))
grow_all records [] = subst (λ rs. length (subscriptions records) ≤ length (subscriptions rs))
    (sym (append-nil records)) (omega arith)
grow_all records (r ∷ more) =
    let one = grows records r in
    let rest = subst (λ rs. length (subscriptions (records ++ r ∷ [])) ≤ length (subscriptions rs))
    (append_assoc records (r ∷ []) more) (grow_all (records ++ r ∷ []) more) in
    omega (arith, one, rest)

-- a pair that is named behind alone makes them more
pub fewer_before : (records more : List Record) (topic name : List ℕ) → is_pair_named records topic name ≡ false
    → is_pair_named more topic name ≡ true → length (subscriptions records) < length (subscriptions (records ++ more))
fewer_before records [] topic name none some = absurd (let no = some in cc)
fewer_before records (r ∷ more) topic name none some = at (λ h k. fewer_before (records ++ r ∷ []) more topic name h k)
    (names_pair topic name r) refl some
  where
    assoc : (records ++ r ∷ []) ++ more ≡ records ++ r ∷ more
    assoc = append_assoc records (r ∷ []) more

    new : (flag : Bool) → r ≡ Subscribed topic name flag
        → length (subscriptions records) < length (subscriptions (records ++ r ∷ []))
    new flag is =
        let snoc = ap length (subscriptions-snoc records (Subscribed topic name flag))
        ∙ length-append (filter (is_kept (Subscribed topic name flag)) (subscriptions records))
        (own (Subscribed topic name flag) (length records)) in
        let all = subst (λ ss. filter (is_kept (Subscribed topic name flag)) ss ≡ ss) (sym (subscriptions_are records))
        (none_out 0 records topic name flag none) in
        let count = ap length all in
        subst (λ e. length (subscriptions records) < length (subscriptions (records ++ e ∷ []))) (sym is)
        (omega (arith, snoc, count))

    at : (is_pair_named (records ++ r ∷ []) topic name ≡ false → is_pair_named more topic name ≡ true
        → length (subscriptions (records ++ r ∷ [])) < length (subscriptions ((records ++ r ∷ []) ++ more)))
        → (b : Bool) → names_pair topic name r ≡ b → b || is_pair_named more topic name ≡ true
        → length (subscriptions records) < length (subscriptions (records ++ r ∷ more))
    at rest true is h =
        let own_flag = pair_named topic name r is in
        subst (λ rs. length (subscriptions records) < length (subscriptions rs)) assoc
        (omega (arith, new own_flag.0 own_flag.1, grow_all (records ++ r ∷ []) more))
    at rest false is h =
        let unnamed : is_pair_named (records ++ r ∷ []) topic name ≡ false = named-append records (r ∷ []) topic name
        ∙ (λ i. none i || (is i || false)) in
        let later_more = rest unnamed h in
        subst (λ rs. length (subscriptions records) < length (subscriptions rs)) assoc
        (omega (arith, grows records r, later_more))
