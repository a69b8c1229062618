-- What a new desk keeps beside the books that it begins with.
use Rattle.desk.proofs.Words.{◌≡◌, ◌⊎◌, inl, inr, ◌<◌, ◌≤◌, ◌+◌, ℕ, zero, suc, Bool, true, false, List, [], ◌∷◌, ◌++◌}
use Rattle.desk.proofs.Words.{Option, Some, None, append-nil, length, map, max, take, get_or, refl, sym, ◌∙◌, ap, arith}
use Rattle.desk.proofs.Words.{◌&&◌, ◌||◌, cond, subst, count_by, filter_map, find, is_some, option_map, nat_eq, nat_le}
use Rattle.desk.proofs.Words.{bytes_eq, slice_get, cons_option, list_all, list_any, eq-eqb, eqb-true, leb-true}
use Rattle.desk.proofs.Words.{drop_all, take_more, take_all, find-append, list_all-append, list_any-append, sum_by-cons}
use Rattle.desk.proofs.Words.{slice_get_within, slice_get-get_or, map-map, bytes_eq-Decides, records_of, and_first}
use Rattle.desk.proofs.Words.{and_second, EstimatorValue, StandsForSamples, Explains, Books, WaitingValue, AreInStep}
use Rattle.desk.proofs.Words.{changes_none, EndpointEntry, Entry, DeliveryRow, BookValue, HasOneEach, IsInStep}
use Rattle.desk.proofs.Words.{empty_book, entry_at, is_pending_of, pending_in, settled_row, all_weaker, Row}
use Rattle.desk.proofs.Words.{Pair, QueueValue, empty_queue, ChangesState, IsNew, SetsState, free_places, has_room_in}
use Rattle.desk.proofs.Words.{is_held, is_reserved, pair_of, reserved_state, with_room, Limiter, IsDesk, Opens}
use Rattle.desk.proofs.Words.{AreLimiters, KnowsRooms, AreQueued, HasPlaces, Holds, KeepsPlaces, StandsAt, bound_by}
use Rattle.desk.proofs.Words.{endpoint_at, idle_pair, is_unheld, new_limiter, room_by, waits_as, entry_of, nat_tests}
use Rattle.desk.proofs.Words.{by_bool, by_option, nat_lt, option_and_then, row_if_settled}
use Rattle.vegas.specs.Vegas.{limit_of, noload_of, probes_of}
use Rattle.std.proofs.lemmas.List.Elements.{filter_map-append}
use Rattle.spool.specs.Books.{AreSettled}
use Rattle.delivery_book.proofs.Waiting.{waiting_none}
use Rattle.endpoint_book.specs.Book as endpoint_book
use Rattle.delivery_book.specs.Book as delivery_book
use Rattle.endpoint_book.specs.Entries as endpoint_entries
use Rattle.desk.proofs.ClaimLaws.{count_below}
use Rattle.desk.proofs.SettleLaws.{held_one, held_other, idle_waits}
use Rattle.desk.proofs.RequestTies.{is_still_reserved, no_room_unknown, places_reserved, reserved_free, reserved_own}
use Rattle.desk.proofs.RequestTies.{room_reserved}

-- Places of a list

pub same_some : {X : Type 0} (a b : X) → Some a ≡ Some b → a ≡ b
same_some a b p = cc

pub take_next : {X : Type 0} (xs : List X) (i : ℕ) (x : X) → slice_get xs i ≡ Some x
    → take (i + 1) xs ≡ take i xs ++ x ∷ []
take_next xs i x h =
    let within = slice_get_within xs i x h in
    take_more xs i x within ∙ ap (λ y. take i xs ++ y ∷ [])
    (same_some (get_or xs i x) x (sym (slice_get-get_or xs i x within) ∙ h))

-- there is something at a place within
pub nothing_there : {X Y : Type 0} (f : X → Y) (xs : List X) (i : ℕ) → i < length xs
    → None ≡ option_map f (slice_get xs i) → ⊥
nothing_there f [] i h e = absurd (omega (arith, h))
nothing_there f (x ∷ xs) zero h e = absurd (cc)
nothing_there f (x ∷ xs) (suc i) h e = nothing_there f xs i (omega (arith, h)) e

counted_one : (p : Entry → Bool) (xs : List Entry) (i : ℕ) (x : Entry) → slice_get xs i ≡ Some x → p x ≡ true
    → 1 ≤ count_by p xs
counted_one p [] i x h e = let wrong : None ≡ Some x = h in cc
counted_one p (y ∷ ys) zero x h e = grind (arith, sum_by-cons (λ z. cond (p z) 1 0) y ys, h, e)
counted_one p (y ∷ ys) (suc i) x h e = omega (arith, sum_by-cons (λ z. cond (p z) 1 0) y ys, counted_one p ys i x h e)

-- where no two entries have one number, the entry at a place is found by its number, and not before its place
own_place : (xs : List Entry) (i : ℕ) (x : Entry) → count_by (λ e. nat_eq e.seq x.seq) xs ≤ 1 → slice_get xs i ≡ Some x
    → (entry_at xs x.seq ≡ Some x) × (entry_at (take i xs) x.seq ≡ None)
own_place [] i x few h = let wrong : None ≡ Some x = h in cc
own_place (y ∷ ys) zero x few h = let is = same_some y x h in (grind (arith, nat_tests, is), refl)
own_place (y ∷ ys) (suc i) x few h =
    let counted = sum_by-cons (λ (e : Entry). cond (nat_eq e.seq x.seq) 1 0) y ys in
    let one = counted_one (λ z. nat_eq z.seq x.seq) ys i x h (eq-eqb x.seq x.seq refl) in
    let other : nat_eq y.seq x.seq ≡ false = grind (arith, counted, one, few) in
    let later = own_place ys i x (omega (arith, few, counted)) h in
    (grind (arith, other, later.0), grind (arith, other, later.1))

-- the row of the entry at a place, and that there is one if all entries are settled
pub row_there : (book : BookValue) (place d : ℕ) → HasOneEach book
    → Some d ≡ option_map (λ e. e.seq) (slice_get book.entries place)
    → settled_row book d ≡ option_and_then (row_if_settled book.settled_seq) (slice_get book.entries place)
row_there book place d once h = by_option (slice_get book.entries place)
    (λ e. grind (arith, h, e))
    (λ x e. grind (arith, h, e, (own_place book.entries place x (once x.seq) e).0))

all_at : (p : Entry → Bool) (xs : List Entry) (i : ℕ) (x : Entry) → list_all p xs ≡ true → slice_get xs i ≡ Some x
    → p x ≡ true
all_at p [] i x all h = absurd (let wrong : None ≡ Some x = h in cc)
all_at p (y ∷ ys) zero x all h = ap p (sym (same_some y x h)) ∙ and_first (p y) _ all
all_at p (y ∷ ys) (suc i) x all h = all_at p ys i x (and_second (p y) _ all) h

pub no_row_there : (book : BookValue) (place : ℕ) → IsInStep book → book.next_seq ≡ book.settled_seq
    → place < length book.entries
    → None ≡ option_and_then (row_if_settled book.settled_seq) (slice_get book.entries place) → ⊥
no_row_there book place step same within none = by_option (slice_get book.entries place)
    (λ e. nothing_there (λ (x : Entry). x) book.entries place within (sym (ap (option_map (λ (x : Entry). x)) e)))
    (λ x e.
    let below = all_at (λ (y : Entry). nat_lt y.seq book.next_seq) book.entries place x step.numbered e in
    absurd (grind (arith, nat_tests, none, e, below, same)))

-- Deliveries that are held, one after the other

abbrev pub HoldsAmong : QueueValue → BookValue → List Entry → Type 0
HoldsAmong queue book done = (pair : Pair) → is_held queue pair ≡ is_some (entry_at done pair.seq)
    && waits_as book [] pair

-- what the entry at a place is, and how many were looked at after it
record IsAt (book : BookValue) (i d : ℕ) : Type 0 where
  numbered : (n : ℕ) → is_some (entry_at (take (i + 1) book.entries) n) ≡ is_some (entry_at (take i book.entries) n)
      || nat_eq d n
  fresh : entry_at (take i book.entries) d ≡ None

at_place : (book : BookValue) (i d : ℕ) → HasOneEach book → Some d ≡ option_map (λ e. e.seq) (slice_get book.entries i)
    → IsAt book i d
at_place book i d once h = by_option (slice_get book.entries i) (λ e. absurd (grind (arith, h, e))) (λ x e.
    let is : d ≡ x.seq = grind (arith, h, e) in
    record {
      numbered = λ n.
          let found = find-append (λ (y : Entry). nat_eq y.seq n) (take i book.entries) (x ∷ []) in
          grind (arith, take_next book.entries i x e, found, is);
      fresh = ap (entry_at (take i book.entries)) is ∙ (own_place book.entries i x (once x.seq) e).1;
    })

pub new_among : (queue : QueueValue) (book : BookValue) (i d : ℕ) → HasOneEach book
    → Some d ≡ option_map (λ e. e.seq) (slice_get book.entries i) → HoldsAmong queue book (take i book.entries)
    → IsNew queue d
new_among queue book i d once h among = λ endpoint due.
    among (pair_of endpoint due d) ∙ ap (λ o. is_some o && waits_as book [] (pair_of endpoint due d))
    (at_place book i d once h).fresh

pub held_more : (old new : QueueValue) (book : BookValue) (i d : ℕ) → HasOneEach book
    → Some d ≡ option_map (λ e. e.seq) (slice_get book.entries i) → HoldsAmong old book (take i book.entries)
    → Holds old new (idle_pair book d) → HoldsAmong new book (take (i + 1) book.entries)
held_more old new book i d once h among holds = λ pair.
    let numbered = (at_place book i d once h).numbered pair.seq in
    by_bool (nat_eq d pair.seq)
    (λ e.
    let is = eqb-true d pair.seq e in
    let fresh = subst (λ n. IsNew old n) is (new_among old book i d once h among) in
    let one = held_one old new book pair fresh (subst (λ n. Holds old new (idle_pair book n)) is holds) in
    one ∙ sym (idle_waits book [] pair refl) ∙ sym (grind (arith, numbered, e)))
    (λ e. held_other old new book (Some d) pair holds e ∙ among pair ∙ sym (grind (arith, numbered, e)))

-- A place for each pending delivery

abbrev pub has_all : BookValue → QueueValue → Entry → Bool
has_all book queue e = nat_le (pending_in book e.name) (free_places queue e.name)

-- the places of the endpoint of one more entry are made
pub all_more : (old new : QueueValue) (book : BookValue) (i pending : ℕ) (row : DeliveryRow)
    → Some row ≡ option_and_then (row_if_settled book.settled_seq) (slice_get book.entries i)
    → pending ≡ pending_in book row.endpoint
    → SetsState old new (reserved_state old row.endpoint pending) → list_all (has_all book old) (take i book.entries)
    ≡ true → list_all (has_all book new) (take (i + 1) book.entries) ≡ true
all_more old new book i pending row there is sets all =
    by_option (slice_get book.entries i) (λ e. absurd (grind (arith, there, e))) (λ x e.
    let named : row.endpoint ≡ x.name = grind (arith, there, e) in
    let old_ones = all_weaker (has_all book old) (has_all book new) (take i book.entries) still all in
    ap (list_all (has_all book new)) (take_next book.entries i x e)
    ∙ list_all-append (has_all book new) (take i book.entries) (x ∷ [])
    ∙ grind (arith, old_ones, here x named))
  where
    still : (e : Entry) → has_all book old e ≡ true → has_all book new e ≡ true
    still e h =
        grind (arith, nat_tests, h, places_reserved old new row.endpoint pending sets e.name)

    here : (x : Entry) → row.endpoint ≡ x.name → has_all book new x ≡ true
    here x named =
        grind (arith, nat_tests, reserved_free old new row.endpoint pending sets, is, named)

pub places_all : (queue : QueueValue) (book : BookValue) (i : ℕ) → length book.entries ≤ i
    → list_all (has_all book queue) (take i book.entries) ≡ true → HasPlaces queue book
places_all queue book i h all = λ n.
    let enough = none_or n book.entries (sym (ap (list_all (has_all book queue)) (take_all i book.entries h)) ∙ all) in
    let fewer = count_below (is_unheld queue n) (is_pending_of n) book.entries (λ e k. grind (arith, k)) in
    omega (arith, enough, fewer)
  where
    none_or : (n : List ℕ) (xs : List Entry) → list_all (has_all book queue) xs ≡ true
        → (count_by (is_unheld queue n) xs ≡ 0) ⊎ (pending_in book n ≤ free_places queue n)
    none_or n [] k = inl refl
    none_or n (x ∷ xs) k =
        let counted = sum_by-cons (λ y. cond (is_unheld queue n y) 1 0) x xs in
        let rest = none_or n xs (and_second (has_all book queue x) _ k) in
        let here =
        leb-true (pending_in book x.name) (free_places queue x.name) (and_first (has_all book queue x) _ k) in
        by_bool (bytes_eq x.name n)
        (λ e. inr (subst (λ m. pending_in book m ≤ free_places queue m) ((bytes_eq-Decides x.name n).0 e) here))
        (λ e. elim rest [
          | inl none ↦ inl (grind (arith, counted, none, e))
          | inr enough ↦ inr enough
        ])

-- Endpoints whose room was told

abbrev pub is_among : List (List ℕ) → (name : List ℕ) → Bool
is_among done name = list_any (λ m. bytes_eq m name) done

pub record AreTold (queue : QueueValue) (book : endpoint_entries.BookValue) (limiters : List Limiter)
    (done : List (List ℕ)) : Type 0 where
  pub rooms : (n : List ℕ) → has_room_in queue.states n ≡ is_among done n && room_by book limiters [] n
  pub known : (n : List ℕ) → is_among done n ≡ true → is_reserved queue n ≡ true

pub told_places : (old between new : QueueValue) (name : List ℕ) (room : Bool)
    → SetsState old between (reserved_state old name 0) → ChangesState between new name (with_room room)
    → KeepsPlaces old new
told_places old between new name room sets changes = λ n.
    grind (arith, places_reserved old between name 0 sets n, changes n)

told_more : (old between new : QueueValue) (book : endpoint_entries.BookValue) (limiters : List Limiter)
    (done : List (List ℕ)) (name : List ℕ) → SetsState old between (reserved_state old name 0)
    → ChangesState between new name (with_room (room_by book limiters [] name)) → AreTold old book limiters done
    → AreTold new book limiters (done ++ name ∷ [])
told_more old between new book limiters done name sets changes told = record {
  rooms = λ n.
      let kept = room_reserved old between name n 0 sets in
      let own = reserved_own old between name 0 sets in
      grind (arith, more n, changes n, kept, told.rooms n, bytes_eq-Decides name n, own);
  known = λ n h.
      let own = reserved_own old between name 0 sets in
      let still = is_still_reserved old between name n 0 sets in
      grind (arith, more n, h, changes n, told.known n, still, bytes_eq-Decides name n, own);
}
  where
    more : (n : List ℕ) → is_among (done ++ name ∷ []) n ≡ is_among done n || bytes_eq name n
    more n = grind (arith, list_any-append (λ m. bytes_eq m n) done (name ∷ []))

-- the names so far, and the next one of the list
pub names_next : (book : endpoint_entries.BookValue) (names : List (List ℕ)) (i : ℕ) (name : List ℕ)
    → names ≡ map (λ e. e.name) book.entries → i < length names → name ≡ get_or names i name
    → take (i + 1) (map (λ (e : EndpointEntry). e.name) book.entries) ≡ take i
    (map (λ (e : EndpointEntry). e.name) book.entries) ++ name ∷ []
names_next book names i name are within is =
    ap (take (i + 1)) (sym are) ∙ take_more names i name within ∙ (λ j. take i (are j) ++ sym is j ∷ [])

pub told_next : (old between new : QueueValue) (book : endpoint_entries.BookValue) (limiters : List Limiter)
    (names : List (List ℕ)) (i : ℕ) (name : List ℕ) (live : List Row) → live ≡ []
    → names ≡ map (λ e. e.name) book.entries → i < length names → name ≡ get_or names i name
    → SetsState old between (reserved_state old name 0)
    → ChangesState between new name (with_room (room_by book limiters live name))
    → AreTold old book limiters (take i (map (λ e. e.name) book.entries))
    → AreTold new book limiters (take (i + 1) (map (λ e. e.name) book.entries))
told_next old between new book limiters names i name live none are within is sets changes told =
    subst (λ done. AreTold new book limiters done) (sym (names_next book names i name are within is))
    (told_more old between new book limiters (take i (map (λ (e : EndpointEntry). e.name) book.entries)) name sets
    (subst (λ (rows : List Row). ChangesState between new name (with_room (room_by book limiters rows name))) none
    changes) told)

among_known : (xs : List EndpointEntry) (n : List ℕ) → is_among (map (λ (e : EndpointEntry). e.name) xs) n ≡ is_some
    (find (endpoint_entries.is_named n) xs)
among_known [] n = refl
among_known (x ∷ xs) n = grind (arith, among_known xs n)

pub marked_all : (queue : QueueValue) (book : endpoint_entries.BookValue) (limiters : List Limiter)
    → AreLimiters limiters book → AreTold queue book limiters (map (λ e. e.name) book.entries)
    → KnowsRooms queue book limiters []
marked_all queue book limiters limited told = record {
  listed = refl;
  known = λ n h. told.known n (among_known book.entries n ∙ h);
  rooms = λ n there.
      let none = no_room_unknown book limiters [] n limited in
      grind (arith, told.rooms n, among_known book.entries n, none);
}

-- Limiters

abbrev pub limiter_in : endpoint_entries.BookValue → (name : List ℕ) → Option Limiter
limiter_in book name = option_map (λ e. new_limiter name e.max) (endpoint_entries.entry_of book name)

pub limiter_is : (estimator : EstimatorValue) (name : List ℕ) (max : ℕ) → estimator.maximum ≡ max
    → StandsForSamples estimator [] → Explains estimator []
    → record { endpoint = name; estimator = estimator } ≡ new_limiter name max
limiter_is estimator name max is empty explains = λ i. record {
  endpoint = name;
  estimator = record {
    maximum = is i;
    state = record {
      limit = (empty.limit ∙ ap (λ m. limit_of m []) is) i;
      noload = (empty.noload ∙ ap (λ m. noload_of m []) is) i;
      probes = (empty.probes ∙ ap (λ m. probes_of m []) is) i;
    };
    base = record {
      limit = (explains.base.limit ∙ ap (λ m. limit_of m []) is) i;
      noload = (explains.base.noload ∙ ap (λ m. noload_of m []) is) i;
      probes = (explains.base.probes ∙ ap (λ m. probes_of m []) is) i;
    };
    last = explains.last i;
  };
}

limiters_named : (book : endpoint_entries.BookValue) (xs : List EndpointEntry)
    → map (λ (e : EndpointEntry). endpoint_entries.entry_of book e.name) xs ≡ map Some xs
    → filter_map (limiter_in book) (map (λ (e : EndpointEntry). e.name) xs) ≡ map
    (λ (e : EndpointEntry). new_limiter e.name e.max) xs
limiters_named book [] found = refl
limiters_named book (x ∷ xs) found =
    let here : endpoint_entries.entry_of book x.name ≡ Some x = cc in
    let later = limiters_named book xs (cc) in
    λ i. cons_option (option_map (λ (e : EndpointEntry). new_limiter x.name e.max) (here i)) (later i)

pub limiters_all : (book : endpoint_entries.BookValue) (i : ℕ) (limiters : List Limiter)
    → endpoint_entries.AreFound book → length (map (λ e. e.name) book.entries) ≤ i
    → limiters ≡ filter_map (limiter_in book) (take i (map (λ e. e.name) book.entries))
    → limiters ≡ map (λ e. new_limiter e.name e.max) book.entries
limiters_all book i limiters found h are =
    are ∙ ap (filter_map (limiter_in book)) (take_all i (map (λ (e : EndpointEntry). e.name) book.entries) h)
    ∙ limiters_named book book.entries found

-- the limiter of one more endpoint, or none
limiter_next : (book : endpoint_entries.BookValue) (names : List (List ℕ)) (i : ℕ) (name : List ℕ)
    (limiters : List Limiter) → names ≡ map (λ e. e.name) book.entries → i < length names → name ≡ get_or names i name
    → limiters ≡ filter_map (limiter_in book) (take i (map (λ e. e.name) book.entries))
    → filter_map (limiter_in book) (take (i + 1) (map (λ e. e.name) book.entries)) ≡ limiters ++ cons_option
    (limiter_in book name) []
limiter_next book names i name limiters are within is before =
    ap (filter_map (limiter_in book)) (names_next book names i name are within is)
    ∙ filter_map-append (limiter_in book) (take i (map (λ (e : EndpointEntry). e.name) book.entries)) (name ∷ [])
    ∙ ap (λ some. some ++ cons_option (limiter_in book name) []) (sym before)

pub limiter_more : (book : endpoint_entries.BookValue) (names : List (List ℕ)) (i : ℕ) (name : List ℕ)
    (limiters more : List Limiter) (estimator : EstimatorValue) (max : ℕ) → names ≡ map (λ e. e.name) book.entries
    → i < length names
    → name ≡ get_or names i name → limiters ≡ filter_map (limiter_in book) (take i (map (λ e. e.name) book.entries))
    → Some max ≡ option_map (λ e. e.max) (endpoint_entries.entry_of book name)
    → estimator.maximum ≡ max → StandsForSamples estimator [] → Explains estimator []
    → more ≡ limiters ++ record { endpoint = name; estimator = estimator } ∷ []
    → more ≡ filter_map (limiter_in book) (take (i + 1) (map (λ e. e.name) book.entries))
limiter_more book names i name limiters more estimator max are within is before there maximum empty explains pushed =
    let own : Some (new_limiter name max) ≡ limiter_in book name =
    by_option (entry_of book name) (λ e. grind (arith, there, e)) (λ x e. grind (arith, there, e)) in
    pushed ∙ ap (λ l. limiters ++ l ∷ []) (limiter_is estimator name max maximum empty explains)
    ∙ ap (λ o. limiters ++ cons_option o []) own
    ∙ sym (limiter_next book names i name limiters are within is before)

pub limiter_none : (book : endpoint_entries.BookValue) (names : List (List ℕ)) (i : ℕ) (name : List ℕ)
    (limiters : List Limiter) → names ≡ map (λ e. e.name) book.entries → i < length names → name ≡ get_or names i name
    → limiters ≡ filter_map (limiter_in book) (take i (map (λ e. e.name) book.entries))
    → None ≡ option_map (λ e. e.max) (endpoint_entries.entry_of book name)
    → limiters ≡ filter_map (limiter_in book) (take (i + 1) (map (λ e. e.name) book.entries))
limiter_none book names i name limiters are within is before there =
    let none : None ≡ limiter_in book name = grind (arith, there) in
    sym (append-nil limiters) ∙ ap (λ o. limiters ++ cons_option o []) none
    ∙ sym (limiter_next book names i name limiters are within is before)

pub limited_new : (limiters : List Limiter) (book : endpoint_entries.BookValue)
    → limiters ≡ map (λ e. new_limiter e.name e.max) book.entries → AreLimiters limiters book
limited_new limiters book are = ap (map bound_by) are
    ∙ map-map bound_by (λ (e : EndpointEntry). new_limiter e.name e.max) book.entries

-- none of them has seen a sample
unsampled : (name : List ℕ) (xs : List EndpointEntry)
    → StandsAt (map (λ (e : EndpointEntry). new_limiter e.name e.max) xs) name []
unsampled name [] = refl
unsampled name (x ∷ xs) = by_bool (bytes_eq x.name name)
    (λ e. rw e (record { limit = refl; noload = refl; probes = refl })) (λ e. rw e (unsampled name xs))

-- Desks

abbrev pub none_waiting : (records mark : ℕ) → WaitingValue
none_waiting records mark = record { mark = mark; settled = records; waiting = []; out = None }

pub is_desk_opened : (books : Books) (endpoints : endpoint_entries.BookValue) (deliveries : BookValue)
    (waiting : WaitingValue) (live : List Row) (limiters : List Limiter) (queue : QueueValue) (mark : ℕ)
    → endpoints ≡ books.endpoints → deliveries ≡ books.deliveries → AreSettled books → AreInStep books.endpoints
    → (books.endpoints.next_seq ≡ books.endpoints.settled_seq → books.endpoints.changes ≡ [])
    → IsInStep books.deliveries → waiting ≡ none_waiting books.records mark → live ≡ []
    → limiters ≡ map (λ e. new_limiter e.name e.max) books.endpoints.entries → AreQueued queue books.deliveries []
    → KnowsRooms queue books.endpoints limiters [] → IsDesk endpoints deliveries waiting live limiters queue
is_desk_opened books endpoints deliveries waiting live limiters queue mark same_endpoints same_deliveries settled
    endpoints_step all_settled step none nobody are queued lanes =
    let same = settled.endpoints_next ∙ sym settled.endpoints_settled in
    rw (same_endpoints, same_deliveries, none, nobody) (record {
      endpoints_staged = omega (arith, settled.endpoints_next);
      endpoints_settled = settled.endpoints_settled;
      flags_few = omega (arith, settled.no_flags, settled.endpoints_settled, settled.endpoints_next);
      endpoints_wait = changes_none (endpoint_at books.deliveries) books.endpoints endpoints_step (all_settled same)
          same;
      deliveries_staged = omega (arith, settled.deliveries_next);
      deliveries_settled = settled.deliveries_settled;
      deliveries_wait = waiting_none books.deliveries step settled.no_outcomes
          (settled.deliveries_next ∙ sym settled.deliveries_settled);
      tied = record {
        limited = limited_new limiters books.endpoints are;
        room = record { places = omega arith; numbers = omega (arith, settled.room) };
        lanes = lanes;
        queued = queued;
      };
    })

pub is_desk_new : {endpoints : endpoint_entries.BookValue} {deliveries : BookValue} {waiting : WaitingValue}
    {live : List Row} {limiters : List Limiter} {queue : QueueValue} (mark : ℕ)
    → endpoints ≡ endpoint_entries.empty_book → deliveries ≡ empty_book → waiting ≡ none_waiting 0 mark → live ≡ []
    → limiters ≡ [] → queue ≡ empty_queue → IsDesk endpoints deliveries waiting live limiters queue
is_desk_new {endpoints} {deliveries} {waiting} {live} {limiters} {queue} mark no_endpoint no_event none nobody nothing
    empty =
    rw (no_endpoint, no_event, none, nobody, nothing, empty) (record {
      endpoints_staged = omega arith;
      endpoints_settled = refl;
      flags_few = omega arith;
      endpoints_wait = changes_none (endpoint_at empty_book) endpoint_entries.empty_book
          (record { numbered = refl; caught_up = λ name. refl }) refl refl;
      deliveries_staged = omega arith;
      deliveries_settled = refl;
      deliveries_wait = waiting_none empty_book (record { numbered = refl; caught_up = tt; left = refl; ended = refl })
          refl refl;
      tied = record {
        limited = refl;
        room = record { places = omega arith; numbers = omega arith };
        lanes = record {
          listed = refl;
          known = λ name known. absurd (let wrong = known in cc);
          rooms =
              λ name reserved. absurd (let wrong = reserved in cc);
        };
        queued = record {
          apart = record { in_turn = refl; told = refl; own = refl; once = λ d. omega arith };
          under_way = record { each = refl; once = λ d. omega arith };
          held = λ pair. refl;
          places = λ name. omega arith;
        };
      };
    })

pub stands_opened : (books : Books) (waiting : WaitingValue) (live : List Row) (limiters : List Limiter) (mark : ℕ)
    → waiting ≡ none_waiting books.records mark → live ≡ []
    → limiters ≡ map (λ e. new_limiter e.name e.max) books.endpoints.entries
    → Opens books (record {
      clock = books.clock;
      endpoints = books.endpoints;
      deliveries = books.deliveries;
      waiting =
          waiting;
      halted = false;
      live = live;
      limiters = limiters;
    })
stands_opened books waiting live limiters mark none nobody limited history are =
    let all : records_of (take (length history) history) ≡ records_of history = ap records_of
    (take_all (length history) history (omega arith)) in
    let counted = sym (ap length all) in
    let of_endpoints =
    subst (λ n. endpoint_book.StandsFor books.endpoints (records_of history) n) counted are.endpoints in
    let of_deliveries =
    subst (λ n. delivery_book.StandsFor books.deliveries (records_of history) n) counted are.deliveries in
    let steps = ap (λ (w : WaitingValue). w.waiting) none ∙ sym (drop_all (length history) history (omega arith)) in
    let settled = ap (λ (w : WaitingValue). w.settled) none ∙ are.records ∙ counted in
    let out = ap (λ (w : WaitingValue). w.out) none in
    let first : length history ≤ length history = omega arith in
    let limits : (name : List ℕ) → StandsAt limiters name [] =
    λ name. subst (λ ls. StandsAt ls name []) (sym limited) (unsampled name books.endpoints.entries) in
    assumption (of_endpoints, of_deliveries, are.endpoints.legal, steps, settled, out, first, nobody, limits)
