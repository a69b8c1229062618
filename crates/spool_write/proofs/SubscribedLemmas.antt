-- Whether an endpoint may be subscribed to a topic, as the tables tell.
use Rattle.std.proofs.Common.{◌≡◌, ℕ, Bool, true, false, List, [], ◌∷◌, length, map, Some, None, refl, sym}
use Rattle.std.proofs.Common.{ap, ◌∙◌, arith}
use Rattle.std.specs.Prelude.{◌&&◌, ◌||◌, nat_lt, find, is_some, bytes_eq, if◌then◌else◌}
use Rattle.std.specs.List.{list_any}
use Rattle.std.proofs.lemmas.List.{length-map}
use Rattle.relay_types.specs.declared.limits.TheConstants.{MAX_SUBSCRIPTIONS}
use Rattle.relay_types.specs.declared.record.Record.{Record}
use Rattle.relay_types.specs.Endpoints.{has_endpoint}
use Rattle.relay_types.specs.Legal.{IsLegal}
use Rattle.relay_types.specs.Rows.{is_pair_row, put_of, rows_of, topic_row}
use Rattle.relay_types.specs.Subscriptions.{Subscription, is_pair_named, subscriptions}
use Rattle.relay_types.proofs.KnownLaws.{legal_known}
use Rattle.relay_types.proofs.SubscriptionLaws.{is_for, named-told}
use Rattle.relay_types.proofs.TopicLaws.{AllThere, all_there, names_by_put}
use Rattle.spool_sql.specs.Stored.{IsPutOf, has_pair}
use Rattle.spool_write.specs.Entering.{subscribing}
use Rattle.spool_write.proofs.ChangeLemmas.{known_endpoint, unknown_endpoint}

module _ (records : List Record) (legal : IsLegal records) (topic name : List ℕ) where
  any_pair : (ss : List Subscription) → has_endpoint records name ≡ true → AllThere records ss
      → list_any (is_pair_row topic (put_of records name)) (map (topic_row records) ss)
      ≡ is_some (find (is_for topic name) ss)
  any_pair [] has there = refl
  any_pair (s ∷ ss) has there =
      ap (λ b. (bytes_eq s.topic topic && b)
      || list_any (is_pair_row topic (put_of records name)) (map (topic_row records) ss))
      (sym (names_by_put records name s.name legal has there.0))
      ∙ at (is_for topic name s) (any_pair ss has there.1)
    where
      at : (b : Bool)
          → list_any (is_pair_row topic (put_of records name)) (map (topic_row records) ss)
          ≡ is_some (find (is_for topic name) ss)
          → b || list_any (is_pair_row topic (put_of records name)) (map (topic_row records) ss)
          ≡ is_some (if b then Some s else find (is_for topic name) ss)
      at true more = refl
      at false more = more

  pair_is : has_endpoint records name ≡ true
      → has_pair (rows_of records) topic (put_of records name) ≡ is_pair_named records topic name
  pair_is has = any_pair (subscriptions records) has (all_there records (legal_known records legal))
      ∙ sym (named-told records topic name)

  told_as : (named free : Bool) → is_pair_named records topic name ≡ named
      → nat_lt (length (subscriptions records)) MAX_SUBSCRIPTIONS ≡ free → has_endpoint records name ≡ true
      → (if named || free then Some (put_of records name) else None) ≡ subscribing records topic name
  told_as named free is room has =
      λ i. if sym has i && (sym is i || sym room i) then Some (put_of records name) else None

  -- no endpoint has the name
  pub unknown_told : IsPutOf name (rows_of records) None → None ≡ subscribing records topic name
  unknown_told h =
      λ i. if unknown_endpoint records name h i
      && (is_pair_named records topic name || nat_lt (length (subscriptions records)) MAX_SUBSCRIPTIONS)
      then Some (put_of records name) else None

  named_by : (put : ℕ) (b : Bool) → put ≡ put_of records name → b ≡ has_pair (rows_of records) topic put
      → has_endpoint records name ≡ true → is_pair_named records topic name ≡ b
  named_by put b is pair has =
      sym (pair ∙ ap (has_pair (rows_of records) topic) is ∙ pair_is has)

  some_told : (put : ℕ) → put ≡ put_of records name → Some (put_of records name) ≡ subscribing records topic name
      → Some put ≡ subscribing records topic name
  some_told put is h = ap Some is ∙ h

  -- the pair is named
  pub named_told : (put : ℕ) → IsPutOf name (rows_of records) (Some put)
      → true ≡ has_pair (rows_of records) topic put → Some put ≡ subscribing records topic name
  named_told put found pair =
      let known = known_endpoint records name put legal found in
      some_told put known.1 (told_as true (nat_lt (length (subscriptions records)) MAX_SUBSCRIPTIONS)
      (named_by put true known.1 pair (sym known.0)) refl (sym known.0))

  -- it isn't, and there is room for one more, or not
  pub counted_told : (put count : ℕ) → IsPutOf name (rows_of records) (Some put)
      → false ≡ has_pair (rows_of records) topic put → count ≡ length (rows_of records).topics
      → (if nat_lt count MAX_SUBSCRIPTIONS then Some put else None) ≡ subscribing records topic name
  counted_told put count found pair counted =
      let known = known_endpoint records name put legal found in
      let is : length (subscriptions records) ≡ count =
      omega (arith, counted, length-map (subscriptions records) (topic_row records)) in
      ap (λ p. if nat_lt count MAX_SUBSCRIPTIONS then Some p else None) known.1
      ∙ told_as false (nat_lt count MAX_SUBSCRIPTIONS) (named_by put false known.1 pair (sym known.0))
      (ap (λ n. nat_lt n MAX_SUBSCRIPTIONS) is) (sym known.0)
