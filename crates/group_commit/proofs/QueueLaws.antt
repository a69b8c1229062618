-- What pushing and popping make of a queue's fields.
use Rattle.std.proofs.Common.{◌≡◌, ℕ, ◌+◌, ◌-◌, ◌<◌, ◌≤◌, ◌⊎◌, inl, inr, true, false, List, [], ◌∷◌, ◌++◌, length, sym}
use Rattle.std.proofs.Common.{subst, ◌∙◌, arith, length-append}
use Rattle.std.specs.Prelude.{IsTrue}
use Rattle.std.specs.List.{AllByRecursion}
use Rattle.relay_types.specs.declared.limits.TheConstants.{MAX_STEP_RECORDS}
use Rattle.relay_types.specs.declared.record.Record.{Record}
use Rattle.relay_types.specs.Records.{History, records_of}
use Rattle.group_commit.specs.declared.limits.TheConstants.{MAX_WAITING_REQUESTS, MAX_WAITING_OUTCOMES}
use Rattle.group_commit.specs.Steps.{is_request, is_outcome, requests_in, outcomes_in, IsPlaced, IsQueue}
use Rattle.group_commit.proofs.StepLaws.{requests_append, outcomes_append, request_counts, outcome_counts, counts_first}
use Rattle.group_commit.proofs.StepLaws.{records_count, placed_more}

placed_some : (step : List Record) → IsPlaced step → 0 < length step
placed_some step (inl request, most) = (request_counts step request).2
placed_some step (inr outcome, most) = omega (arith, (outcome_counts step outcome).2)

-- no more steps than records
few_steps : (steps : History) → AllByRecursion IsPlaced steps → length steps ≤ length (records_of steps)
few_steps [] h = omega arith
few_steps (x ∷ xs) h = omega (arith, few_steps xs h.1, placed_some x h.0, length-append x (records_of xs))

few : (steps : History) → AllByRecursion IsPlaced steps → length steps ≤ requests_in steps + outcomes_in steps
few steps h = omega (arith, few_steps steps h, records_count steps)

module _ (requests outcomes len capacity after kept : ℕ) where
  pub request_more : (steps items : History) (step : List Record) (n : ℕ) → IsQueue requests outcomes len capacity steps
      → IsTrue (is_request step) → length step ≤ MAX_STEP_RECORDS
      → requests_in steps + length step ≤ MAX_WAITING_REQUESTS → n ≡ length step → items ≡ steps ++ step ∷ []
      → after ≡ len + 1 → capacity ≤ kept → IsQueue (requests + n) outcomes after kept items
  request_more steps items step n h is most place same are more room =
      let counts = request_counts step is in
      subst (IsQueue (requests + n) outcomes after kept) (sym are) (record {
        counts_requests = omega (arith, h.counts_requests, requests_append steps step, counts.0, same);
        counts_outcomes = omega (arith, h.counts_outcomes, outcomes_append steps step, counts.1);
        placed = placed_more steps step h.placed (inl is, most);
        count = omega (arith, h.count, more, length-append steps (step ∷ []));
        all = omega (arith, h.all, more, same, counts.2);
        most_requests = omega (arith, h.counts_requests, place, same);
        most_outcomes = h.most_outcomes;
        places = omega (arith, h.places, room);
      })

  pub outcome_more : (steps items : History) (step : List Record) → IsQueue requests outcomes len capacity steps
      → IsTrue (is_outcome step) → outcomes_in steps < MAX_WAITING_OUTCOMES
      → items ≡ steps ++ step ∷ [] → after ≡ len + 1 → capacity ≤ kept
      → IsQueue requests (outcomes + 1) after kept items
  outcome_more steps items step h is place are more room =
      let counts = outcome_counts step is in
      subst (IsQueue requests (outcomes + 1) after kept) (sym are) (record {
        counts_requests = omega (arith, h.counts_requests, requests_append steps step, counts.0);
        counts_outcomes = omega (arith, h.counts_outcomes, outcomes_append steps step, counts.1);
        placed = placed_more steps step h.placed (inr is, omega (arith, counts.2));
        count = omega (arith, h.count, more, length-append steps (step ∷ []));
        all = omega (arith, h.all, more);
        most_requests = h.most_requests;
        most_outcomes = omega (arith, h.counts_outcomes, place);
        places = omega (arith, h.places, room);
      })

  pub outcome_gone : (x : List Record) (xs : History) → IsQueue requests outcomes len capacity (x ∷ xs) → is_outcome x
      ≡ true → after + 1 ≡ len → capacity ≤ kept → IsQueue requests (outcomes - 1) after kept xs
  outcome_gone x xs h is less room =
      let counts = outcome_counts x is in
      let first = counts_first x xs in
      record {
        counts_requests = omega (arith, h.counts_requests, first.0, counts.0);
        counts_outcomes = omega (arith, h.counts_outcomes, first.1, counts.1);
        placed = h.placed.1;
        count = omega (arith, h.count, less);
        all = omega (arith, h.all, less, h.counts_outcomes, first.1, counts.1);
        most_requests = h.most_requests;
        most_outcomes = omega (arith, h.most_outcomes);
        places = omega (arith, h.places, room);
      }

  no_request : (x : List Record) → is_outcome x ≡ false → IsTrue (is_request x) ⊎ IsTrue (is_outcome x)
      → IsTrue (is_request x)
  no_request x is (inl request) = request
  no_request x is (inr outcome) = absurd (let clash : false ≡ true = sym is ∙ outcome in cc)

  pub request_fits : (x : List Record) (xs : History) (n : ℕ) → IsQueue requests outcomes len capacity (x ∷ xs)
      → is_outcome x ≡ false → n ≡ length x → n ≤ requests
  request_fits x xs n h is same =
      let counts = request_counts x (no_request x is h.placed.0.0) in
      omega (arith, h.counts_requests, (counts_first x xs).0, counts.0, same)

  pub request_gone : (x : List Record) (xs : History) (n : ℕ) → IsQueue requests outcomes len capacity (x ∷ xs)
      → is_outcome x ≡ false → n ≡ length x → after + 1 ≡ len → capacity ≤ kept
      → IsQueue (requests - n) outcomes after kept xs
  request_gone x xs n h is same less room =
      let counts = request_counts x (no_request x is h.placed.0.0) in
      let first = counts_first x xs in
      record {
        counts_requests = omega (arith, h.counts_requests, first.0, counts.0, same);
        counts_outcomes = omega (arith, h.counts_outcomes, first.1, counts.1);
        placed = h.placed.1;
        count = omega (arith, h.count, less);
        all = omega (
          arith,
          h.count,
          less,
          few xs h.placed.1,
          h.counts_requests,
          h.counts_outcomes,
          first.0,
          first.1,
          counts.0,
          counts.1,
          same,
        );
        most_requests = omega (arith, h.most_requests);
        most_outcomes = h.most_outcomes;
        places = omega (arith, h.places, room);
      }
