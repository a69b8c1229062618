-- The names that the proofs of the desk cite, passed on from one place. Declares nothing.
pub use Rattle.std.proofs.Common.{Bool, Err, IsPermutation, IsTrue, List, None, Ok, Option, Some, [], add-zero, ap}
pub use Rattle.std.proofs.Common.{append-nil, append_assoc, arith, cond, drop, eqb, false, get_or, inl, inr, length}
pub use Rattle.std.proofs.Common.{length-append, map, max, nat_le, not, refl, rules, slice_index_or, slice_set, subst}
pub use Rattle.std.proofs.Common.{suc, sym, take, true, vec_capacity, vec_len, zero, ℕ, ◌&&◌, ◌++◌, ◌+◌, ◌-◌, ◌<◌, ◌||◌}
pub use Rattle.std.proofs.Common.{◌↔◌, ◌∙◌, ◌∷◌, ◌≡◌, ◌≤◌, ◌⊎◌}
pub use Rattle.std.proofs.Math.Seq.{drop-append_seam, map-set_same, take-add, take-append_seam}
pub use Rattle.std.proofs.lemmas.Bool.{cond_both, eq-eqb, eqb-true, le-leb, le-ltb, leb-false, leb-true, lt-ltb}
pub use Rattle.std.proofs.lemmas.Bool.{ltb-true, ne_eqb}
pub use Rattle.std.proofs.lemmas.Bool.Decides.{nat_tests}
pub use Rattle.std.proofs.lemmas.List.{at_drop_more, drop-append-le, drop-take, drop_all, length-drop, length-map}
pub use Rattle.std.proofs.lemmas.List.{length-take, map-append, take-append-drop, take-append-le, take_all, take_more}
pub use Rattle.std.proofs.lemmas.List.Folds.{find-append, find-set, find_at, find_past, list_all-append}
pub use Rattle.std.proofs.lemmas.List.Folds.{list_any-append, list_any_at}
pub use Rattle.std.proofs.lemmas.List.Quantifiers.{position-Some}
pub use Rattle.std.proofs.lemmas.List.Sums.{sum_by-append, sum_by-cons, sum_by-remove, sum_by_push}
pub use Rattle.std.proofs.lemmas.Option.{same_Some, slice_get-get_or, slice_get_past, slice_get_within}
pub use Rattle.std.proofs.lemmas.Simd.{map-map}
pub use Rattle.std.proofs.lemmas.Slice.Eq.{bytes_eq-Decides}
pub use Rattle.std.specs.List.{AllByRecursion, cons_option, enumerate_from, list_all, list_any, position_or_len}
pub use Rattle.std.specs.Option.{option_map_or, option_or}
pub use Rattle.std.specs.Prelude.{IfNone, IfOk, IfSome, IsErr, IsOk, IsSome, IsSomeAnd, OnErr, OnOk, Result, bytes_eq}
pub use Rattle.std.specs.Prelude.{count_by, filter, filter_map, find, if◌then◌else◌, is_some, nat_eq, nat_lt}
pub use Rattle.std.specs.Prelude.{option_and_then, option_map, position, remove, slice_get, sum_by, unwrap_or}
pub use Rattle.relay_types.proofs.KnownLaws.{AllKnown, and_both, and_first, and_second, below_if_accepted, legal_known}
pub use Rattle.relay_types.proofs.KnownLaws.{legal_more}
pub use Rattle.relay_types.proofs.RowLaws.{find_map}
pub use Rattle.relay_types.specs.Deliveries.{accepted, attempts_of, deliveries, deliveries_of, due_after}
pub use Rattle.relay_types.specs.Deliveries.{due_if_pending, due_of, failures_of, is_accept, is_accept_as, is_accept_of}
pub use Rattle.relay_types.proofs.GrowthLaws.{accepted-before}
pub use Rattle.relay_types.proofs.KnownLaws.{there_if as there_if_kept}
pub use Rattle.relay_types.proofs.PurgeLaws.{accepted_is, unpurged_front, unpurged_if}
pub use Rattle.relay_types.specs.Deliveries.{accept_at, is_in_state, is_pending, is_purged, known_as, purged_by}
pub use Rattle.relay_types.specs.Deliveries.{state_of}
pub use Rattle.relay_types.specs.Endpoints.{Endpoint, endpoint_of, endpoints, has_endpoint, is_delivery_of, secrets_of}
pub use Rattle.relay_types.specs.Judging.{is_gone_status}
pub use Rattle.relay_types.specs.Legal.{IsLegal, is_status, is_within_limits, may_follow}
pub use Rattle.relay_types.specs.Records.{Accepted, Attempt, History, accepted_by, records_of}
pub use Rattle.relay_types.specs.Subscriptions.{is_pair_named, subscriptions}
pub use Rattle.relay_types.specs.Values.{is_moment}
pub use Rattle.relay_types.specs.declared.limits.TheConstants.{MAX_ENDPOINTS, MAX_RECORDS, MAX_SUBSCRIPTIONS}
pub use Rattle.relay_types.specs.declared.record.Record.{Record}
pub use Rattle.relay_types.specs.declared.record.Record.TheVariants.{Accept, Enabled, Outcome, Purge, Put, Secrets}
pub use Rattle.relay_types.specs.declared.record.Record.TheVariants.{Subscribed}
pub use Rattle.relay_types.specs.declared.state.State.TheVariants.{Exhausted, Pending}
pub use Rattle.vegas.specs.Estimators.{EstimatorValue, Explains, StandsFor as StandsForSamples, sample_of}
pub use Rattle.vegas.specs.declared.sample.Sample.{Sample}
pub use Rattle.endpoint_book.proofs.Laws.{stands-other}
pub use Rattle.endpoint_book.proofs.Waiting.{AreNamedAlike, changes_enabled, changes_gone, changes_named, changes_none}
pub use Rattle.endpoint_book.proofs.Waiting.{changes_other, changes_put, changes_secrets, changes_settled}
pub use Rattle.endpoint_book.proofs.Waiting.{changes_topic}
pub use Rattle.endpoint_book.specs.Book.{Stages, View, enabled_in, secrets_if_known, view_by, view_of}
pub use Rattle.endpoint_book.specs.Entries.{change_at, entry_of, flags_in, is_flag, is_known, is_named, with_flag}
pub use Rattle.endpoint_book.specs.Topics.{flag_of, has_place as has_place_for}
pub use Rattle.endpoint_book.specs.Waiting.{IsInStep as AreInStep, HasChanges}
pub use Rattle.endpoint_book.specs.declared.entry.Change.{Change}
pub use Rattle.endpoint_book.specs.declared.entry.Entry.{Entry as EndpointEntry}
pub use Rattle.delivery_book.proofs.Updates.{all_at, all_weaker, count-map}
pub use Rattle.delivery_book.specs.Book.{Settles, Takes, body_left, body_of, counts_of, counts_of_all, entry_for}
pub use Rattle.delivery_book.specs.Book.{is_other, row_of}
pub use Rattle.delivery_book.specs.Entries.{BookValue, HasOneEach, IsInStep, at_delivery, at_outcomes, empty_book}
pub use Rattle.delivery_book.specs.Entries.{entry_at, failed_among, first_outcome, front_below, is_delivered_among}
pub use Rattle.delivery_book.specs.Entries.{is_entry_as, is_kept, is_open, is_pending_of, is_settled_as, kept_at}
pub use Rattle.delivery_book.specs.Entries.{known_in}
pub use Rattle.delivery_book.specs.Entries.{known_settled_in, latest_row, marked, new_entry, with_purge}
pub use Rattle.delivery_book.specs.Entries.{next_settled, pending_in, progress_after, rest_from, row_in, settled_row}
pub use Rattle.delivery_book.specs.Entries.{state_by, state_in, takes_outcome, with_attempt, with_event}
pub use Rattle.delivery_book.specs.Entries.{with_latest_settled, with_outcome, with_settled}
pub use Rattle.delivery_book.specs.Waiting.{AreTries, HasWaiting}
pub use Rattle.delivery_book.specs.declared.entry.Entry.{Entry}
pub use Rattle.delivery_book.specs.declared.entry.Unsettled.{Unsettled}
pub use Rattle.delivery_book.specs.declared.row.Row.{Row as BookRow, Row as DeliveryRow}
pub use Rattle.spool.specs.Batches.{BatchValue, DoubtValue, doubt_of, upto_of}
pub use Rattle.spool.specs.declared.load.Books.{Books}
pub use Rattle.group_commit.proofs.StepLaws.{count_by_snoc, drop_drop, length-records_of, length-records_of-split}
pub use Rattle.group_commit.specs.Steps.{is_outcome, outcomes_in, requests_in}
pub use Rattle.group_commit.specs.Waits.{WaitingValue, batch_of, record_count, sealed_count, with_batch_out}
pub use Rattle.group_commit.specs.Waits.{with_nothing_out, with_step}
pub use Rattle.group_commit.specs.declared.limits.TheConstants.{MAX_WAITING_OUTCOMES, MAX_WAITING_REQUESTS}
pub use Rattle.permits.specs.Rows.{in_flight_of, is_out, next_row, same_row}
pub use Rattle.permits.specs.declared.row.Row.{Row}
pub use Rattle.claim_queue.specs.Queues.{ChangesState, HasSamePairs, IsNew, IsNext, NothingIsReady, QueueValue}
pub use Rattle.claim_queue.specs.Queues.{SetsState}
pub use Rattle.claim_queue.specs.Queues.{empty_queue, free_places, has_room_in, is_held, is_ready, is_reserved}
pub use Rattle.claim_queue.specs.Queues.{lane_state_in}
pub use Rattle.claim_queue.specs.Queues.{lane_state_of, pair_of, reserved_state, same_pair, with_room}
pub use Rattle.claim_queue.specs.declared.pairs.Pair.{Pair}
pub use Rattle.desk.proofs.Cases.{by_bool, by_option}
pub use Rattle.desk.specs.Claims.{JobValue, choice, claim, claim_chosen, claimables, has_place as has_place_in}
pub use Rattle.desk.specs.Claims.{has_room, has_row, is_claimable, is_exhausted, is_live, job_of, least_by, limit_in}
pub use Rattle.desk.specs.Claims.{limits, next_attempt, rests, sample_by, sampled, samples_of, spent_by, starts}
pub use Rattle.desk.specs.Claims.{SpentValue, status_of, target_in, waits, with_attempt_over, without_row}
pub use Rattle.desk.specs.Comparing.{SameEndpoint, SameEvent}
pub use Rattle.desk.specs.Desks.{AreBooks, AreLimits, ArePlacesOf, Checks, DeskValue, HasOutcome, IsCore, IsDesk}
pub use Rattle.desk.specs.Desks.{IsHeldOf, IsMove, IsPostOf, IsReceiptOf, Opens, OverWorlds, Spends, StandsFor, Starts}
pub use Rattle.desk.specs.Desks.{TakesOutcome, Turns, attempt_in, has_place, is_exhausted_in, may_start, may_start_at}
pub use Rattle.desk.specs.Desks.{with_accept, with_enabled, with_entry, with_gone, with_live, with_put, with_secrets}
pub use Rattle.desk.specs.Desks.{with_purged, with_subscribed}
pub use Rattle.desk.specs.Faults.{Faults, first_fault, out_of_memory_at, refusal}
pub use Rattle.desk.specs.OwnBooks.{AreTold, endpoint_in, endpoint_page, event_in, event_page, limits_by, shown_with}
pub use Rattle.desk.specs.OwnBooks.{totals, totals_in}
pub use Rattle.desk.specs.Queries.{has_event, is_event_of, is_row_of}
pub use Rattle.desk.specs.Moves.{Answer, MayGive, accepts, are_pairs_spent, are_seqs_spent, at_moment, change, changes}
pub use Rattle.desk.specs.Moves.{is_nothing_out}
pub use Rattle.desk.specs.Moves.{is_waiting_full, moment, new_submit_faults, next_seq, or_out_of_memory, pending_among}
pub use Rattle.desk.specs.Moves.{purge_faults, put_faults, refused, repeats, seal, seal_faults, seal_waiting}
pub use Rattle.desk.specs.Moves.{sealed_batch}
pub use Rattle.desk.specs.Moves.{set_faults, stages, submit, subscribe_faults, submit_faults, submit_known, submit_new}
pub use Rattle.desk.specs.Moves.{ticket, unless}
pub use Rattle.desk.specs.Moves.{with_batch, with_batch_back, with_halt, with_record, with_sealed_settled}
pub use Rattle.desk.specs.Ties.{AreApart, AreHeld, AreLimiters, KnowsRooms, AreQueued, AreSampled, AreTied, AreUnderWay}
pub use Rattle.desk.specs.Ties.{HasPlaces, HasRoomForAll, HasSameNames, HasSameRooms, Holds, HoldsPair, KeepsPlaces}
pub use Rattle.desk.specs.Ties.{KeepsRooms}
pub use Rattle.desk.specs.Ties.{LetsGo, LetsPairGo, StandsAt, StandsBy, bound_by, bound_of, endpoint_at, idle_pair}
pub use Rattle.desk.specs.Ties.{is_entry_of, is_idle, is_limiter_of, is_own, is_pair_of, is_told, is_under_way}
pub use Rattle.desk.specs.Ties.{is_unheld, limit_by, limiter_of, new_limiter, own_pair, pair_in, rises, room_by}
pub use Rattle.desk.specs.Ties.{row_if_settled, samples_at, waits_as}
pub use Rattle.desk.specs.World.{EndpointSample, World, all_records, sealed_records, settled_records, waiting_records}
pub use Rattle.desk.specs.declared.limiter.Limiter.{Limiter}
pub use Rattle.desk.specs.declared.refusal.Refusal.{Refusal}
