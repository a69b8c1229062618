use Rattle.std.proofs.Common.{length, ap, arith}
use Rattle.std.specs.Prelude.{count_by}
use Rattle.relay_types.specs.declared.state.State.TheVariants.{Pending}
use Rattle.delivery_book.specs.Entries.{BookValue}
use Rattle.delivery_book.specs.Fields.{in_state, may_wait}
use Rattle.delivery_book.proofs.Turns.{places_enough, places_few, waiting_may}
use Rattle.delivery_book.proofs.book.DeliveryBook.places.Goals as goal

pub overflow_add-result : goal.overflow_add-result
overflow_add-result c =
    let b = c.self.inside in
    let is = c.self.invariant in
    omega (
      arith,
      ap (in_state Pending) c.all-pending.ensures,
      places_few b.settled_tally b.entries.items b.settled_entries is.settled is.keyed.settled_within,
      is.keyed.settled_within,
      c.len.ensures,
    )

pub returns : goal.returns
returns c =
    let b = c.self.inside in
    let is = c.self.invariant in
    let all = ap (in_state Pending) c.all-pending.ensures in
    let enough = places_enough b.settled_tally b.entries.items b.settled_entries is.settled is.keyed.settled_within in
    let few = places_few b.settled_tally b.entries.items b.settled_entries is.settled is.keyed.settled_within in
    record {
      enough = omega (
        arith,
        all,
        enough,
        few,
        c.len.ensures,
        ap (λ (v : BookValue). count_by may_wait v.entries) c.self.view_is,
      );
      held = omega (
        arith,
        all,
        enough,
        few,
        c.len.ensures,
        is.queue.counted,
        waiting_may b.entries.items is.queue.in_turn,
        ap (λ (v : BookValue). length v.unsettled) c.self.view_is,
      );
      few = omega (
        arith,
        all,
        few,
        is.keyed.settled_within,
        c.len.ensures,
        ap (λ (v : BookValue). length v.entries) c.self.view_is,
      );
    }
