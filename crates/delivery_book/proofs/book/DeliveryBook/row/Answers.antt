use Rattle.std.proofs.Common.{◌≡◌, ◌≤◌, ◌+◌, ℕ, Bool, true, false, Some, None, ◌∙◌, ap, arith, cond, sym, subst}
use Rattle.std.specs.Prelude.{IfSome}
use Rattle.relay_types.specs.declared.limits.TheConstants.{MAX_RECORDS}
use Rattle.delivery_book.specs.Entries.{BookValue, IsInStep, entry_at, is_kept, latest_row, row_in}
use Rattle.delivery_book.specs.declared.row.Row.{Row}
use Rattle.delivery_book.specs.Fields.{is_numbered}
use Rattle.delivery_book.proofs.Books.{below}
use Rattle.delivery_book.proofs.InStep.{in_step}
use Rattle.delivery_book.proofs.Entries.{found_passes, latest_is}
use Rattle.delivery_book.proofs.Tellings.{stands_row}
use Rattle.delivery_book.proofs.book.DeliveryBook.row.Goals as goal

few_if : (b : Bool) (row : Row) (most : ℕ) → row.attempts ≤ most
    → IfSome (cond b (Some row) None) (λ r. r.attempts ≤ most)
few_if true row most h = h
few_if false row most h = tt

pub returns-in-Some : goal.returns-in-Some
returns-in-Some c =
    let d = c.args.delivery in
    let es = c.self.inside.entries.items in
    let e = c.in-Some.entry.now in
    let next = c.self.inside.next_seq in
    let found : Some e ≡ entry_at es d = c.in-Some.ensures ∙ ap (λ some. entry_at some d) c.deref.ensures.value in
    let value : c.latest_row.result ≡ latest_row c.args.self.now d =
    c.latest_row.ensures ∙ latest_is es d (Some e) c.self.invariant.keyed.ascending found
    ∙ ap (λ b. latest_row b d) c.self.view_is in
    let few = below next e (found_passes (is_numbered next) es d e c.self.invariant.keyed.numbered (sym found)) in
    let step : IsInStep c.args.self.now = subst (λ (v : BookValue). IsInStep v) c.self.view_is
    (in_step c.self.inside.entries.items c.self.inside.unsettled.items
    c.self.inside.next_seq c.self.inside.settled_seq c.self.invariant.keyed.numbered c.self.invariant.queue.caught_up
    c.self.invariant.queue.later c.self.invariant.marks.taken) in
    record {
      value = value;
      in_step = step;
      few = subst (λ row. IfSome row (λ r. r.attempts ≤ c.args.self.now.next_seq + MAX_RECORDS))
          (sym c.latest_row.ensures)
          (few_if (is_kept e) (row_in e.latest e) _ (omega (arith, few.1, ap (λ b. b.next_seq) c.self.view_is)));
      stands = λ records settled h. value ∙ stands_row c.args.self.now records settled d h;
    }

pub returns-in-None : goal.returns-in-None
returns-in-None c =
    let d = c.args.delivery in
    let es = c.self.inside.entries.items in
    let value : None ≡ latest_row c.args.self.now d =
    latest_is es d None c.self.invariant.keyed.ascending
    (c.in-None.ensures ∙ ap (λ some. entry_at some d) c.deref.ensures.value)
    ∙ ap (λ b. latest_row b d) c.self.view_is in
    let step : IsInStep c.args.self.now = subst (λ (v : BookValue). IsInStep v) c.self.view_is
    (in_step c.self.inside.entries.items c.self.inside.unsettled.items
    c.self.inside.next_seq c.self.inside.settled_seq c.self.invariant.keyed.numbered c.self.invariant.queue.caught_up
    c.self.invariant.queue.later c.self.invariant.marks.taken) in
    record {
      value = value;
      in_step = step;
      few = tt;
      stands = λ records settled h. value
          ∙ stands_row c.args.self.now records settled d h;
    }
