use Rattle.std.specs.List.{AllPairs}
use Rattle.std.proofs.Common.{◌≡◌, ◌≢◌, ◌++◌, ◌∙◌, ap, arith, map, subst, sym}
use Rattle.endpoint_book.specs.Entries.{AreFound, BookValue}
use Rattle.endpoint_book.specs.Waiting.{IsInStep}
use Rattle.endpoint_book.specs.Fields.{entry_in}
use Rattle.endpoint_book.proofs.Names.{found_each, named}
use Rattle.endpoint_book.proofs.Histories.{names-told}
use Rattle.endpoint_book.proofs.book.EndpointBook.names.Goals as goal

pub returns-clause-value : goal.returns-clause-value
returns-clause-value c =
    let b = c.self.inside in
    c.as_slice.ensures.value
    ∙ sym (named (entry_in b.entries) b.names.items c.self.invariant.are_names)
    ∙ ap (λ v. map (λ e. e.name) v.entries) c.self.view_is

pub returns-clause-apart : goal.returns-clause-apart
returns-clause-apart c =
    subst (AllPairs (λ a b. a ≢ b)) (sym c.as_slice.ensures.value) c.self.invariant.apart

pub returns-clause-found : goal.returns-clause-found
returns-clause-found c =
    subst (λ (v : BookValue). AreFound v) c.self.view_is
    (found_each (entry_in c.self.inside.entries) c.self.inside.names.items c.self.invariant.are_names)

pub returns-clause-stands : goal.returns-clause-stands
returns-clause-stands c = λ records settled h. returns-clause-value c ∙ names-told c.args.self.now records h.tells

pub returns-clause-in_step : goal.returns-clause-in_step
returns-clause-in_step c = subst IsInStep c.self.view_is (c.self.invariant.in_step c.self.inside.topics)

pub returns-clause-all_settled : goal.returns-clause-all_settled
returns-clause-all_settled c = λ same.
    let b = c.self.inside in
    let all : b.next_seq ≡ b.settled_seq = ap (λ (v : BookValue). v.next_seq) c.self.view_is ∙ same
    ∙ sym (ap (λ (v : BookValue). v.settled_seq) c.self.view_is) in
    sym (ap (λ (v : BookValue). v.changes) c.self.view_is)
    ∙ c.self.invariant.are_changes.parted b.settled_seq
    ∙ λ i. c.self.invariant.are_changes.waiting i ++ c.self.invariant.are_changes.below_next b.settled_seq
    (omega (arith, all)) i
