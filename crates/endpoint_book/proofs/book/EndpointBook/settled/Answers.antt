use Rattle.std.proofs.Common.{◌∙◌, ◌≡◌, [], ap, sym, subst}
use Rattle.std.specs.Prelude.{option_map, option_and_then, filter}
use Rattle.endpoint_book.specs.declared.entry.Entry.{Entry}
use Rattle.endpoint_book.specs.Entries.{is_below}
use Rattle.endpoint_book.specs.Book.{view_by}
use Rattle.endpoint_book.proofs.Books.{entry-value}
use Rattle.endpoint_book.proofs.Laws.{settled-told}
use Rattle.endpoint_book.proofs.book.EndpointBook.settled.Goals as goal

pub returns-in-Some-settled-clause-value : goal.returns-in-Some-settled-clause-value
returns-in-Some-settled-clause-value c =
    let b = c.self.inside in
    ap (λ s. option_map (view_by c.in-Some.entry.now) s) (sym c.in-Some-settled.is)
    ∙ ap (option_and_then (λ (e : Entry). option_map (view_by e) e.settled))
    (c.in-Some.ensures ∙ entry-value c.args.self.now b.entries b.names.items b.topics b.changes.items b.next_seq
    b.settled_seq c.args.name c.self.invariant.are_names c.self.view_is)

pub returns-in-Some-settled-clause-stands : goal.returns-in-Some-settled-clause-stands
returns-in-Some-settled-clause-stands c = λ records settled h.
    returns-in-Some-settled-clause-value c
    ∙ settled-told c.args.self.now records settled c.args.name h
    (subst (λ v. filter (is_below v.settled_seq) v.changes ≡ []) c.self.view_is
    c.self.invariant.are_changes.waiting)

pub returns-in-None-settled-clause-value : goal.returns-in-None-settled-clause-value
returns-in-None-settled-clause-value c =
    let b = c.self.inside in
    ap (λ s. option_map (view_by c.in-Some.entry.now) s) (sym c.in-None-settled.is)
    ∙ ap (option_and_then (λ (e : Entry). option_map (view_by e) e.settled))
    (c.in-Some.ensures ∙ entry-value c.args.self.now b.entries b.names.items b.topics b.changes.items b.next_seq
    b.settled_seq c.args.name c.self.invariant.are_names c.self.view_is)

pub returns-in-None-settled-clause-stands : goal.returns-in-None-settled-clause-stands
returns-in-None-settled-clause-stands c = λ records settled h.
    returns-in-None-settled-clause-value c
    ∙ settled-told c.args.self.now records settled c.args.name h
    (subst (λ v. filter (is_below v.settled_seq) v.changes ≡ []) c.self.view_is
    c.self.invariant.are_changes.waiting)

pub returns-in-None-clause-value : goal.returns-in-None-clause-value
returns-in-None-clause-value c =
    let b = c.self.inside in
    ap (option_and_then (λ (e : Entry). option_map (view_by e) e.settled))
    (c.in-None.ensures ∙ entry-value c.args.self.now b.entries b.names.items b.topics b.changes.items b.next_seq
    b.settled_seq c.args.name c.self.invariant.are_names c.self.view_is)

pub returns-in-None-clause-stands : goal.returns-in-None-clause-stands
returns-in-None-clause-stands c = λ records settled h.
    returns-in-None-clause-value c
    ∙ settled-told c.args.self.now records settled c.args.name h
    (subst (λ v. filter (is_below v.settled_seq) v.changes ≡ []) c.self.view_is
    c.self.invariant.are_changes.waiting)
