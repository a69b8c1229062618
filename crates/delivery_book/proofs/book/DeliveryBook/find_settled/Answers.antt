use Rattle.std.proofs.Common.{◌≡◌, true, None, ◌∙◌, ap, not, sym, subst}
use Rattle.std.specs.List.{list_all}
use Rattle.delivery_book.specs.Entries.{BookValue, known_settled_in}
use Rattle.delivery_book.specs.Fields.{AreApart, is_not_before}
use Rattle.delivery_book.proofs.Known.{settled_early, settled_alone}
use Rattle.delivery_book.proofs.Tellings.{stands_known_settled}
use Rattle.delivery_book.proofs.book.DeliveryBook.find_settled.Goals as goal

early : (c : goal.Then-is_below) → c.find-known.result ≡ known_settled_in c.args.self.now c.args.name c.args.id.now
early c =
    settled_early c.args.self.now c.args.name c.args.id.now c.find-known.result c.self.inside.settled_seq
    (subst (λ (b : BookValue). AreApart b.entries) c.self.view_is c.self.invariant.marks.apart)
    c.find-known.ensures.known
    (ap (λ (b : BookValue). b.settled_seq) c.self.view_is) (sym c.is_below.ensures ∙ c.if-is_below.true)

alone : (c : goal.Then-is_none) → None ≡ known_settled_in c.args.self.now c.args.name c.args.id.now
alone c =
    settled_alone c.args.self.now c.args.name c.args.id.now c.find-known.result c.self.inside.next_purge
    c.self.inside.settled_seq
    (subst (λ (b : BookValue). AreApart b.entries) c.self.view_is c.self.invariant.marks.apart)
    c.find-known.ensures.known
    (ap (λ (b : BookValue). b.settled_seq) c.self.view_is) (sym c.is_below.ensures ∙ c.if-is_below.false)
    (c.is_none.ensures ∙ ap not c.if-is_none.true)
    (subst (λ (b : BookValue). list_all (is_not_before c.self.inside.next_purge) b.entries ≡ true) c.self.view_is
    c.self.invariant.marks.first)

pub returns-then-is_below : goal.returns-then-is_below
returns-then-is_below c = record {
  known = early c;
  stands = λ records settled h. early c ∙ stands_known_settled c.args.self.now records settled c.args.name c.args.id.now
      h;
}

pub returns-then-is_none-clause-known : goal.returns-then-is_none-clause-known
returns-then-is_none-clause-known c = alone c

pub returns-then-is_none-clause-stands : goal.returns-then-is_none-clause-stands
returns-then-is_none-clause-stands c = λ records settled h. alone c
    ∙ stands_known_settled c.args.self.now records settled c.args.name c.args.id.now h

pub returns-clause-stands : goal.returns-clause-stands
returns-clause-stands c = λ records settled h. c.find_taken.ensures
    ∙ stands_known_settled c.args.self.now records settled c.args.name c.args.id.now h
