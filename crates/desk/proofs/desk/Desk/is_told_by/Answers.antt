use Rattle.desk.proofs.Words.{◌≡◌, ◌∙◌, true, false, sym, AreTold, totals, totals_in, by_bool}
use Rattle.desk.proofs.ComparingLaws.{IsFound, is_told, not_here, not_there, same_totals, test_same}
use Rattle.desk.proofs.desk.Desk.is_told_by.Goals.{then-eq, else-eq}
use Rattle.desk.proofs.desk.Desk.is_told_by.Goals as goal

pub returns-then-is_in : goal.returns-then-is_in
returns-then-is_in g c =
    let books = c.args.books.now in
    let mine : c.totals.result ≡ totals c.args.self.now = c.totals.ensures
    ∙ (λ i. totals_in (c.self.view_is i).endpoints (c.self.view_is i).deliveries
    (c.settled_records.ensures.value i)) in
    let found : (c.eq.result ≡ true) × IsFound c.self.inside.endpoints c.self.inside.deliveries books.endpoints
    books.deliveries = elim c.if-eq.branch [
      | then-eq w ↦ let is = sym w.value-is ∙ c.if-is_in.true
          in (
            w.if-eq.true,
            record {
              endpoints_in = w.is_in.ensures.endpoints is;
              events_in = w.is_in.ensures.events
                  is;
            },
          )
      | else-eq w ↦ absurd (let wrong : false ≡ true = sym w.if-eq.false ∙ sym w.value-is ∙ c.if-is_in.true in cc)
    ] in (
      λ is. is_told c.self.view_is books
          (sym c.totals-2.ensures ∙ sym (same_totals c.totals.result c.totals-2.result (sym c.eq.ensures ∙ found.0))
          ∙ mine) found.1
          (record {
            endpoints_in = c.is_in-then-is_in.ensures.endpoints is;
            events_in =
                c.is_in-then-is_in.ensures.events is;
          }),
      λ told. by_bool c.is_in-then-is_in.result (λ is. is)
          (λ no. absurd (not_there c.self.view_is books (c.is_in-then-is_in.ensures.differs no) told)),
    )

pub returns-else-is_in : goal.returns-else-is_in
returns-else-is_in g c =
    let books = c.args.books.now in
    let mine : c.totals.result ≡ totals c.args.self.now = c.totals.ensures
    ∙ (λ i. totals_in (c.self.view_is i).endpoints (c.self.view_is i).deliveries
    (c.settled_records.ensures.value i)) in
    let never : AreTold c.args.self.now books → ⊥ = λ told. elim c.if-eq.branch [
      | then-eq w ↦ not_here c.self.view_is books (w.is_in.ensures.differs (sym w.value-is ∙ c.if-is_in.false)) told
      | else-eq w ↦ let same = test_same c.totals.result c.totals-2.result
          (mine ∙ sym told.totals ∙ sym c.totals-2.ensures) in
          let wrong : false ≡ true = sym w.if-eq.false ∙ c.eq.ensures ∙ same in cc
    ] in (
      λ is. absurd (let wrong : false ≡ true = sym c.if-is_in.false ∙ is in cc),
      λ told. absurd (never told),
    )
