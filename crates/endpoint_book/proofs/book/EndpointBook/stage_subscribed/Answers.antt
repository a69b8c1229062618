use Rattle.std.proofs.Common.{◌+◌, ◌++◌, ◌∷◌, [], ◌∙◌, ◌≡◌, ap, arith, if◌then◌else◌, length, subst, sym, vec_capacity}
use Rattle.std.specs.Prelude.{is_some}
use Rattle.relay_types.specs.declared.record.Record.TheVariants as on
use Rattle.endpoint_book.specs.Entries.{BookValue, with_topic}
use Rattle.endpoint_book.specs.Topics.{TopicsValue, flag_of, with_pair}
use Rattle.endpoint_book.specs.Book.{StandsFor}
use Rattle.endpoint_book.specs.Fields.{listed}
use Rattle.endpoint_book.proofs.Books.{book-later}
use Rattle.endpoint_book.proofs.Laws.{stands-topic}
use Rattle.endpoint_book.proofs.book.EndpointBook.stage_subscribed.Goals as goal

pub invariant_of-self-2 : goal.invariant_of-self-2
invariant_of-self-2 c =
    let b = c.self.inside in
    book-later b.entries b.names.items b.changes.items b.flags b.puts (vec_capacity b.changes) b.next_seq b.settled_seq
    (c.args.seq + 1) c.self.invariant
    (omega (arith, c.requires.above, ap (λ (v : BookValue). v.next_seq) c.self.view_is))

pub returns-clause-subscribed : goal.returns-clause-subscribed
returns-clause-subscribed c =
    let b = c.self.inside in
    let a = c.args in
    (λ i. record {
      entries = listed b.entries b.names.items;
      changes = b.changes.items;
      topics = c.in_ok-set.ensures.set
          i;
      next_seq = a.seq + 1;
      settled_seq = b.settled_seq;
    })
    ∙ ap (λ (v : BookValue). with_topic v a.seq a.topic a.name a.flag) c.self.view_is

pub returns-clause-stands : goal.returns-clause-stands
returns-clause-stands c =
    let a = c.args in
    let counted = subst (λ (ts : TopicsValue). length (with_pair ts a.topic a.name a.flag)
    ≡ length ts + (if is_some (flag_of ts a.topic a.name) then 0 else 1))
    (ap (λ (v : BookValue). v.topics) c.self.view_is) (ap length (sym c.in_ok-set.ensures.set)
    ∙ c.in_ok-set.ensures.len) in
    λ records settled h at_end legal.
    subst (λ v. StandsFor v (records ++ on.Subscribed a.topic a.name a.flag ∷ []) settled)
    (sym (returns-clause-subscribed c))
    (stands-topic a.self.now records settled a.seq a.topic a.name a.flag h at_end legal counted)
