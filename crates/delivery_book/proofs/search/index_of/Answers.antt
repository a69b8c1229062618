use Rattle.delivery_book.proofs.Entries.{found_at}
use Rattle.delivery_book.proofs.search.index_of.Goals as goal

pub returns : goal.returns
returns c =
    let b = c.count_below.ensures in
    let found = found_at c.args.entries.now c.args.seq c.count_below.result c.requires.order c.requires.there b.within
    (λ k d h. b.below k d h) (λ k d h l. b.above k d h l) in
    record { within = found.0; found = λ d. (found.1 d).0; number = λ d. (found.1 d).1 }
