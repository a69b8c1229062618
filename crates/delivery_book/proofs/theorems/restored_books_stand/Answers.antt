use Rattle.delivery_book.proofs.Laws.{stands_restored}
use Rattle.delivery_book.proofs.theorems.restored_books_stand.Goals as goal

pub returns : goal.returns
returns c book records legal h = stands_restored book records legal h
