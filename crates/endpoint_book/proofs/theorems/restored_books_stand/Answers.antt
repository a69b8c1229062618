use Rattle.endpoint_book.proofs.Restored.{stands-restored}
use Rattle.endpoint_book.proofs.theorems.restored_books_stand.Goals as goal

pub returns : goal.returns
returns c book records legal h = stands-restored book records legal h
