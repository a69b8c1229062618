use Rattle.delivery_book.proofs.Laws.{stands_other}
use Rattle.delivery_book.proofs.theorems.endpoint_records_leave.Goals as goal

pub returns : goal.returns
returns c book records settled entry stands other = stands_other book records settled entry stands other
