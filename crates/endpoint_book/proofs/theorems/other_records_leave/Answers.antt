use Rattle.endpoint_book.proofs.Laws.{stands-other}
use Rattle.endpoint_book.proofs.theorems.other_records_leave.Goals as goal

pub returns : goal.returns
returns c book records settled entry stands legal same = stands-other book records settled entry stands legal same
