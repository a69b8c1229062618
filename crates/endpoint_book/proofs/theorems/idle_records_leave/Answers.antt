use Rattle.endpoint_book.proofs.Laws.{stands-idle}
use Rattle.endpoint_book.proofs.theorems.idle_records_leave.Goals as goal

pub returns : goal.returns
returns c book records settled entry stands legal same = stands-idle book records settled entry stands legal same
