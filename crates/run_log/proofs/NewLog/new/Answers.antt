use Rattle.run_log.proofs.SeatLaws.{begins}
use Rattle.run_log.proofs.NewLog.new.Goals as goal

pub of_words-requires : goal.of_words-requires
of_words-requires c = begins
