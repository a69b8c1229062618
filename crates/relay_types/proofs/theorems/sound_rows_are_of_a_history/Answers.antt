use Rattle.relay_types.proofs.HistoryLaws.{of_a_history}
use Rattle.relay_types.proofs.theorems.sound_rows_are_of_a_history.Goals as goal

pub returns : goal.returns
returns c rows keyed sound = of_a_history rows keyed sound
