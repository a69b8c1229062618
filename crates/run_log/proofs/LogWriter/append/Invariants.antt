use Rattle.relay_types.specs.Records.{records_of}
use Rattle.run_log.proofs.LogWriter.append.Given as goal

abbrev pub ghosts-append_receipt : goal.ghosts-append_receipt
ghosts-append_receipt g a = record { records = records_of a.receipt.now.steps }
