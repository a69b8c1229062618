use Rattle.std.specs.Prelude.{◌++◌, length, drop}
use Rattle.relay_types.specs.Records.{records_of}
use Rattle.delivery.proofs.staged.StagedLog.follow.Given as goal

abbrev pub ghosts-follow_as : goal.ghosts-follow_as
ghosts-follow_as g a =
    record { records = drop (length a.self.now) (a.prefix.now ++ records_of a.desk.now.waiting.waiting) }
