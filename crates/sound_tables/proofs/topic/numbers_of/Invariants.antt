use Rattle.std.proofs.Common.{◌≡◌, map, take}
use Rattle.sound_tables.specs.Checks.{numbers_of}
use Rattle.sound_tables.proofs.topic.numbers_of.Given as goal

abbrev pub invariant-loop-topic : goal.invariant-loop-topic
invariant-loop-topic l = l.numbers.items ≡ map numbers_of (take l.topic-index l.topics)
