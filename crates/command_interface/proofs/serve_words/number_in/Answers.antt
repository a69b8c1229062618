use Rattle.std.specs.Str.Parse.{ParsesUnsigned, ExplainsUnsignedError, HasUnsignedDigitsIfOk}
use Rattle.clap.specs.Words.{found_of}
use Rattle.command_interface.proofs.AskedLaws.{number_found, number_missing}
use Rattle.command_interface.proofs.serve_words.number_in.Goals as goal

pub returns-clause-found : goal.returns-clause-found
returns-clause-found c =
    number_found (λ text r. ParsesUnsigned 64 10 text r × ExplainsUnsignedError 10 text r
    × HasUnsignedDigitsIfOk text r)
    (found_of c.args.words.now) c.args.name.now c.get_one.result (λ text r read. read.0)
    c.get_one.ensures.none (λ text is. c.get_one.ensures.value text is)

pub returns-clause-missing : goal.returns-clause-missing
returns-clause-missing c = λ none number small has.
    number_missing (λ text r. ParsesUnsigned 64 10 text r × ExplainsUnsignedError 10 text r
    × HasUnsignedDigitsIfOk text r)
    (found_of c.args.words.now) c.args.name.now c.get_one.result number (λ text r read. read.0)
    (λ text is. c.get_one.ensures.value text is) none small has
