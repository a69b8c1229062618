use Rattle.std.proofs.Common.{codes, refl}
use Rattle.clap.specs.Words.{found_of}
use Rattle.command_interface.proofs.AskedLaws.{text_found, text_missing}
use Rattle.command_interface.proofs.serve_words.read_serve.Goals as goal

pub returns-clause-asked : goal.returns-clause-asked
returns-clause-asked c =
    let found = found_of c.args.words.now in (
      text_found found (codes "file") c.in_ok-file.file.now c.in_ok-file.ensures,
      text_found found (codes "address") c.in_ok-address.address.now c.in_ok-address.ensures,
      c.in_ok-workers.ensures.found,
      c.in_ok-intake.ensures.found,
      c.in_ok-timeout.ensures.found,
      c.in_ok-requests.ensures.found,
    )

pub returns-in_err-file-clause-none : goal.returns-in_err-file-clause-none
returns-in_err-file-clause-none c = λ e asked small asks.
    text_missing (found_of c.args.words.now) (codes "file") _ c.in_err-file.ensures asks.0

pub returns-in_err-address-clause-none : goal.returns-in_err-address-clause-none
returns-in_err-address-clause-none c = λ e asked small asks.
    text_missing (found_of c.args.words.now) (codes "address") _ c.in_err-address.ensures asks.1

pub returns-in_err-workers-clause-none : goal.returns-in_err-workers-clause-none
returns-in_err-workers-clause-none c = λ e asked small asks.
    c.in_err-workers.ensures.missing refl asked.settings.workers small.0 asks.2

pub returns-in_err-intake-clause-none : goal.returns-in_err-intake-clause-none
returns-in_err-intake-clause-none c = λ e asked small asks.
    c.in_err-intake.ensures.missing refl asked.settings.intake small.1 asks.3

pub returns-in_err-timeout-clause-none : goal.returns-in_err-timeout-clause-none
returns-in_err-timeout-clause-none c = λ e asked small asks.
    c.in_err-timeout.ensures.missing refl asked.settings.timeout small.2 asks.4

pub returns-in_err-requests-clause-none : goal.returns-in_err-requests-clause-none
returns-in_err-requests-clause-none c = λ e asked small asks.
    c.in_err-requests.ensures.missing refl asked.settings.requests small.3 asks.5
