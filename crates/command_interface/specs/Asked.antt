-- What the words of `serve` ask for.
use Rattle.std.specs.Prelude.{◌≡◌, ◌<◌, ◌^◌, ℕ, List, Some, codes}
use Rattle.std.specs.Str.Parse.{IsNumeral, digits_value, without_leading_plus}
use Rattle.clap.specs.Words.{Row, first_of, one_of}
use Rattle.command_interface.specs.declared.serve_words.ServeWords.{ServeWords}

-- the argument of this name is this number, in decimal digits after an optional plus sign
abbrev pub HasNumber : List Row → List ℕ → ℕ → Type 0
HasNumber rows name number =
    (text : List ℕ) × (one_of name rows ≡ Some text) × IsNumeral 10 (without_leading_plus text)
    × (number ≡ digits_value 10 (without_leading_plus text))

-- there is no argument of this name that is a number of 64 bits
abbrev pub LacksNumber : List Row → List ℕ → Type 0
LacksNumber rows name = (number : ℕ) → number < 2 ^ 64 → ¬ HasNumber rows name number

-- the arguments, whose rows these are, ask for this
abbrev pub AskFor : List Row → ServeWords → Type 0
AskFor rows asked =
    (first_of (codes "file") rows ≡ Some asked.file.now)
    × (first_of (codes "address") rows ≡ Some asked.address.now)
    × HasNumber rows (codes "workers") asked.settings.workers
    × HasNumber rows (codes "intake") asked.settings.intake
    × HasNumber rows (codes "timeout") asked.settings.timeout
    × HasNumber rows (codes "requests") asked.settings.requests

-- each number is one of 64 bits
abbrev pub AreWithinBits : ServeWords → Type 0
AreWithinBits asked = (asked.settings.workers < 2 ^ 64) × (asked.settings.intake < 2 ^ 64)
    × (asked.settings.timeout < 2 ^ 64) × (asked.settings.requests < 2 ^ 64)

-- the arguments ask for nothing: one is missing, or is no such number
abbrev pub AskForNothing : List Row → Type 0
AskForNothing rows = (asked : ServeWords) → AreWithinBits asked → ¬ AskFor rows asked
