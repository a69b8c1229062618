-- What the command line asks for, and how the parser's own answer ends.
use Rattle.std.specs.Prelude.{◌≡◌, ◌⊎◌, ℕ, List, Some, codes}
use Rattle.clap.specs.Words.{Row, subcommand_rows_of}
use Rattle.clap.specs.declared.error.kind.ErrorKind.{ErrorKind}
use Rattle.clap.specs.declared.error.kind.ErrorKind.TheVariants as kind
use Rattle.clap.specs.declared.parser.matches.ArgMatches.{ArgMatches}
use Rattle.command_interface.specs.Asked.{AskFor, AskForNothing}
use Rattle.command_interface.specs.declared.serve_words.ServeWords.{ServeWords}

-- the command line's subcommand is `serve`, with such arguments
abbrev pub IsServeFor : ArgMatches → ServeWords → Type 0
IsServeFor matches asked = (rows : List Row) × (subcommand_rows_of matches ≡ Some (codes "serve", rows))
    × AskFor rows asked

-- the command line has another subcommand than `serve`, or arguments that ask for nothing
abbrev pub IsForNoServe : ArgMatches → Type 0
IsForNoServe matches = (rows : List Row) → subcommand_rows_of matches ≡ Some (codes "serve", rows) → AskForNothing rows

-- the exit status where the parser answers so in place of a command; help and the version are written, or the writer
-- failed
abbrev pub IsShownAs : ErrorKind → ℕ → Type 0
IsShownAs kind.DisplayHelp status = (status ≡ 0) ⊎ (status ≡ 3)
IsShownAs kind.DisplayVersion status = (status ≡ 0) ⊎ (status ≡ 3)
IsShownAs kind.OutOfMemory status = status ≡ 3
IsShownAs other status = status ≡ 1
