-- A script's run: its calls with stops between them, the replies, and what is written for its
-- lines.
use Rattle.std.specs.Prelude.{◌≡◌, ◌⊎◌, ℕ, ◌+◌, ◌%◌, ◌^◌, List, [], ◌∷◌, ◌++◌, length, max, take}
use Rattle.relay_types.specs.Records.{records_of}
use Rattle.script_lines.specs.declared.call.Line.{Line}
use Rattle.script_lines.specs.declared.call.Line.TheVariants.{Call, Stop}
use Rattle.script_lines.specs.declared.reply.Reply.{Reply}
use Rattle.script_lines.specs.declared.reply.Reply.TheVariants as says
use Rattle.script_lines.specs.Replies.{reply_text}
use Rattle.script_lines.specs.Script.{IsLine}
use Rattle.desk.specs.World.{World}
use Rattle.recovery.specs.Reopenings.{opening_of}
use Rattle.drill.specs.Moves.{Session, begun}
use Rattle.drill.specs.Runs.{CallMove}
use Rattle.drill.specs.Events.{shown_by_line}
use Rattle.drill.specs.Worlds.{session_of}

-- the mark of the next opening
abbrev pub next_mark : (mark : ℕ) → ℕ
next_mark mark = (mark + 1) % 2 ^ 64

-- The store is opened again on the first steps, for one of these numbers of steps, and no ticket is
-- known.
abbrev pub OpensAgain : Session → (numbers : List ℕ) → Reply → Session → Type 0
OpensAgain s [] reply next = ⊥
OpensAgain s (steps ∷ others) reply next =
    ((reply ≡ says.Reopened (length (records_of (take steps s.world.history))))
    × (next ≡ session_of (opening_of (take steps s.world.history))))
    ⊎ OpensAgain s others reply next

-- From s, the line may get this reply and lead to next. It is a call's move, or a stop that leaves
-- what the world says.
abbrev pub LineMove : Session → Line → Reply → Session → Type 0
LineMove s (Call event) reply next = CallMove s event reply next
LineMove s Stop reply next = OpensAgain s s.world.left reply next

-- the reply shows that the records below this number are settled
abbrev pub shown_of : World → Line → Reply → ℕ
shown_of w (Call event) reply = shown_by_line w event reply
shown_of w Stop reply = 0

-- The lines may get these replies, one after another, and the replies show that the records below
-- this number are settled.
abbrev pub LineRun : Session → List Line → List Reply → Session → (acknowledged : ℕ) → Type 0
LineRun s [] [] last acknowledged = (last ≡ s) × (acknowledged ≡ 0)
LineRun s (line ∷ lines) (reply ∷ replies) last acknowledged = (next : Session) × (later : ℕ)
    × LineMove s line reply next × LineRun next lines replies last later
    × (acknowledged ≡ max (shown_of s.world line reply) later)
LineRun s [] (reply ∷ replies) last acknowledged = ⊥
LineRun s (line ∷ lines) [] last acknowledged = ⊥

-- the texts are these lines
abbrev pub ReadLines : List (List ℕ) → List Line → Type 0
ReadLines [] [] = Unit {0}
ReadLines (text ∷ texts) (line ∷ lines) = IsLine text line × ReadLines texts lines
ReadLines [] (line ∷ lines) = ⊥
ReadLines (text ∷ texts) [] = ⊥

-- the text is no line
abbrev pub IsNoLine : List ℕ → Type 0
IsNoLine text = (line : Line) → IsLine text line → ⊥

-- the reply lines
abbrev pub replies_text : List Reply → List ℕ
replies_text [] = []
replies_text (reply ∷ replies) = reply_text reply ++ 10 ∷ replies_text replies

-- What is written for the texts: the replies of a run of their lines, from the empty history.
abbrev pub Replies : List (List ℕ) → List ℕ → Type 0
Replies texts written = (lines : List Line) × (replies : List Reply) × (last : Session) × (acknowledged : ℕ)
    × ReadLines texts lines × LineRun begun lines replies last acknowledged × (written ≡ replies_text replies)

-- the same, and this holds for the session in which the run ends and the number of records that it
-- showed as settled
abbrev pub RepliesSuchThat : (Session → (acknowledged : ℕ) → Type 0) → List (List ℕ) → List ℕ → Type 0
RepliesSuchThat Holds texts written = (lines : List Line) × (replies : List Reply) × (last : Session)
    × (acknowledged : ℕ)
    × ReadLines texts lines × LineRun begun lines replies last acknowledged × (written ≡ replies_text replies)
    × Holds last acknowledged
