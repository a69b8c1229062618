-- The lines of a script, run one after another.
use Rattle.std.proofs.Common.{◌≡◌, ℕ, List, [], ◌∷◌, ◌++◌, max, Option, Result, refl, sym, ap, subst, ◌∙◌}
use Rattle.sqlite.specs.Store.{Ghosts}
use Rattle.sqlite.specs.Held as store
use Rattle.script_lines.specs.declared.call.Line.{Line}
use Rattle.script_lines.specs.declared.reply.Reply.{Reply}
use Rattle.script_lines.specs.Replies.{reply_text}
use Rattle.text_lines.specs.Answers.{AnswersEach, AnswersFrom, AnswersTo}
use Rattle.text_lines.specs.Ends.{Ends}
use Rattle.text_lines.specs.declared.fault.StreamFault.{StreamFault}
use Rattle.text_lines.proofs.AnswerLaws.{Ends-more}
use Rattle.drill.specs.declared.player.Player.{Player}
use Rattle.drill.specs.declared.player.State.TheVariants.{Open}
use Rattle.drill.specs.declared.runner.Runner.{Runner}
use Rattle.drill.specs.Moves.{Session, begun}
use Rattle.drill.specs.Restarts.{LineRun, ReadLines, IsNoLine, shown_of, replies_text, Replies, RepliesSuchThat}
use Rattle.drill.specs.Replays.{AnswersText, Replays, LeavesRun, KeepsRun, StateStandsFor}
use Rattle.recovery.specs.Left.{KeepsRows}
use Rattle.drill.proofs.CommitLaws.{rows_kept}
use Rattle.drill.proofs.RestartLaws.{kept_over_stops}

-- what is written for the texts, from any session on, and this holds for the last one
abbrev RepliesFrom : (Session → Type 0) → Session → List (List ℕ) → List ℕ → Type 0
RepliesFrom Holds s texts written = (lines : List Line) × (replies : List Reply) × (last : Session) × (acknowledged : ℕ)
    × ReadLines texts lines × LineRun s lines replies last acknowledged × (written ≡ replies_text replies) × Holds last

replies_from : {L S : Type 0} (g : Ghosts S) (old new : Player L S g) (s : Session) (texts : List (List ℕ))
    (written : List ℕ) → StateStandsFor g old.state s → AnswersEach (AnswersText g) old texts written new
    → RepliesFrom (StateStandsFor g new.state) s texts written
replies_from {L} {S} g old new s [] written stands (none, same) =
    ([], [], s, 0, tt, (refl, refl), none, subst (λ (p : Player L S g). StateStandsFor g p.state s) same stands)
replies_from g old new s (text ∷ texts) written stands
    (next, told, rest, (line, reply, reads, takes, is), whole, each) =
    let (after, move, on) = takes s stands in
    let (lines, replies, last, n, calls, run, said, holds) = replies_from g next new after texts rest on each in (
      line ∷ lines,
      reply ∷ replies,
      last,
      max (shown_of s.world line reply) n,
      (reads, calls),
      (after, n, move, run, refl),
      whole ∙ ap (λ xs. xs ++ 10 ∷ rest) is
          ∙ ap (λ xs. reply_text reply ++ 10 ∷ xs) said,
      holds,
    )

pub Replies-none : Replies [] []
Replies-none = ([], [], begun, 0, tt, (refl, refl), refl)

-- a player of the empty history replays the lines that it answers
pub replays : {L S : Type 0} (g : Ghosts S) (player : Player L S g) (input old new : Option (List ℕ))
    (end : Result (Unit {0}) StreamFault) → StateStandsFor g player.state begun
    → Ends (AnswersFrom (AnswersText g) player) IsNoLine input old new end → Replays input old new end
replays g player input old new end stands ends = Ends-more (AnswersFrom (AnswersText g) player) Replies IsNoLine says
    input
    old new end ends
  where
    says : (texts : List (List ℕ)) (written : List ℕ) → AnswersFrom (AnswersText g) player texts written
        → Replies texts written
    says texts written (now, each) =
        let (lines, replies, last, n, calls, run, said, holds) = replies_from g player now begun texts written stands
        each in
        (lines, replies, last, n, calls, run, said)

-- and its connection keeps the rows of the run that led to it
pub keeps_run : {L S : Type 0} (g : Ghosts S) (player now : Player L S g) (conn : store.Held S)
    (input old new : Option (List ℕ)) (end : Result (Unit {0}) StreamFault)
    → ((runner : Runner L S g) → now.state ≡ Open runner → conn ≡ runner.vault.conn)
    → StateStandsFor g player.state begun
    → Ends (AnswersTo (AnswersText g) player now) IsNoLine input old new end → KeepsRun g conn input old new end
keeps_run g player now conn input old new end same stands ends = Ends-more (AnswersTo (AnswersText g) player now)
    (RepliesSuchThat (LeavesRun g conn)) IsNoLine says input old new end ends
  where
    says : (texts : List (List ℕ)) (written : List ℕ) → AnswersTo (AnswersText g) player now texts written
        → RepliesSuchThat (LeavesRun g conn) texts written
    says texts written each =
        let (lines, replies, last, n, calls, run, said, (runner, is, holds)) = replies_from g player now begun texts
        written stands each in
        let over = kept_over_stops lines replies last n run in (
          lines,
          replies,
          last,
          n,
          calls,
          run,
          said,
          record {
            leaves = subst (λ at. KeepsRows g at last.world) (sym (same runner is))
                (rows_kept g runner.vault last.world holds.holds);
            kept = over.0;
            again = over.1;
          },
        )
