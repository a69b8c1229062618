-- What the runner keeps between two lines, and the sessions that it represents.
use Rattle.std.specs.Prelude.{◌≡◌, ◌++◌, List, IsTrue}
use Rattle.sqlite.specs.Store.{Ghosts}
use Rattle.sqlite.specs.Held as store
use Rattle.relay_types.specs.declared.record.Record.{Record}
use Rattle.relay_types.specs.Records.{records_of}
use Rattle.relay_types.specs.Legal.{IsLegal}
use Rattle.spool.specs.Batches.{BatchValue, doubt_of}
use Rattle.spool.specs.declared.faults.Unchanged.{Unchanged}
use Rattle.spool.specs.declared.faults.Unchanged.TheVariants as why
use Rattle.spool.specs.Commits.{IsNext}
use Rattle.spool.specs.Writing.{RestsInDoubt}
use Rattle.spool.specs.Vaults.{VaultValue}
use Rattle.script_lines.specs.declared.reply.Fault.TheVariants as fault
use Rattle.script_lines.specs.declared.reply.Reply.{Reply}
use Rattle.script_lines.specs.declared.reply.Reply.TheVariants as says
use Rattle.drill.specs.declared.held.Held.{Held}
use Rattle.drill.specs.declared.held.Held.TheVariants as held
use Rattle.drill.specs.declared.calls.Core.{Core}
use Rattle.drill.specs.Moves.{Session, Answer, MayReply}
use Rattle.recovery.specs.Left.{IsOpenAt, VaultStandsFor}
use Rattle.drill.specs.Cores.{CoreStandsFor}

-- the core and the store represent one session
pub record RunStandsFor {L S : Type 0} (g : Ghosts S) (core : Core L) (vault : VaultValue S)
    (s : Session) : Type 0 where
  pub stands : CoreStandsFor core s
  pub holds : VaultStandsFor g vault s.world
  pub mark : core.desk.waiting.mark ≡ vault.mark

-- From each session that core and store represented, the call got a reply that this answer allows,
-- and they represent the session after it.
abbrev pub Answers : {L S : Type 0} → Ghosts S → Core L → VaultValue S → (Session → Answer) → Reply
    → Core L → VaultValue S → Type 0
Answers g old vault answer reply new later =
    (s : Session) → RunStandsFor g old vault s
    → (next : Session) × MayReply (answer s) reply next × RunStandsFor g new later next

-- the reply to a commit that changed nothing
abbrev pub unchanged_reply : Unchanged → Reply
unchanged_reply why.Closed = says.Refused 1 fault.Closed
unchanged_reply why.OutOfTurn = says.Refused 2 fault.OutOfTurn
unchanged_reply why.Illegal = says.Refused 3 fault.Illegal
unchanged_reply why.OutOfMemory = says.Refused 4 fault.OutOfMemory

module _ {S : Type 0} (g : Ghosts S) (vault : VaultValue S) (records : List Record) (batch : BatchValue) where
  -- How the commit of a legal batch ends that continues the store's history. Which of receipt,
  -- batch and doubt is held afterwards says how it ended.
  abbrev pub EndsCommit : Held → Reply → Type 0
  EndsCommit (held.Receipt receipt) reply = (receipt ≡ batch) × (reply ≡ says.Committed vault.next)
      × IsOpenAt g vault (records ++ records_of batch.steps)
  EndsCommit (held.Batch back) reply =
      (back ≡ batch) × (reply ≡ says.Refused 4 fault.OutOfMemory) × IsOpenAt g vault records
  EndsCommit (held.Doubt doubt) reply = (doubt ≡ doubt_of batch) × (reply ≡ says.Refused 5 fault.Store)
      × IsTrue vault.closed × RestsInDoubt (store.state g vault.conn) records (records_of batch.steps)
  EndsCommit held.Nothing reply = ⊥

-- what a commit of the vault's next batch answers
abbrev pub CommitsNext : {S : Type 0} → Ghosts S → VaultValue S → VaultValue S → BatchValue → Held → Reply → Type 0
CommitsNext g old new batch now reply = (records : List Record) → IsOpenAt g old records → IsNext old batch
    → IsLegal (records ++ records_of batch.steps) → EndsCommit g new records batch now reply
