-- A run of calls between two stops, and the replies to them.
use Rattle.std.specs.Prelude.{◌≡◌, Bool, true, false, List, [], ◌∷◌, IsTrue}
use Rattle.std.specs.List.{list_all}
use Rattle.script_lines.specs.declared.call.Call.{Call}
use Rattle.script_lines.specs.declared.reply.Fault.{Fault}
use Rattle.script_lines.specs.declared.reply.Fault.TheVariants as fault
use Rattle.script_lines.specs.declared.reply.Reply.{Reply}
use Rattle.script_lines.specs.declared.reply.Reply.TheVariants as says
use Rattle.drill.specs.Moves.{Session, MayReply, answer_to}

-- From s, the core may give this reply to the call and go on to next.
abbrev pub CallMove : Session → Call → Reply → Session → Type 0
CallMove s event reply next = MayReply (answer_to s event) reply next

-- the core may give these replies to these calls, one move after another
abbrev pub CallRun : Session → List Call → List Reply → Session → Type 0
CallRun s [] [] last = last ≡ s
CallRun s (event ∷ events) (reply ∷ replies) last = (next : Session) × CallMove s event reply next
    × CallRun next events replies last
CallRun s [] (reply ∷ replies) last = ⊥
CallRun s (event ∷ events) [] last = ⊥

-- The replies if no allocation fails and the store doesn't.
abbrev pub replies_of : Session → List Call → List Reply
replies_of s [] = []
replies_of s (event ∷ events) = (answer_to s event).reply ∷ replies_of (answer_to s event).next events

-- whether the reply reports neither out of memory nor a fault of the store
abbrev pub is_neither_memory_nor_store : Fault → Bool
is_neither_memory_nor_store fault.OutOfMemory = false
is_neither_memory_nor_store fault.Store = false
is_neither_memory_nor_store other = true

abbrev pub is_served : Reply → Bool
is_served (says.Refused number fault) = is_neither_memory_nor_store fault
is_served reply = true

-- A law: the replies of a run are those that the moves compute, if none of them reports out of
-- memory or a fault of the store.
abbrev pub AreServedRunsComputed : Type 0
AreServedRunsComputed =
    (s : Session) (events : List Call) (replies : List Reply) (last : Session)
    → CallRun s events replies last → IsTrue (list_all is_served replies) → replies ≡ replies_of s events
