-- A worked run of events for a topic: the numbers are in the order of the endpoints' Puts, and a
-- subscriber that knows the id keeps its own.
use Rattle.std.proofs.Common.{◌≡◌, ℕ, List, [], ◌∷◌, ◌++◌, true, false, codes, refl}
use Rattle.std.specs.Fmt.{digits}
use Rattle.script_lines.specs.declared.call.Call.{Call}
use Rattle.script_lines.specs.declared.call.Call.TheVariants as on
use Rattle.script_lines.specs.declared.reply.Fault.TheVariants as fault
use Rattle.script_lines.specs.declared.reply.Reply.{Reply}
use Rattle.script_lines.specs.declared.reply.Reply.TheVariants as says
use Rattle.script_lines.specs.declared.reply.Told.TheVariants.{Settled}
use Rattle.drill.specs.Moves.{begun}
use Rattle.drill.specs.Runs.{replies_of}
use Rattle.drill.specs.Restarts.{replies_text}

put : (name : List ℕ) → Call
put name = on.Put name (codes "http://127.0.0.1:9000/hook") 100 (codes "012345678901234567890123" ∷ [])

events : List Call
events =
    put (codes "a") ∷ put (codes "b")
    ∷ on.Subscribed (codes "t") (codes "a") true ∷ on.Subscribed (codes "t") (codes "b") true
    ∷ on.Submit 1000 (codes "b") (codes "msg_1") (codes "{}")
    ∷ on.Publish 1000 (codes "t") (codes "msg_1") (codes "{}")
    ∷ on.Publish 1000 (codes "t") (codes "msg_2") (codes "{}")
    ∷ on.Publish 1000 (codes "t") (codes "msg_1") (codes "{|")
    ∷ on.Publish 1000 (codes "u") (codes "msg_1") (codes "{}")
    ∷ on.Subscribed (codes "t") (codes "a") false
    ∷ on.Publish 1001 (codes "t") (codes "msg_2") (codes "{}")
    ∷ on.Seal ∷ on.Commit ∷ on.Settle ∷ on.Told 6
    ∷ []

replies : List Reply
replies =
    says.Staged 0 ∷ says.Staged 1 ∷ says.Staged 2 ∷ says.Staged 3 ∷ says.Staged 4
    ∷ says.Published (5 ∷ 4 ∷ []) ∷ says.Published (6 ∷ 7 ∷ [])
    ∷ says.Refused 3 fault.Conflict ∷ says.Refused 2 fault.UnknownTopic
    ∷ says.Staged 8 ∷ says.Published (7 ∷ [])
    ∷ says.Sealed 0 9 ∷ says.Committed 9 ∷ says.SettledTo 9 ∷ says.ToldAs Settled
    ∷ []

-- the moves compute them
computed : replies_of begun events ≡ replies
unfolding events put replies
computed = refl

-- what is written of it
written : replies_text replies
    ≡ codes "staged 0\nstaged 1\nstaged 2\nstaged 3\nstaged 4\nstaged 5,4\nstaged 6,7\n"
    ++ codes "refused 3 Conflict\nrefused 2 UnknownTopic\nstaged 8\nstaged 7\n"
    ++ codes "sealed 0..9\ncommitted 9\nsettled 9\nsettled\n"
unfolding digits replies
written = refl
