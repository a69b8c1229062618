-- The replies to what is done: a status, and a text that is compact JSON with its members in the
-- order of their names.
use Rattle.std.specs.Prelude.{◌≡◌, ◌⊎◌, ℕ, List, [], ◌∷◌, false, codes, map}
use Rattle.serde_json.specs.Data.{Data, Items, array, item, no_items, string}
use Rattle.serde_json.specs.Written.{compact_text}
use Rattle.relay_types.specs.Values.{Text, Seq}
use Rattle.desk.specs.declared.command.Command.{Command}
use Rattle.desk.specs.declared.command.Command.TheVariants.{PutEndpoint}
use Rattle.desk.specs.declared.ticket.Ticket.{Ticket}
use Rattle.status.specs.Pages.{object_of, natural}
use Rattle.intake_shed.specs.Replies.{out_of_memory}
use Rattle.intake_shed.specs.declared.reply.Reply.{Reply}

abbrev pub done : (status : ℕ) (text : Text) → Reply
done status text = record { status = status; retry = false; body = text }

-- it is this one, or an allocation for its text failed
abbrev pub IsDone : (status : ℕ) (text : Text) → Reply → Type 0
IsDone status text reply = (reply ≡ done status text) ⊎ (reply ≡ out_of_memory)

-- a new endpoint is made, other changes are taken over
abbrev pub change_status : Command → ℕ
change_status (PutEndpoint name target max secrets) = 201
change_status command = 200

-- the reply to a change has its record's number
abbrev pub change_body : Seq → Data
change_body seq = object_of ((codes "seq", natural seq) ∷ [])

abbrev pub change_text : Seq → Text
change_text seq = compact_text (change_body seq)

-- the reply to an event has its id and its record's number
abbrev pub accepted_body : (id : Text) → Seq → Data
accepted_body id seq = object_of ((codes "id", string id) ∷ (codes "seq", natural seq) ∷ [])

abbrev pub accepted_text : (id : Text) → Seq → Text
accepted_text id seq = compact_text (accepted_body id seq)

-- a list of numbers
abbrev pub naturals : List ℕ → Items
naturals [] = no_items
naturals (n ∷ ns) = item (natural n) (naturals ns)

abbrev pub seqs_of : List Ticket → List Seq
seqs_of tickets = map (λ t. t.seq) tickets

-- the reply to a publish has the event's id and the numbers of its records
abbrev pub published_body : (id : Text) → List Seq → Data
published_body id seqs = object_of ((codes "id", string id) ∷ (codes "seqs", array (naturals seqs)) ∷ [])

abbrev pub published_text : (id : Text) → List Seq → Text
published_text id seqs = compact_text (published_body id seqs)
