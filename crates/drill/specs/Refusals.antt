-- Which faults can refuse a call of a run.
use Rattle.std.specs.Prelude.{◌≡◌, ℕ}
use Rattle.script_lines.specs.declared.call.Call.TheVariants as on_line
use Rattle.script_lines.specs.declared.reply.Fault.{Fault}
use Rattle.script_lines.specs.declared.reply.Fault.TheVariants as fault
use Rattle.script_lines.specs.declared.reply.Reply.TheVariants as says
use Rattle.desk.specs.World.{World, Receipt}
use Rattle.drill.specs.declared.events.Event.{Event}
use Rattle.drill.specs.declared.events.Event.TheVariants as on
use Rattle.drill.specs.declared.events.Reply.TheVariants as reply
use Rattle.drill.specs.Events.{EventMove}
use Rattle.drill.specs.Moves.{Session}

-- The store gets each batch once, in its turn, legal, and while it is open; a receipt is never
-- given up.
abbrev pub CanRefuse : World → Event → Fault → Type 0
CanRefuse w event fault.Closed = ⊥
CanRefuse w event fault.OutOfTurn = ⊥
CanRefuse w event fault.Illegal = ⊥
CanRefuse w event fault.WrongTurn = (event ≡ on.Line on_line.Halt) × (w.out ≡ Receipt)
CanRefuse w event other = Unit {0}

-- A law: no move is refused as Closed, OutOfTurn or Illegal. Only a halt while a receipt is out is
-- refused as WrongTurn.
abbrev pub RefusalsOfMoves : Type 0
RefusalsOfMoves =
    (s next : Session) (event : Event) (number : ℕ) (fault : Fault)
    → EventMove s event (reply.Line (says.Refused number fault)) next → CanRefuse s.world event fault
