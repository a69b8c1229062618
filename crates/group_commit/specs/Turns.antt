-- What may be handed in, by what is out.
use Rattle.std.specs.Prelude.{◌≡◌, None, IsSomeAnd}
use Rattle.spool.specs.Batches.{BatchValue, DoubtValue, doubt_of}
use Rattle.group_commit.specs.declared.held.Held.{Held}
use Rattle.group_commit.specs.declared.held.Held.TheVariants as held
use Rattle.group_commit.specs.Waits.{WaitingValue, batch_of}

-- the receipt has the mark, the places and the steps of the batch that is out
abbrev pub IsReceiptOf : WaitingValue → BatchValue → Type 0
IsReceiptOf w receipt = IsSomeAnd w.out (λ count. receipt ≡ batch_of w count)

-- these are the mark and the places of the batch that is out
abbrev pub ArePlacesOf : WaitingValue → DoubtValue → Type 0
ArePlacesOf w places = IsSomeAnd w.out (λ count. places ≡ doubt_of (batch_of w count))

-- what is handed in is what is out
abbrev pub IsHeldOf : WaitingValue → Held → Type 0
IsHeldOf w held.Nothing = w.out ≡ None
IsHeldOf w (held.Batch batch) = ArePlacesOf w (doubt_of batch)
IsHeldOf w (held.Doubt doubt) = ArePlacesOf w doubt
