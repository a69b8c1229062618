-- Worked rows of the replies' texts.
use Rattle.std.proofs.Common.{◌≡◌, [], ◌∷◌, Some, None, true, codes, refl}
use Rattle.std.specs.Fmt.{digits}
use Rattle.relay_types.specs.declared.state.State.TheVariants.{Pending, Delivered}
use Rattle.script_lines.specs.declared.reply.Fault.TheVariants as fault
use Rattle.script_lines.specs.declared.reply.Told.TheVariants.{Settled}
use Rattle.script_lines.specs.declared.reply.Reply.TheVariants as says
use Rattle.script_lines.specs.Replies.{reply_text}

refused_row : reply_text (says.Refused 3 fault.Exists) ≡ codes "refused 3 Exists"
unfolding digits
refused_row = refl

places_row : reply_text (says.Refused 8 fault.TooManySubscriptions) ≡ codes "refused 8 TooManySubscriptions"
unfolding digits
places_row = refl

published_row : reply_text (says.Published (5 ∷ 4 ∷ [])) ≡ codes "staged 5,4"
unfolding digits
published_row = refl

one_published_row : reply_text (says.Published (7 ∷ [])) ≡ codes "staged 7"
unfolding digits
one_published_row = refl

sealed_row : reply_text (says.Sealed 9 12) ≡ codes "sealed 9..12"
unfolding digits
sealed_row = refl

pending_row : reply_text (says.Event Pending (Some 1000) 0) ≡ codes "pending due 1000 attempts 0"
unfolding digits
pending_row = refl

delivered_row : reply_text (says.Event Delivered None 2) ≡ codes "delivered attempts 2"
unfolding digits
delivered_row = refl

told_row : reply_text (says.ToldAs Settled) ≡ codes "settled"
told_row = refl

unsealed_row : reply_text (says.Unsealed 0 1) ≡ codes "unsealed 0..1"
unfolding digits
unsealed_row = refl

endpoint_row : reply_text (says.Endpoint true 1 0 12) ≡ codes "enabled pending 1 delivered 0 exhausted 12"
unfolding digits
endpoint_row = refl
