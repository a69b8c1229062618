use Rattle.std.proofs.Common.{rules}
use Rattle.webhook_request.proofs.Printable.{decimal_printable, visible_printable}
use Rattle.webhook_request.proofs.outgoing.add_webhook_headers.Goals as goal

pub add-requires : goal.add-requires
add-requires c = rw c.as_bytes.ensures.text (visible_printable c.args.id c.as_bytes.ensures.visible)

pub add-requires-2 : goal.add-requires-2
add-requires-2 c = rw (c.as_bytes-2.ensures.value, c.in_ok-timestamp.ensures.ok) (decimal_printable _ (search rules))
