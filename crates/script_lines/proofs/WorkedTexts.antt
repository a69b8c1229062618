-- Worked rows of a script's lines.
use Rattle.std.proofs.Common.{[], ◌∷◌, true, false, codes, refl, lit<}
use Rattle.std.specs.Fmt.{digits}
use Rattle.script_lines.specs.declared.call.Call.TheVariants as on
use Rattle.script_lines.specs.Script.{IsLineOfCall}

show_row : IsLineOfCall (codes "show a msg_1") (on.Show (codes "a") (codes "msg_1"))
show_row = (codes "show" ∷ codes "a" ∷ codes "msg_1" ∷ [], refl, (codes "a" ∷ codes "msg_1" ∷ [], refl, (refl, refl)))

endpoint_row : IsLineOfCall (codes "show a") (on.ShowEndpoint (codes "a"))
endpoint_row = (codes "show" ∷ codes "a" ∷ [], refl, (codes "a" ∷ [], refl, (refl, refl)))

disable_row : IsLineOfCall (codes "disable a") (on.Enabled (codes "a") false)
disable_row = (codes "disable" ∷ codes "a" ∷ [], refl, (codes "a" ∷ [], refl, (refl, refl)))

subscribe_row : IsLineOfCall (codes "subscribe t a") (on.Subscribed (codes "t") (codes "a") true)
subscribe_row = (codes "subscribe" ∷ codes "t" ∷ codes "a" ∷ [], refl, (codes "t" ∷ codes "a" ∷ [], refl, (refl, refl)))

unsubscribe_row : IsLineOfCall (codes "unsubscribe t a") (on.Subscribed (codes "t") (codes "a") false)
unsubscribe_row = (
  codes "unsubscribe" ∷ codes "t" ∷ codes "a" ∷ [],
  refl,
  (codes "t" ∷ codes "a" ∷ [], refl, (refl, refl)),
)

purge_row : IsLineOfCall (codes "purge 1001") (on.Purge 1001)
unfolding digits
purge_row = (codes "purge" ∷ codes "1001" ∷ [], refl, (codes "1001" ∷ [], refl, (refl, refl)))

told_row : IsLineOfCall (codes "told 12") (on.Told 12)
unfolding digits
told_row = (codes "told" ∷ codes "12" ∷ [], refl, (codes "12" ∷ [], refl, (refl, lit< tt)))

submit_row : IsLineOfCall (codes "submit 1000 a msg_1 7B7d")
    (on.Submit 1000 (codes "a") (codes "msg_1") (123 ∷ 125 ∷ []))
unfolding digits
submit_row = (
  codes "submit" ∷ codes "1000" ∷ codes "a" ∷ codes "msg_1" ∷ codes "7B7d" ∷ [],
  refl,
  (
    codes "1000" ∷ codes "a" ∷ codes "msg_1" ∷ codes "7B7d" ∷ [],
    refl,
    (codes "7B7d", ((7, 11, refl, refl, refl), ((7, 13, refl, refl, refl), tt)), refl, refl),
  ),
)

publish_row : IsLineOfCall (codes "publish 1000 t msg_1 7b7d")
    (on.Publish 1000 (codes "t") (codes "msg_1") (123 ∷ 125 ∷ []))
unfolding digits
publish_row = (
  codes "publish" ∷ codes "1000" ∷ codes "t" ∷ codes "msg_1" ∷ codes "7b7d" ∷ [],
  refl,
  (
    codes "1000" ∷ codes "t" ∷ codes "msg_1" ∷ codes "7b7d" ∷ [],
    refl,
    (codes "7b7d", ((7, 11, refl, refl, refl), ((7, 13, refl, refl, refl), tt)), refl, refl),
  ),
)
