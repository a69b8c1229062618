use Rattle.script_lines.proofs.reply.ReplyDisplay.fmt.Goals as goal

pub returns-in-Endpoint-clause-writes : goal.returns-in-Endpoint-clause-writes
returns-in-Endpoint-clause-writes g c = λ plain ok. rw (c.in-Endpoint.is, ← c.flag_word-flag.ensures)
    (c.write-in-Endpoint.ensures.writes plain ok)

pub returns-in-Permit-clause-writes : goal.returns-in-Permit-clause-writes
returns-in-Permit-clause-writes g c = λ plain ok.
    rw (
      c.in-Permit.is,
      ← c.as_bytes.ensures.text,
      ← c.as_bytes-in-Permit.ensures.text,
      ← c.text_of-name.ensures,
      ←
          c.text_of-id.ensures,
    )
    (c.write-in-Permit.ensures.writes plain ok)

pub returns-in-Some-staged-clause-writes : goal.returns-in-Some-staged-clause-writes
returns-in-Some-staged-clause-writes g c = λ plain ok.
    rw (c.in-Spent.is, c.in-Some-staged.is, ← c.spend_word-spend.ensures)
    (c.write-in-Some-staged.ensures.writes plain ok)

pub returns-in-None-clause-writes : goal.returns-in-None-clause-writes
returns-in-None-clause-writes g c = λ plain ok.
    rw (c.in-Spent.is, c.in-None.is, ← c.spend_word-spend.ensures) (c.write-in-None.ensures.writes plain ok)
