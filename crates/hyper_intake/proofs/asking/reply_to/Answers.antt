use Rattle.std.proofs.Common.{◌∙◌, ap, inl, map, refl}
use Rattle.hyper_intake.proofs.asking.reply_to.Goals as goal

pub returns : goal.returns
returns g c = inl (
  record { method = c.as_bytes.result; path = c.path_of.result; ids = c.as_slice.result; body = c.args.body },
  c.in-Ok-fresh_id.fresh,
  c.answer-reply.new.pass,
  c.answer-reply.result.ack,
  c.answer-reply.result.published,
  c.answer-reply.result.confirmed,
  record {
    method = c.as_bytes.ensures.value ∙ c.as_str.ensures.value;
    path = c.path_of.ensures;
    ids = ap (map (λ id. id.now)) c.as_slice.ensures.value ∙ c.in-Ok.ensures;
    body = refl;
  },
  c.in-Ok-fresh_id.ensures,
  c.answer-reply.ensures.logged,
  c.answer-reply.ensures.answers,
)
