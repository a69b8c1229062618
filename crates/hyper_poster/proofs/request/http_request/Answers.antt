use Rattle.std.proofs.Common.{rules}
use Rattle.hyper_poster.proofs.request.http_request.Goals as goal

pub returns : goal.returns
returns c = record {
  method = search rules;
  target = search rules;
  headers = search rules;
  body = search rules;
}
