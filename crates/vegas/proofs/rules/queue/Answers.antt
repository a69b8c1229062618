use Rattle.std.proofs.Common.{◌-◌, ◌*◌, sym}
use Rattle.std.proofs.lemmas.Grind.{div_ceil_times}
use Rattle.vegas.proofs.RuleLaws.{queue-is}
use Rattle.vegas.proofs.rules.queue.Goals as goal

pub returns : goal.returns
returns c =
    let bounds = div_ceil_times (c.args.limit * (c.args.round_trip - c.args.noload)) c.args.round_trip c.requires.some
    in
    record {
      value = rw (c.div_ceil.ensures, c.from.ensures)
          (sym (queue-is c.args.limit c.args.round_trip c.args.noload _ bounds.0 bounds.1));
    }
