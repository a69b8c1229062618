use Rattle.relay_types.proofs.TargetLemmas.{is_target-port}
use Rattle.relay_types.proofs.target.Target.port.Goals as goal

pub number_of_part-requires : goal.number_of_part-requires
number_of_part-requires c =
    rw (c.port_part.ensures, c.as_bytes.ensures.text) (is_target-port c.args.self.now c.as_bytes.ensures.valid)
