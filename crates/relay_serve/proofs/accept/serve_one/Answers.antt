use Rattle.relay_serve.proofs.accept.serve_one.Goals as goal

pub block_on-requires : goal.block_on-requires
block_on-requires g c = rw c.in_ok-timed.ensures.value c.serve_connection-connection.ensures.runs
