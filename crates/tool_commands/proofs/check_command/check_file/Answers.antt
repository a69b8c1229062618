use Rattle.std.proofs.Common.{Err, inl, inr, ap, rules}
use Rattle.sqlite.specs.WalFiles.{image_at}
use Rattle.tool_commands.proofs.CheckLaws.{counted_in}
use Rattle.tool_commands.proofs.check_command.check_file.Goals as goal

pub returns-in-Ok-connect : goal.returns-in-Ok-connect
returns-in-Ok-connect g c =
    let told = c.check_store-conn.ensures.checks in
    record {
      checks = (
        told.0,
        counted_in (image_at g.T.Start) c.in-Ok.is_new c.in-Ok-connect.conn c.check_store-conn.result.0 told.0
            c.check_store-conn.ensures.clean c.in-Ok-connect.ensures.opened c.in-Ok-connect.ensures.finds told.1,
        told.2,
      );
    }

pub returns-in-Err-connect : goal.returns-in-Err-connect
returns-in-Err-connect g c =
    let told = c.end-in-Err-connect.ensures in
    record {
      checks = (
        Err c.in-Err-connect.fault,
        inr c.in-Err-connect.ensures.refused,
        (
          Err c.from-in-Err-connect.result,
          told.status,
          told.tells,
          (ap Err c.from-in-Err-connect.ensures, search rules),
        ),
      );
    }

pub returns-in-Err : goal.returns-in-Err
returns-in-Err g c = record {
  checks = (
    Err c.in-Err.fault,
    inl c.in-Err.ensures.fault,
    (Err c.from.result, c.end.ensures.status, c.end.ensures.tells, (ap Err c.from.ensures, search rules)),
  );
}
