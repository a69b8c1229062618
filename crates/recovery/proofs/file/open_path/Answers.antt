use Rattle.std.proofs.Common.{inl, inr}
use Rattle.std.proofs.lemmas.Result.{err_from_is_err_and}
use Rattle.recovery.proofs.FileLaws.{refused_so}
use Rattle.recovery.proofs.file.open_path.Goals as goal

pub returns-in_err-is_new-clause-refused : goal.returns-in_err-is_new-clause-refused
returns-in_err-is_new-clause-refused g c =
    let p = err_from_is_err_and c.from_residual.result c.from_residual.ensures.1 in
    rw (p.1, p.2) (inl c.in_err-is_new.ensures.fault)

pub returns-clause-refused : goal.returns-clause-refused
returns-clause-refused g c = refused_so _ _ c.open_file.result (λ fault why. inr (c.in_ok-is_new.is_new, why))
    c.open_file.ensures.refused
