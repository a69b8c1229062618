use Rattle.std.proofs.Common.{inl, inr}
use Rattle.std.proofs.lemmas.Result.{err_from_is_err_and}
use Rattle.sqlite.specs.Files.{over_files, file_state}
use Rattle.sqlite.specs.WalFiles.{image_at}
use Rattle.recovery.proofs.FileLaws.{back_or, file_opened, file_refused, holds_first, left_or, not_new}
use Rattle.recovery.proofs.file.open_file.Goals as goal

pub returns-in-Ok-clause-opened : goal.returns-in-Ok-clause-opened
returns-in-Ok-clause-opened g c clean =
    let before = c.in-Ok.ensures.clean clean in
    let opened = c.in_ok-conn.ensures.opened before in
    file_opened over_files c.in-Ok.opening.0 c.in-Ok.opening.1 (image_at g.T.Start)
    c.in_ok-conn.conn opened.1 opened.0 (c.in_ok-conn.ensures.finds before)
    (c.in-Ok.ensures.opened clean) (λ some. c.in-Ok.ensures.left (λ new. some new.1) clean)

pub returns-in-Ok-clause-whole : goal.returns-in-Ok-clause-whole
returns-in-Ok-clause-whole g c old clean =
    let before = c.in-Ok.ensures.clean clean in
    let opened = c.in_ok-conn.ensures.opened before in
    holds_first (image_at g.T.Start) (file_state c.in_ok-conn.conn) opened.1 opened.0
    (c.in_ok-conn.ensures.finds before) (c.in-Ok.ensures.whole (not_new c.args.is_new _ old) clean)

pub returns-in-Err-clause-refused : goal.returns-in-Err-clause-refused
returns-in-Err-clause-refused g c = inr (
  c.in_ok-conn.conn,
  c.in-Err._back,
  λ clean.
      let before = c.in-Err.ensures.clean clean in
      let opened = c.in_ok-conn.ensures.opened before in
      file_refused (image_at g.T.Start) (file_state c.in_ok-conn.conn) (file_state c.in-Err._back) c.in-Err.fault
      c.args.is_new opened.1 opened.0 (c.in_ok-conn.ensures.finds before)
      c.in-Err.ensures.ours (λ none old. c.in-Err.ensures.foreign none old clean)
      (λ none old. back_or over_files c.in_ok-conn.conn c.in-Err._back opened.0 clean
      (c.in-Err.ensures.back none old))
      (c.in-Err.ensures.refused clean) (c.in-Err.ensures.sound clean) (c.in-Err.ensures.first clean)
      (λ new none. let made = c.in-Err.ensures.made new none in
      (made.0, left_or over_files c.in_ok-conn.conn c.in-Err._back c.in-Err.fault clean made.1))
      (λ old. c.in-Err.ensures.left old clean),
)

pub returns-in_err-conn-clause-refused : goal.returns-in_err-conn-clause-refused
returns-in_err-conn-clause-refused g c =
    let p = err_from_is_err_and c.from_residual.result c.from_residual.ensures.1 in
    rw (p.1, p.2) (inl c.in_err-conn.ensures.refused)
