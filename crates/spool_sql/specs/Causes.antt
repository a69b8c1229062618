-- What a failed statement tells of the store.
use Rattle.std.specs.Prelude.{ℕ, Bool, true, false, Result, Ok, Err}
use Rattle.sqlite_schema.specs.declared.schema.Constraint.TheVariants.{Unique}
use Rattle.sqlite.specs.declared.error.ErrorCode.TheVariants as code
use Rattle.sqlite.specs.declared.error.Error.{Error}
use Rattle.sqlite.specs.declared.error.Error.TheVariants.{SqliteFailure}
use Rattle.spool_sql.specs.declared.cause.Cause.{Cause}
use Rattle.spool_sql.specs.declared.cause.Cause.TheVariants.{Memory, Store, Other}

abbrev pub cause : Error → Cause
cause (SqliteFailure code.OutOfMemory) = Memory
cause (SqliteFailure code.SystemIoFailure) = Store
cause (SqliteFailure code.DatabaseCorrupt) = Store
cause (SqliteFailure code.DiskFull) = Store
cause (SqliteFailure code.Closed) = Store
cause (SqliteFailure code.TooBig) = Store
cause (SqliteFailure code.OperationInterrupted) = Store
cause (SqliteFailure code.TransactionState) = Store
cause _ = Other

-- another row has the same key under a UNIQUE
abbrev pub key_taken : Error
key_taken = SqliteFailure (code.ConstraintViolation Unique)

-- Whether an INSERT added its row. That the key is taken is an answer, and no error.
abbrev pub is_added : Result ℕ Error → Result Bool Error
is_added (Ok count) = Ok true
is_added (Err (SqliteFailure (code.ConstraintViolation Unique))) = Ok false
is_added (Err error) = Err error
