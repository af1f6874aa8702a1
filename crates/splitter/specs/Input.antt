-- What comes of reading a text.
use Rattle.std.specs.Prelude.{ℕ, Option, None, Some, Result, Ok, Err}
use Rattle.std.specs.IoError.{error_kind}
use Rattle.std.specs.declared.io.Error.{Error}
use Rattle.std.specs.declared.io.ErrorKind.{ErrorKind}
use Rattle.std.specs.declared.io.ErrorKind.TheVariants as kind

-- what an error of a read counts for, by its kind: nothing where a signal interrupted the read, else a failure
abbrev pub stopped : Error → ErrorKind → Option (Result ℕ Error)
stopped e kind.Interrupted = None
stopped e _ = Some (Err e)

-- what a read's answer counts for: a number of bytes, 0 at the end of the input; an error is a failure, or nothing where a signal interrupted the read
abbrev pub judged : Result ℕ Error → Option (Result ℕ Error)
judged (Ok n) = Some (Ok n)
judged (Err e) = stopped e (error_kind e)
