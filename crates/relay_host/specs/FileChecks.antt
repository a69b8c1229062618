-- What an error of a look at a path means.
use Rattle.std.specs.declared.io.ErrorKind.{ErrorKind}
use Rattle.std.specs.declared.io.ErrorKind.TheVariants.{NotFound, NotADirectory, FilesystemLoop, OutOfMemory}
use Rattle.relay_host.specs.declared.place.FileCheck.{FileCheck}
use Rattle.relay_host.specs.declared.place.FileCheck.TheVariants as check

-- If the path leads nowhere, nothing is there. Every other error hides what is there, except out of
-- memory.
abbrev pub check_of_error : ErrorKind → FileCheck
check_of_error NotFound = check.Gone
check_of_error NotADirectory = check.Gone
check_of_error FilesystemLoop = check.Gone
check_of_error OutOfMemory = check.OutOfMemory
check_of_error _ = check.Unseen
