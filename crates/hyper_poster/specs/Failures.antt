-- How refusals count.
use Rattle.std.specs.Prelude.{◌≡◌, ◌⊎◌, Some, pos}
use Rattle.std.specs.IoError.{error_kind, raw_os_error}
use Rattle.std.specs.declared.io.Error.{Error}
use Rattle.std.specs.declared.io.ErrorKind.TheVariants as kind
use Rattle.http_header.specs.declared.value.HeaderValueError.{HeaderValueError}
use Rattle.http_header.specs.declared.value.HeaderValueError.TheVariants as value
use Rattle.http_header.specs.declared.map.HeaderMapError.{HeaderMapError}
use Rattle.http_header.specs.declared.map.HeaderMapError.TheVariants as map
use Rattle.http_uri.specs.declared.error.UriError.{UriError}
use Rattle.http_uri.specs.declared.error.UriError.TheVariants as uri
use Rattle.hyper_poster.specs.declared.failure.Failure.{Failure}
use Rattle.hyper_poster.specs.declared.failure.Failure.TheVariants.{Unreached, Unsent}

-- This side refused: there was no memory, no descriptor for the process (24) or the system (23), or no room for a
-- socket (105).
abbrev pub IsRefusedHere : Error → Type 0
IsRefusedHere error = (error_kind error ≡ kind.OutOfMemory)
    ⊎ ((raw_os_error error ≡ Some (pos 24))
    ⊎ ((raw_os_error error ≡ Some (pos 23)) ⊎ (raw_os_error error ≡ Some (pos 105))))

-- a request that `http` doesn't take
abbrev pub of_uri : UriError → Failure
of_uri uri.OutOfMemory = Unsent
of_uri (uri.Invalid what) = Unreached

abbrev pub of_header_value : HeaderValueError → Failure
of_header_value value.OutOfMemory = Unsent
of_header_value value.Invalid = Unreached

abbrev pub of_header_map : HeaderMapError → Failure
of_header_map map.OutOfMemory = Unsent
of_header_map map.MaxSizeReached = Unreached
