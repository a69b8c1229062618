-- What is read of a request, as far as `hyper` shows it.
use Rattle.std.specs.Prelude.{ℕ, Bool, not, List, [], unwrap_or, option_map, map, bytes_eq, codes}
use Rattle.std.specs.Char.{to_ascii_lowercase}
use Rattle.std.specs.List.{list_any}
use Rattle.http_uri.specs.declared.uri.Uri.{Uri}
use Rattle.http_uri.specs.Grammar.{or_slash}
use Rattle.http_uri.specs.Uri.{uri_path_and_query}
use Rattle.http_header.specs.FieldValue.{FieldValue}
use Rattle.http_header.specs.HeaderMap.{Entries, get_all}

-- the path with its query, `/` in place of none; a target that is an authority alone has none
abbrev pub path_shown : Uri → List ℕ
path_shown uri = unwrap_or (option_map or_slash (uri_path_and_query uri)) []

-- the values of all headers of this name, in their order
abbrev pub values_shown : Entries FieldValue → (name : List ℕ) → List (List ℕ)
values_shown headers name = map (λ value. value.bytes) (get_all headers name)

-- the coding is chunks, in letters of either case
abbrev pub is_chunked : (coding : List ℕ) → Bool
is_chunked coding = bytes_eq (map to_ascii_lowercase coding) (codes "chunked")

-- one of the codings isn't chunks
abbrev pub has_unknown_coding : Entries FieldValue → Bool
has_unknown_coding headers =
    list_any (λ coding. not (is_chunked coding)) (values_shown headers (codes "transfer-encoding"))
