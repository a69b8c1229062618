-- Ids that the relay makes.
use Rattle.std.specs.Prelude.{◌≡◌, ◌++◌, ℕ, List, codes}
use Rattle.uuid.specs.Parts.{with_variant, with_version}
use Rattle.uuid.specs.Text.{hyphenated_text, lower}
use Rattle.uuid.specs.Uuid.{version_num}
use Rattle.uuid.specs.declared.Variant.TheVariants.{RFC4122}
use Rattle.uuid.specs.declared.Version.TheVariants.{Random}

-- `msg_` and a UUID with hyphens, in lower case
abbrev pub made_id : (uuid : List ℕ) → List ℕ
made_id uuid = codes "msg_" ++ hyphenated_text lower uuid

-- the UUID of version 4 of sixteen bytes: all of their bits, except six that say its variant and
-- its version
abbrev pub random_uuid : (bytes : List ℕ) → List ℕ
random_uuid bytes = with_version (with_variant bytes RFC4122) Random

-- the id of a UUID of version 4
pub record IsMadeId (id : List ℕ) : Type 0 where
  pub uuid : List ℕ
  pub version : version_num uuid ≡ 4
  pub text : id ≡ made_id uuid

-- the same of bytes that a source may give
pub record IsMadeOf (gives : List ℕ → Type 0) (id : List ℕ) : Type 0 where
  pub bytes : List ℕ
  pub given : gives bytes
  pub version : version_num (random_uuid bytes) ≡ 4
  pub text : id ≡ made_id (random_uuid bytes)
