-- The places of the secrets of an endpoint.
use Rattle.std.specs.Prelude.{ℕ, ◌==◌, ◌&&◌, Bool, List, length, map, filter}
use Rattle.std.specs.List.{list_all, enumerate_from}
use Rattle.std.specs.declared.cmp.Ordering.{Ordering}
use Rattle.std.specs.Ordering.{nat_cmp, ordering_then}
use Rattle.relay_types.specs.declared.limits.TheConstants.{MAX_SECRETS}
use Rattle.relay_types.specs.Values.{Seq, is_between}
use Rattle.sound_tables.specs.declared.secret.Secret.{Secret}

-- by their endpoints, and those of one endpoint by their places
abbrev pub by_place : Secret → Secret → Ordering
by_place s t = ordering_then (nat_cmp s.endpoint t.endpoint) (nat_cmp s.place t.place)

-- the places of this endpoint's secrets
abbrev pub places_of : Seq → List Secret → List ℕ
places_of put secrets = map (λ s. s.place) (filter (λ s. s.endpoint == put) secrets)

-- they are 0, 1, .., and as many as an endpoint may have
abbrev pub are_places : List ℕ → Bool
are_places places = is_between 1 MAX_SECRETS (length places) && list_all (λ p. p.1 == p.0) (enumerate_from 0 places)
