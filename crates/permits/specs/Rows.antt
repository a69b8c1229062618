-- What the rows of the permits that are out say: how many an endpoint has, which delivery is out, which row is next.
use Rattle.std.specs.Prelude.{ℕ, ◌+◌, Bool, ◌&&◌, nat_eq, List, count_by, bytes_eq}
use Rattle.std.specs.List.{list_any}
use Rattle.permits.specs.declared.row.Row.{Row}

-- whether two rows have one endpoint, one delivery and one in-flight number
abbrev pub same_row : Row → Row → Bool
same_row a b = bytes_eq a.endpoint b.endpoint && (nat_eq a.delivery b.delivery && nat_eq a.inflight b.inflight)

-- how many rows an endpoint has
abbrev pub in_flight_of : List ℕ → List Row → ℕ
in_flight_of endpoint rows = count_by (λ row. bytes_eq row.endpoint endpoint) rows

-- whether some row is of the delivery
abbrev pub is_out : ℕ → List Row → Bool
is_out delivery rows = list_any (λ row. nat_eq row.delivery delivery) rows

-- the row of a permit that is acquired while these are out; its in-flight number counts it too
abbrev pub next_row : List ℕ → ℕ → List Row → Row
next_row endpoint delivery rows = record {
  endpoint = endpoint;
  delivery = delivery;
  inflight = in_flight_of endpoint rows + 1;
}
