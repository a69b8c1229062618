-- Facts about targets that the readers' proofs use.
use Rattle.std.proofs.Common.{◌≡◌, ◌≤◌, ℕ, Bool, cond, ltb, List, length, Some, None, IsTrue, nat_le, ◌&&◌, unwrap_or}
use Rattle.std.proofs.Common.{arith}
use Rattle.std.proofs.lemmas.Bool.{false≢true}
use Rattle.std.proofs.lemmas.Bool.Decides.{nat_tests}
use Rattle.std.proofs.lemmas.List.Sums.{prefix_len-le-length}
use Rattle.std.specs.List.{list_all, position, position_or_len}
use Rattle.relay_types.specs.Values.{is_target, has_scheme, is_host, host_of, is_port_part, port_part_of}
use Rattle.relay_types.specs.Values.{is_path_character, path_part_of}

place_or_end : (n len : ℕ) → n ≤ len → unwrap_or (cond (ltb n len) (Some n) None) len ≡ n
place_or_end n len h = grind (arith, nat_tests)

-- the place of the first, or the length where there is none
pub position-or_end : {X : Type 0} (p : X → Bool) (xs : List X)
    → unwrap_or (position p xs) (length xs) ≡ position_or_len p xs
position-or_end p xs = place_or_end (position_or_len p xs) (length xs) (prefix_len-le-length _ xs)

fourth_holds : (a b c d e : Bool) → IsTrue (a && (b && (c && (d && e)))) → IsTrue d
fourth_holds a b c d e h = grind (arith, false≢true)

-- the port of a target is written as it must be
pub is_target-port : (text : List ℕ) → IsTrue (is_target text) → IsTrue (is_port_part (port_part_of text))
is_target-port text =
    fourth_holds (nat_le (length text) 2048) (has_scheme text) (is_host (host_of text))
    (is_port_part (port_part_of text)) (list_all is_path_character (path_part_of text))
