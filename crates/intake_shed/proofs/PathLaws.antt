-- A path has one name of an endpoint, and one rest after it.
use Rattle.std.proofs.Common.{◌≡◌, ℕ, suc, ◌+◌, ◌==◌, Bool, true, false, not, cond, List, [], ◌∷◌, ◌++◌, take, drop}
use Rattle.std.proofs.Common.{IsTrue, codes, refl, sym, ap, ◌∙◌, subst, arith}
use Rattle.std.specs.List.{list_all, position_or_len}
use Rattle.std.proofs.lemmas.Bool.{and_parts, and_from, eqb-true, eq-eqb}
use Rattle.text_lines.specs.Parts.{has_no}
use Rattle.text_lines.proofs.NumberLaws.{bytes_not_equal, true_not_false}
use Rattle.intake_shed.specs.RouteTable.{RouteValue, Put, SetSecrets, SetEnabled, SetSubscribed, Submit, Publish}
use Rattle.intake_shed.specs.RouteTable.{Retention}
use Rattle.intake_shed.specs.RouteTable.{Totals, Endpoint, Event, IsRouteOf, endpoint_path, topic_path}
use Rattle.intake_shed.specs.Routes.{IsAfterName, StartsAt}

-- ---- the text before the first mark, and from it on

before-more : (mark c : ℕ) (text : List ℕ) (b : Bool) → (c == mark) ≡ b
    → IsTrue (has_no mark (take (position_or_len (λ x. x == mark) text) text))
    → IsTrue (has_no mark (take (cond (not b) (1 + position_or_len (λ x. x == mark) text) 0) (c ∷ text)))
before-more mark c text true e clean = refl
before-more mark c text false e clean =
    let next : suc (position_or_len (λ x. x == mark) text) ≡ 1 + position_or_len (λ x. x == mark) text = omega arith in
    subst (λ n. IsTrue (has_no mark (take n (c ∷ text)))) next
    (and_from (not (c == mark)) (has_no mark (take (position_or_len (λ x. x == mark) text) text)) (ap not e) clean)

pub before-clean : (mark : ℕ) (text : List ℕ) → IsTrue (has_no mark (take (position_or_len (λ x. x == mark) text) text))
before-clean mark [] = refl
before-clean mark (c ∷ text) = before-more mark c text (c == mark) refl (before-clean mark text)

from-more : (mark c : ℕ) (text : List ℕ) (b : Bool) → (c == mark) ≡ b
    → StartsAt mark (drop (position_or_len (λ x. x == mark) text) text)
    → StartsAt mark (drop (cond (not b) (1 + position_or_len (λ x. x == mark) text) 0) (c ∷ text))
from-more mark c text true e starts = eqb-true c mark e
from-more mark c text false e starts =
    let next : suc (position_or_len (λ x. x == mark) text) ≡ 1 + position_or_len (λ x. x == mark) text = omega arith in
    subst (λ n. StartsAt mark (drop n (c ∷ text))) next starts

pub from-starts : (mark : ℕ) (text : List ℕ) → StartsAt mark (drop (position_or_len (λ x. x == mark) text) text)
from-starts mark [] = tt
from-starts mark (c ∷ text) = from-more mark c text (c == mark) refl (from-starts mark text)

-- ---- a text is cut at its first mark in one way

marked : (mark c : ℕ) → c ≡ mark → IsTrue (not (c == mark)) → ⊥
marked mark c e h = true_not_false (sym h ∙ ap (λ x. not (x == mark)) e ∙ ap not (eq-eqb mark mark refl))

pub same_cut : (mark : ℕ) (a b x y : List ℕ) → IsTrue (has_no mark a) → IsTrue (has_no mark b) → StartsAt mark x
    → StartsAt mark y → a ++ x ≡ b ++ y
    → (a ≡ b) × (x ≡ y)
same_cut mark [] [] x y clean cleaner starts begins e = (refl, e)
same_cut mark [] (d ∷ b) [] y clean cleaner starts begins e = cc
same_cut mark [] (d ∷ b) (c ∷ x) y clean cleaner starts begins e =
    let same : d ≡ c = cc in
    absurd (marked mark d (same ∙ starts) (and_parts _ _ cleaner).0)
same_cut mark (c ∷ a) [] x [] clean cleaner starts begins e = cc
same_cut mark (c ∷ a) [] x (d ∷ y) clean cleaner starts begins e =
    let same : c ≡ d = cc in
    absurd (marked mark c (same ∙ begins) (and_parts _ _ clean).0)
same_cut mark (c ∷ a) (d ∷ b) x y clean cleaner starts begins e =
    let tail : a ++ x ≡ b ++ y = cc in
    let one = and_parts (not (c == mark)) (has_no mark a) clean in
    let other = and_parts (not (d == mark)) (has_no mark b) cleaner in
    let rest : (a ≡ b) × (x ≡ y) = same_cut mark a b x y one.1 other.1 starts begins tail in
    let head : c ≡ d = cc in
    let names : a ≡ b = rest.0 in
    let same : c ∷ a ≡ d ∷ b = cc in
    (same, rest.1)

-- ---- the route of a path

one_name : (path name its rest end : List ℕ) → path ≡ endpoint_path name rest → IsTrue (has_no 47 name)
    → StartsAt 47 rest
    → path ≡ endpoint_path its end → IsTrue (has_no 47 its) → StartsAt 47 end → (name ≡ its) × (rest ≡ end)
one_name path name its rest end e clean starts h cleaner begins =
    let tail : name ++ rest ≡ its ++ end = cc in
    same_cut 47 name its rest end clean cleaner starts begins tail

pub after_name : (route : RouteValue) (method path name rest : List ℕ) → path ≡ endpoint_path name rest
    → IsTrue (has_no 47 name) → StartsAt 47 rest
    → IsRouteOf route method path → IsAfterName route method name rest
after_name (Put its) method path name rest e clean starts h =
    let one = one_name path name its rest [] e clean starts h.of_path (and_parts _ _ h.no_slash).0 tt in
    (h.of_method, one.0, one.1)
after_name (SetSecrets its) method path name rest e clean starts h =
    let one = one_name path name its rest (codes "/secrets") e clean starts h.of_path (and_parts _ _ h.no_slash).0 refl
    in
    (h.of_method, one.0, one.1)
after_name (SetEnabled its) method path name rest e clean starts h =
    let one = one_name path name its rest (codes "/enabled") e clean starts h.of_path (and_parts _ _ h.no_slash).0 refl
    in
    (h.of_method, one.0, one.1)
after_name (SetSubscribed its topic) method path name rest e clean starts h =
    let one =
    one_name path name its rest (codes "/topics/" ++ topic) e clean starts h.of_path (and_parts _ _ h.no_slash).0 refl
    in
    (h.of_method, one.0, one.1, (and_parts _ _ (and_parts _ _ h.no_slash).1).0)
after_name (Submit its) method path name rest e clean starts h =
    let one = one_name path name its rest (codes "/events") e clean starts h.of_path (and_parts _ _ h.no_slash).0 refl
    in
    (h.of_method, one.0, one.1)
after_name (Publish topic) method path name rest e clean starts h =
    bytes_not_equal (topic_path topic) (endpoint_path name rest) false refl refl (sym h.of_path ∙ e)
after_name Retention method path name rest e clean starts h =
    bytes_not_equal (codes "/v1/retention") (endpoint_path name rest) false refl refl (sym h.of_path ∙ e)
after_name Totals method path name rest e clean starts h =
    bytes_not_equal (codes "/v1/status") (endpoint_path name rest) false refl refl (sym h.of_path ∙ e)
after_name (Endpoint its) method path name rest e clean starts h =
    let one = one_name path name its rest [] e clean starts h.of_path (and_parts _ _ h.no_slash).0 tt in
    (h.of_method, one.0, one.1)
after_name (Event its id) method path name rest e clean starts h =
    let one = one_name path name its rest (codes "/events/" ++ id) e clean starts h.of_path (and_parts _ _ h.no_slash).0
    refl in
    (h.of_method, one.0, one.1, (and_parts _ _ (and_parts _ _ h.no_slash).1).0)

one_part : (name its : List ℕ) → name ≡ its → IsTrue (has_no 47 name) → IsTrue (list_all (has_no 47) (its ∷ []))
one_part name its e clean = and_from _ _ (subst (λ x. IsTrue (has_no 47 x)) e clean) refl

two_parts : (name its part : List ℕ) → name ≡ its → IsTrue (has_no 47 name) → IsTrue (has_no 47 part)
    → IsTrue (list_all (has_no 47) (its ∷ part ∷ []))
two_parts name its part e clean clear =
    and_from _ _ (subst (λ x. IsTrue (has_no 47 x)) e clean) (and_from _ _ clear refl)

pub is_route : (route : RouteValue) (method path name rest : List ℕ) → path ≡ endpoint_path name rest
    → IsTrue (has_no 47 name)
    → IsAfterName route method name rest
    → IsRouteOf route method path
is_route (Put its) method path name rest e clean (m, n, r) =
    record { of_method = m; of_path = cc; no_slash = one_part name its n clean }
is_route (SetSecrets its) method path name rest e clean (m, n, r) =
    record { of_method = m; of_path = cc; no_slash = one_part name its n clean }
is_route (SetEnabled its) method path name rest e clean (m, n, r) =
    record { of_method = m; of_path = cc; no_slash = one_part name its n clean }
is_route (SetSubscribed its topic) method path name rest e clean (m, n, r, clear) = record {
  of_method = m;
  of_path = cc;
  no_slash = two_parts name its topic n clean clear;
}
is_route (Submit its) method path name rest e clean (m, n, r) =
    record { of_method = m; of_path = cc; no_slash = one_part name its n clean }
is_route (Publish topic) method path name rest e clean h = absurd h
is_route Retention method path name rest e clean h = absurd h
is_route Totals method path name rest e clean h = absurd h
is_route (Endpoint its) method path name rest e clean (m, n, r) =
    record { of_method = m; of_path = cc; no_slash = one_part name its n clean }
is_route (Event its id) method path name rest e clean (m, n, r, clear) = record {
  of_method = m;
  of_path = cc;
  no_slash = two_parts name its id n clean clear;
}

-- the route of a topic's path
pub is_publish : (method topic rest : List ℕ) → IsTrue (has_no 47 topic) → method ≡ codes "POST"
    → rest ≡ codes "/events"
    → IsRouteOf (Publish topic) method (codes "/v1/topics/" ++ (topic ++ rest))
is_publish method topic rest clean of_method of_rest = record {
  of_method = of_method;
  of_path = ap (λ (end : List ℕ). codes "/v1/topics/" ++ (topic ++ end)) of_rest;
  no_slash = one_part topic topic refl clean;
}

one_topic : (topic its rest end : List ℕ) → codes "/v1/topics/" ++ (topic ++ rest) ≡ codes "/v1/topics/" ++ (its ++ end)
    → IsTrue (has_no 47 topic) → StartsAt 47 rest → IsTrue (has_no 47 its) → StartsAt 47 end → (topic ≡ its)
    × (rest ≡ end)
one_topic topic its rest end e clean starts cleaner begins =
    let tail : topic ++ rest ≡ its ++ end = cc in
    same_cut 47 topic its rest end clean cleaner starts begins tail

pub same_topics : (topic its : List ℕ) → topic_path topic ≡ topic_path its → IsTrue (has_no 47 topic)
    → IsTrue (has_no 47 its)
    → topic ≡ its
same_topics topic its e clean cleaner =
    (one_topic topic its (codes "/events") (codes "/events") e clean refl cleaner refl).0

-- the route of a topic's path is that of its events
pub after_topics : (route : RouteValue) (method topic rest : List ℕ) → IsTrue (has_no 47 topic) → StartsAt 47 rest
    → IsRouteOf route method (codes "/v1/topics/" ++ (topic ++ rest)) → (method ≡ codes "POST")
    × (rest ≡ codes "/events")
after_topics (Publish its) method topic rest clean starts h = (
  h.of_method,
  (one_topic topic its rest (codes "/events") h.of_path clean starts (and_parts _ _ h.no_slash).0
      refl).1,
)
after_topics (Put its) method topic rest clean starts h = absurd
    (bytes_not_equal (codes "/v1/topics/" ++ (topic ++ rest)) (endpoint_path its []) false refl refl h.of_path)
after_topics (SetSecrets its) method topic rest clean starts h = absurd
    (bytes_not_equal (codes "/v1/topics/" ++ (topic ++ rest)) (endpoint_path its (codes "/secrets")) false refl refl
    h.of_path)
after_topics (SetEnabled its) method topic rest clean starts h = absurd
    (bytes_not_equal (codes "/v1/topics/" ++ (topic ++ rest)) (endpoint_path its (codes "/enabled")) false refl refl
    h.of_path)
after_topics (SetSubscribed its u) method topic rest clean starts h = absurd
    (bytes_not_equal (codes "/v1/topics/" ++ (topic ++ rest)) (endpoint_path its (codes "/topics/" ++ u)) false refl
    refl h.of_path)
after_topics (Submit its) method topic rest clean starts h = absurd
    (bytes_not_equal (codes "/v1/topics/" ++ (topic ++ rest)) (endpoint_path its (codes "/events")) false refl refl
    h.of_path)
after_topics Retention method topic rest clean starts h = absurd
    (bytes_not_equal (codes "/v1/topics/" ++ (topic ++ rest)) (codes "/v1/retention") false refl refl h.of_path)
after_topics Totals method topic rest clean starts h = absurd
    (bytes_not_equal (codes "/v1/topics/" ++ (topic ++ rest)) (codes "/v1/status") false refl refl h.of_path)
after_topics (Endpoint its) method topic rest clean starts h = absurd
    (bytes_not_equal (codes "/v1/topics/" ++ (topic ++ rest)) (endpoint_path its []) false refl refl h.of_path)
after_topics (Event its id) method topic rest clean starts h = absurd
    (bytes_not_equal (codes "/v1/topics/" ++ (topic ++ rest)) (endpoint_path its (codes "/events/" ++ id)) false refl
    refl h.of_path)
