-- A request is on at most one route of the table.
use Rattle.std.proofs.Common.{◌≡◌, ℕ, false, List, [], ◌++◌, take, IsTrue, codes, bytes_eq, refl, sym, ap, ◌∙◌}
use Rattle.std.proofs.lemmas.Bool.{and_parts}
use Rattle.text_lines.specs.Parts.{has_no}
use Rattle.text_lines.proofs.NumberLaws.{bytes_not_equal}
use Rattle.intake_shed.specs.RouteTable.{RouteValue, Put, SetSecrets, SetEnabled, SetSubscribed, Submit, Publish}
use Rattle.intake_shed.specs.RouteTable.{Retention}
use Rattle.intake_shed.specs.RouteTable.{Totals, Endpoint, Event, IsRouteOf, endpoint_path, topic_path}
use Rattle.intake_shed.specs.Routes.{IsAfterName, StartsAt}
use Rattle.intake_shed.proofs.PathLaws.{after_name, same_topics}

-- one text isn't two
differ : {a b text : List ℕ} → text ≡ a → text ≡ b → false ≡ bytes_eq a b → ⊥
differ h k e = bytes_not_equal _ _ false e refl (sym h ∙ k)

no_rest : (id : List ℕ) → [] ≡ codes "/events/" ++ id → ⊥
no_rest id e = cc

not_topics : (rest topic : List ℕ) → false ≡ bytes_eq (take 2 rest) (codes "/t") → rest ≡ codes "/topics/" ++ topic → ⊥
not_topics rest topic e h = bytes_not_equal (take 2 rest) (codes "/t") false e refl (ap (take 2) h)

same_topic : (a b : List ℕ) → codes "/topics/" ++ a ≡ codes "/topics/" ++ b → a ≡ b
same_topic a b e = cc

same_id : (a b : List ℕ) → codes "/events/" ++ a ≡ codes "/events/" ++ b → a ≡ b
same_id a b e = cc

-- the route of a method, a name, and what follows the name
one_after_name : (a b : RouteValue) (method name rest : List ℕ) → IsAfterName a method name rest
    → IsAfterName b method name rest → a ≡ b
one_after_name (Publish t) b method name rest h k = absurd h
one_after_name Retention b method name rest h k = absurd h
one_after_name Totals b method name rest h k = absurd h
one_after_name (Put x) (Publish u) method name rest h k = absurd k
one_after_name (Put x) Retention method name rest h k = absurd k
one_after_name (Put x) Totals method name rest h k = absurd k
one_after_name (Put x) (Put y) method name rest (m, n, r) (m', n', r') = ap Put (sym n ∙ n')
one_after_name (Put x) (SetSecrets y) method name rest (m, n, r) (m', n', r') = absurd (differ r r' refl)
one_after_name (Put x) (SetEnabled y) method name rest (m, n, r) (m', n', r') = absurd (differ r r' refl)
one_after_name (Put x) (SetSubscribed y u) method name rest (m, n, r) (m', n', r', clear') =
    absurd (not_topics [] u refl (sym r ∙ r'))
one_after_name (Put x) (Submit y) method name rest (m, n, r) (m', n', r') = absurd (differ m m' refl)
one_after_name (Put x) (Endpoint y) method name rest (m, n, r) (m', n', r') = absurd (differ m m' refl)
one_after_name (Put x) (Event y j) method name rest (m, n, r) (m', n', r', clear') = absurd (differ m m' refl)
one_after_name (SetSecrets x) (Publish u) method name rest h k = absurd k
one_after_name (SetSecrets x) Retention method name rest h k = absurd k
one_after_name (SetSecrets x) Totals method name rest h k = absurd k
one_after_name (SetSecrets x) (Put y) method name rest (m, n, r) (m', n', r') = absurd (differ r r' refl)
one_after_name (SetSecrets x) (SetSecrets y) method name rest (m, n, r) (m', n', r') = ap SetSecrets (sym n ∙ n')
one_after_name (SetSecrets x) (SetEnabled y) method name rest (m, n, r) (m', n', r') = absurd (differ r r' refl)
one_after_name (SetSecrets x) (SetSubscribed y u) method name rest (m, n, r) (m', n', r', clear') =
    absurd (not_topics (codes "/secrets") u refl (sym r ∙ r'))
one_after_name (SetSecrets x) (Submit y) method name rest (m, n, r) (m', n', r') = absurd (differ m m' refl)
one_after_name (SetSecrets x) (Endpoint y) method name rest (m, n, r) (m', n', r') = absurd (differ m m' refl)
one_after_name (SetSecrets x) (Event y j) method name rest (m, n, r) (m', n', r', clear') = absurd (differ m m' refl)
one_after_name (SetEnabled x) (Publish u) method name rest h k = absurd k
one_after_name (SetEnabled x) Retention method name rest h k = absurd k
one_after_name (SetEnabled x) Totals method name rest h k = absurd k
one_after_name (SetEnabled x) (Put y) method name rest (m, n, r) (m', n', r') = absurd (differ r r' refl)
one_after_name (SetEnabled x) (SetSecrets y) method name rest (m, n, r) (m', n', r') = absurd (differ r r' refl)
one_after_name (SetEnabled x) (SetEnabled y) method name rest (m, n, r) (m', n', r') = ap SetEnabled (sym n ∙ n')
one_after_name (SetEnabled x) (SetSubscribed y u) method name rest (m, n, r) (m', n', r', clear') =
    absurd (not_topics (codes "/enabled") u refl (sym r ∙ r'))
one_after_name (SetEnabled x) (Submit y) method name rest (m, n, r) (m', n', r') = absurd (differ m m' refl)
one_after_name (SetEnabled x) (Endpoint y) method name rest (m, n, r) (m', n', r') = absurd (differ m m' refl)
one_after_name (SetEnabled x) (Event y j) method name rest (m, n, r) (m', n', r', clear') = absurd (differ m m' refl)
one_after_name (SetSubscribed x t) (Publish u) method name rest h k = absurd k
one_after_name (SetSubscribed x t) Retention method name rest h k = absurd k
one_after_name (SetSubscribed x t) Totals method name rest h k = absurd k
one_after_name (SetSubscribed x t) (Put y) method name rest (m, n, r, clear) (m', n', r') =
    absurd (not_topics [] t refl (sym r' ∙ r))
one_after_name (SetSubscribed x t) (SetSecrets y) method name rest (m, n, r, clear) (m', n', r') =
    absurd (not_topics (codes "/secrets") t refl (sym r' ∙ r))
one_after_name (SetSubscribed x t) (SetEnabled y) method name rest (m, n, r, clear) (m', n', r') =
    absurd (not_topics (codes "/enabled") t refl (sym r' ∙ r))
one_after_name (SetSubscribed x t) (SetSubscribed y u) method name rest (m, n, r, clear) (m', n', r', clear') =
    let e : x ≡ y = sym n ∙ n' in
    let same : t ≡ u = same_topic t u (sym r ∙ r') in
    cc
one_after_name (SetSubscribed x t) (Submit y) method name rest (m, n, r, clear) (m', n', r') = absurd (differ m m' refl)
one_after_name (SetSubscribed x t) (Endpoint y) method name rest (m, n, r, clear) (m', n', r') = absurd
    (differ m m' refl)
one_after_name (SetSubscribed x t) (Event y j) method name rest (m, n, r, clear) (m', n', r', clear') =
    absurd (differ m m' refl)
one_after_name (Submit x) (Publish u) method name rest h k = absurd k
one_after_name (Submit x) Retention method name rest h k = absurd k
one_after_name (Submit x) Totals method name rest h k = absurd k
one_after_name (Submit x) (Put y) method name rest (m, n, r) (m', n', r') = absurd (differ m m' refl)
one_after_name (Submit x) (SetSecrets y) method name rest (m, n, r) (m', n', r') = absurd (differ m m' refl)
one_after_name (Submit x) (SetEnabled y) method name rest (m, n, r) (m', n', r') = absurd (differ m m' refl)
one_after_name (Submit x) (SetSubscribed y u) method name rest (m, n, r) (m', n', r', clear') = absurd
    (differ m m' refl)
one_after_name (Submit x) (Submit y) method name rest (m, n, r) (m', n', r') = ap Submit (sym n ∙ n')
one_after_name (Submit x) (Endpoint y) method name rest (m, n, r) (m', n', r') = absurd (differ m m' refl)
one_after_name (Submit x) (Event y j) method name rest (m, n, r) (m', n', r', clear') = absurd (differ m m' refl)
one_after_name (Endpoint x) (Publish u) method name rest h k = absurd k
one_after_name (Endpoint x) Retention method name rest h k = absurd k
one_after_name (Endpoint x) Totals method name rest h k = absurd k
one_after_name (Endpoint x) (Put y) method name rest (m, n, r) (m', n', r') = absurd (differ m m' refl)
one_after_name (Endpoint x) (SetSecrets y) method name rest (m, n, r) (m', n', r') = absurd (differ m m' refl)
one_after_name (Endpoint x) (SetEnabled y) method name rest (m, n, r) (m', n', r') = absurd (differ m m' refl)
one_after_name (Endpoint x) (SetSubscribed y u) method name rest (m, n, r) (m', n', r', clear') = absurd
    (differ m m' refl)
one_after_name (Endpoint x) (Submit y) method name rest (m, n, r) (m', n', r') = absurd (differ m m' refl)
one_after_name (Endpoint x) (Endpoint y) method name rest (m, n, r) (m', n', r') = ap Endpoint (sym n ∙ n')
one_after_name (Endpoint x) (Event y j) method name rest (m, n, r) (m', n', r', clear') = absurd
    (no_rest j (sym r ∙ r'))
one_after_name (Event x i) (Publish u) method name rest h k = absurd k
one_after_name (Event x i) Retention method name rest h k = absurd k
one_after_name (Event x i) Totals method name rest h k = absurd k
one_after_name (Event x i) (Put y) method name rest (m, n, r, clear) (m', n', r') = absurd (differ m m' refl)
one_after_name (Event x i) (SetSecrets y) method name rest (m, n, r, clear) (m', n', r') = absurd (differ m m' refl)
one_after_name (Event x i) (SetEnabled y) method name rest (m, n, r, clear) (m', n', r') = absurd (differ m m' refl)
one_after_name (Event x i) (SetSubscribed y u) method name rest (m, n, r, clear) (m', n', r', clear') =
    absurd (differ m m' refl)
one_after_name (Event x i) (Submit y) method name rest (m, n, r, clear) (m', n', r') = absurd (differ m m' refl)
one_after_name (Event x i) (Endpoint y) method name rest (m, n, r, clear) (m', n', r') = absurd (no_rest i (sym r' ∙ r))
one_after_name (Event x i) (Event y j) method name rest (m, n, r, clear) (m', n', r', clear') = let e : x ≡ y = sym n
    ∙ n'
    in let t : i ≡ j = same_id i j (sym r ∙ r') in cc

-- the route of a method and a path
with_name : (route b : RouteValue) (method path name rest : List ℕ) → path ≡ endpoint_path name rest
    → IsTrue (has_no 47 name)
    → StartsAt 47 rest
    → IsRouteOf route method path → IsRouteOf b method path → route ≡ b
with_name route b method path name rest e clean starts h k =
    one_after_name route b method name rest (after_name route method path name rest e clean starts h)
    (after_name b method path name rest e clean starts k)

not_totals : (path name rest : List ℕ) → path ≡ codes "/v1/status" → path ≡ endpoint_path name rest → ⊥
not_totals path name rest h k = differ h k refl

not_retention : (path name rest : List ℕ) → path ≡ codes "/v1/retention" → path ≡ endpoint_path name rest → ⊥
not_retention path name rest h k = differ h k refl

not_topics_path : (path name rest topic : List ℕ) → path ≡ topic_path topic → path ≡ endpoint_path name rest → ⊥
not_topics_path path name rest topic h k = differ h k refl

pub one_route : (a b : RouteValue) (method path : List ℕ) → IsRouteOf a method path → IsRouteOf b method path → a ≡ b
one_route (Put x) b method path h k = with_name (Put x) b method path x [] h.of_path (and_parts _ _ h.no_slash).0 tt h k
one_route (SetSecrets x) b method path h k = with_name (SetSecrets x) b method path x (codes "/secrets") h.of_path
    (and_parts _ _ h.no_slash).0 refl h k
one_route (SetEnabled x) b method path h k = with_name (SetEnabled x) b method path x (codes "/enabled") h.of_path
    (and_parts _ _ h.no_slash).0 refl h k
one_route (SetSubscribed x t) b method path h k =
    with_name (SetSubscribed x t) b method path x (codes "/topics/" ++ t)
    h.of_path (and_parts _ _ h.no_slash).0 refl h k
one_route (Submit x) b method path h k = with_name (Submit x) b method path x (codes "/events") h.of_path
    (and_parts _ _ h.no_slash).0 refl h k
one_route (Endpoint x) b method path h k = with_name (Endpoint x) b method path x [] h.of_path
    (and_parts _ _ h.no_slash).0 tt h k
one_route (Event x i) b method path h k =
    with_name (Event x i) b method path x (codes "/events/" ++ i) h.of_path (and_parts _ _ h.no_slash).0 refl h k
one_route (Publish t) (Publish u) method path h k =
    ap Publish (same_topics t u (sym h.of_path ∙ k.of_path) (and_parts _ _ h.no_slash).0 (and_parts _ _ k.no_slash).0)
one_route (Publish t) Retention method path h k = absurd (differ h.of_path k.of_path refl)
one_route (Publish t) Totals method path h k = absurd (differ h.of_path k.of_path refl)
one_route (Publish t) (Put y) method path h k = absurd (not_topics_path path y [] t h.of_path k.of_path)
one_route (Publish t) (SetSecrets y) method path h k = absurd
    (not_topics_path path y (codes "/secrets") t h.of_path k.of_path)
one_route (Publish t) (SetEnabled y) method path h k = absurd
    (not_topics_path path y (codes "/enabled") t h.of_path k.of_path)
one_route (Publish t) (SetSubscribed y u) method path h k = absurd
    (not_topics_path path y (codes "/topics/" ++ u) t h.of_path k.of_path)
one_route (Publish t) (Submit y) method path h k = absurd
    (not_topics_path path y (codes "/events") t h.of_path k.of_path)
one_route (Publish t) (Endpoint y) method path h k = absurd (not_topics_path path y [] t h.of_path k.of_path)
one_route (Publish t) (Event y j) method path h k = absurd
    (not_topics_path path y (codes "/events/" ++ j) t h.of_path k.of_path)
one_route Retention Retention method path h k = refl
one_route Retention Totals method path h k = absurd (differ h.of_path k.of_path refl)
one_route Retention (Publish u) method path h k = absurd (differ h.of_path k.of_path refl)
one_route Retention (Put y) method path h k = absurd (not_retention path y [] h.of_path k.of_path)
one_route Retention (SetSecrets y) method path h k =
    absurd (not_retention path y (codes "/secrets") h.of_path k.of_path)
one_route Retention (SetEnabled y) method path h k =
    absurd (not_retention path y (codes "/enabled") h.of_path k.of_path)
one_route Retention (SetSubscribed y u) method path h k =
    absurd (not_retention path y (codes "/topics/" ++ u) h.of_path k.of_path)
one_route Retention (Submit y) method path h k = absurd (not_retention path y (codes "/events") h.of_path k.of_path)
one_route Retention (Endpoint y) method path h k = absurd (not_retention path y [] h.of_path k.of_path)
one_route Retention (Event y j) method path h k =
    absurd (not_retention path y (codes "/events/" ++ j) h.of_path k.of_path)
one_route Totals Totals method path h k = refl
one_route Totals Retention method path h k = absurd (differ h.of_path k.of_path refl)
one_route Totals (Publish u) method path h k = absurd (differ h.of_path k.of_path refl)
one_route Totals (Put y) method path h k = absurd (not_totals path y [] h.of_path k.of_path)
one_route Totals (SetSecrets y) method path h k = absurd (not_totals path y (codes "/secrets") h.of_path k.of_path)
one_route Totals (SetEnabled y) method path h k = absurd (not_totals path y (codes "/enabled") h.of_path k.of_path)
one_route Totals (SetSubscribed y u) method path h k =
    absurd (not_totals path y (codes "/topics/" ++ u) h.of_path k.of_path)
one_route Totals (Submit y) method path h k = absurd (not_totals path y (codes "/events") h.of_path k.of_path)
one_route Totals (Endpoint y) method path h k = absurd (not_totals path y [] h.of_path k.of_path)
one_route Totals (Event y j) method path h k = absurd (not_totals path y (codes "/events/" ++ j) h.of_path k.of_path)
