use Rattle.std.proofs.Common.{◌≡◌, ◌∙◌, ap, codes, ◌++◌, Some}
use Rattle.std.proofs.lemmas.Option.{IfSome_then}
use Rattle.std.proofs.lemmas.Slice.Eq.{strip_prefix_is}
use Rattle.std.proofs.lemmas.Bool.Decides.{Decides-eqb}
use Rattle.intake_shed.specs.RouteTable.{endpoint_path}
use Rattle.intake_shed.specs.Routes.{route_value}
use Rattle.intake_shed.proofs.PathLaws.{after_name, is_route}
use Rattle.intake_shed.proofs.routes.read_path.Goals as goal

pub returns-clause-some : goal.returns-clause-some
returns-clause-some c =
    let path : c.args.path.now ≡ endpoint_path c.split.result.0.now c.split.result.1.now =
    strip_prefix_is Decides-eqb c.args.path.now (codes "/v1/endpoints/") (Some c.in_ok-named.named)
    c.in_ok-named.ensures.cases
    ∙ ap (λ rest. codes "/v1/endpoints/" ++ rest) c.split.ensures.whole in
    IfSome_then c.read_after_name.result c.read_after_name.ensures.some
    (λ route h. is_route (route_value route) c.args.method.now c.args.path.now c.split.result.0.now c.split.result.1.now
    path
    c.split.ensures.clean h)

pub returns-clause-none : goal.returns-clause-none
returns-clause-none c = λ e value h.
    let path : c.args.path.now ≡ endpoint_path c.split.result.0.now c.split.result.1.now =
    strip_prefix_is Decides-eqb c.args.path.now (codes "/v1/endpoints/") (Some c.in_ok-named.named)
    c.in_ok-named.ensures.cases
    ∙ ap (λ rest. codes "/v1/endpoints/" ++ rest) c.split.ensures.whole in
    c.read_after_name.ensures.none e value
    (after_name value c.args.method.now c.args.path.now c.split.result.0.now c.split.result.1.now path
    c.split.ensures.clean c.split.ensures.rest h)
