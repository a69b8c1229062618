use Rattle.std.proofs.Common.{◌≡◌, true, Result, Err, IsTrue, ◌&&◌, refl, sym, ap, ◌∙◌, subst}
use Rattle.std.specs.Prelude.{IfErr, IsErrAnd}
use Rattle.std.proofs.lemmas.Bool.{and_from}
use Rattle.std.proofs.lemmas.Result.{err_from_is_err_and}
use Rattle.relay_types.specs.Values.{Text, is_name}
use Rattle.intake_shed.specs.Bodies.{IsBadPut, IsBadByValue}
use Rattle.intake_shed.specs.RouteTable.{Put}
use Rattle.intake_shed.specs.Requests.{FailsOnRoute, is_within_limit, passes_checks, bytes_of}
use Rattle.intake_shed.specs.Routes.{route_value}
use Rattle.intake_shed.specs.declared.ask.Ask.{Ask}
use Rattle.intake_shed.specs.declared.fault.RequestError.{RequestError}
use Rattle.intake_shed.specs.declared.fault.RequestError.TheVariants as fault
use Rattle.intake_shed.proofs.reading.read_on.Goals as goal

abbrev refusing : {A : Type 0} → RequestError → Result A RequestError
refusing why = Err why

-- what is handed on
handed_on : {A : Type 0} (result : Result A RequestError) (why : RequestError) (P : RequestError → Type 0)
    → IsErrAnd result (λ other. other ≡ why) → P why → IfErr result P
handed_on {A} result why P h p =
    let err = err_from_is_err_and result h in
    subst (λ r. IfErr r P) (sym (err.1 ∙ ap (λ x. refusing {A = A} x) err.2)) p

-- a bad body of a new endpoint is one of the checks after those of name and size
bad_put_on : (name : Text) (ask : Ask) (why : RequestError) → IsTrue (passes_checks (Put name) ask)
    → IsBadByValue IsBadPut (bytes_of ask.body) why → FailsOnRoute (Put name) ask why
bad_put_on name ask fault.NotFound parts h = (parts, h)
bad_put_on name ask fault.BadName parts (v, json, (url, max, list, members, bad)) = absurd bad
bad_put_on name ask fault.TooLong parts (v, json, (url, max, list, members, bad)) = absurd bad
bad_put_on name ask fault.BadId parts (v, json, (url, max, list, members, bad)) = absurd bad
bad_put_on name ask fault.BadBody parts h = (parts, h)
bad_put_on name ask fault.BadUrl parts h = (parts, h)
bad_put_on name ask fault.BadMax parts h = (parts, h)
bad_put_on name ask fault.BadSecret parts h = (parts, h)
bad_put_on name ask fault.BadMoment parts (v, json, (url, max, list, members, bad)) = absurd bad
bad_put_on name ask fault.OutOfMemory parts h = (parts, h)

pub returns-in_err-read_put-in-Put-clause-refused : goal.returns-in_err-read_put-in-Put-clause-refused
returns-in_err-read_put-in-Put-clause-refused c =
    let ask = c.args.ask.now in
    let name = c.in-Put.name.now in
    let why = c.in_err-read_put-in-Put.field-0.0 in
    let roomy : IsTrue (is_within_limit ask.body && true) = and_from (is_within_limit ask.body) true
    c.in_ok-body-in-Put.ensures.passes refl in
    let parts : IsTrue (passes_checks (Put name) ask) = and_from (is_name name) (is_within_limit ask.body && true)
    c.in_ok-name-in-Put.ensures.passes roomy in
    let bad : IsBadByValue IsBadPut (bytes_of ask.body) why =
    subst (λ body. IsBadByValue IsBadPut body why) c.in_ok-body-in-Put.ensures.bytes
    c.in_err-read_put-in-Put.ensures.refused
    in
    handed_on c.from_residual-in_err-read_put-in-Put.result why (λ y. FailsOnRoute (route_value c.args.route) ask y)
    c.from_residual-in_err-read_put-in-Put.ensures.1
    (subst (λ route. FailsOnRoute (route_value route) ask why) (sym c.in-Put.is) (bad_put_on name ask why parts bad))
