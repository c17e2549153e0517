use Rattle.std.proofs.Common.{◌≡◌, ◌∙◌, ℕ, List, [], Option, Some, IfOk, ap, subst, sym, unwrap_or}
use Rattle.percent_encoding.specs.Percent.{percent_decode}
use Rattle.cta_site.specs.declared.site.Site.{Site}
use Rattle.wire_http.specs.declared.request.Request.{Request}
use Rattle.tape_routes.specs.declared.routes.Endpoint.{Endpoint}
use Rattle.tape_routes.specs.declared.routes.Meaning.{Meaning}
use Rattle.tape_routes.specs.Routes.{endpoint_of, meaning_of, parameter_of}
use Rattle.tape_routes.specs.Asked.{Asked, asked, asked_of, asked_at, asked_by, routed_view}
use Rattle.tape_routes.proofs.router.Routes.route.Goals as goal

-- what is asked at an endpoint, with the parameter of the target and what the method means
asked_with : (site : Site) (r : Request) (e : Endpoint) (p : List ℕ) (m : Meaning) → Some e ≡ endpoint_of r.target → parameter_of e r.target ≡ Some p → Some m ≡ meaning_of e r.method → asked_by site r (percent_decode p) m ≡ asked site r
asked_with site r e p m found given means =
    ap (λ (o : Option (List ℕ)). asked_by site r (percent_decode (unwrap_or o [])) m) (sym given)
    ∙ ap (λ (o : Option Meaning). asked_at site r e o) means
    ∙ ap (λ (o : Option Endpoint). asked_of site r o) found

pub returns-in_ok-parameter-in-Some-meaning : goal.returns-in_ok-parameter-in-Some-meaning
returns-in_ok-parameter-in-Some-meaning c =
    let target = c.as_str.ensures in
    subst (λ (a : Asked). IfOk c.asked_by.result (λ routed. routed_view routed ≡ a))
    (ap (λ (p : List ℕ). asked_by c.args.site.now c.args.request p c.in-Some-meaning.meaning) (c.as_slice.ensures.value ∙ c.in_ok-parameter-in-Some-meaning.ensures)
    ∙ asked_with c.args.site.now c.args.request c.in-Some.endpoint c.in-Some.parameter.now c.in-Some-meaning.meaning
    (c.in-Some.ensures.endpoint ∙ ap endpoint_of target)
    (ap (λ (t : List ℕ). parameter_of c.in-Some.endpoint t) (sym target) ∙ c.in-Some.ensures.parameter)
    c.in-Some-meaning.ensures)
    c.asked_by.ensures
