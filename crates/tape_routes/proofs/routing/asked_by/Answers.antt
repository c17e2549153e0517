use Rattle.std.proofs.Common.{◌≡◌, ℕ, IfOk, None, subst, sym}
use Rattle.cta_site.specs.Listed.{rows}
use Rattle.cta_model.specs.declared.asks.Ask.TheVariants as ask
use Rattle.tape_json.specs.Bodies.{paths_of, state_of}
use Rattle.tape_routes.specs.declared.routes.Meaning.{Meaning}
use Rattle.tape_routes.specs.Asked.{Asks, asked_by, with_body, routed_view}
use Rattle.tape_routes.proofs.routing.asked_by.Goals as goal

pub returns-in-Cancel : goal.returns-in-Cancel
returns-in-Cancel c =
    subst (λ (m : Meaning). IfOk c.cancel.result (λ routed. routed_view routed ≡ asked_by c.args.site.now c.args.request c.args.parameter.now m)) (sym c.in-Cancel.is)
    (subst (λ (n : ℕ). IfOk c.cancel.result (λ routed. routed_view routed ≡ with_body c.args.request.close (λ paths. Asks (ask.Cancel c.args.request.who n (rows paths)) None) (paths_of c.args.request.body)))
    c.request_number.ensures c.cancel.ensures)

pub returns-in-Release : goal.returns-in-Release
returns-in-Release c =
    subst (λ (m : Meaning). IfOk c.release.result (λ routed. routed_view routed ≡ asked_by c.args.site.now c.args.request c.args.parameter.now m)) (sym c.in-Release.is)
    (subst (λ (n : ℕ). IfOk c.release.result (λ routed. routed_view routed ≡ with_body c.args.request.close (λ paths. Asks (ask.Release c.args.request.who n (rows paths)) None) (paths_of c.args.request.body)))
    c.request_number-in-Release.ensures c.release.ensures)

pub returns-in-TapeState : goal.returns-in-TapeState
returns-in-TapeState c =
    subst (λ (m : Meaning). IfOk c.tape_state.result (λ routed. routed_view routed ≡ asked_by c.args.site.now c.args.request c.args.parameter.now m)) (sym c.in-TapeState.is)
    (subst (λ (n : ℕ). IfOk c.tape_state.result (λ routed. routed_view routed ≡ with_body c.args.request.close (λ state. Asks (ask.TapeState c.args.request.who n state) None) (state_of c.args.request.body)))
    c.tape_number.ensures c.tape_state.ensures)
