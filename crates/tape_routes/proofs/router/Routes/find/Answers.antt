use Rattle.std.proofs.Common.{◌∙◌, ℕ, List, Some, sym, ap}
use Rattle.matchit.specs.Params.{walk}
use Rattle.tape_routes.specs.Routes.{parameter_of}
use Rattle.tape_routes.specs.declared.routes.Endpoint.TheVariants as at
use Rattle.tape_routes.proofs.Taking.{seen, unseen, taken_part, taken_none, has_path}
use Rattle.tape_routes.proofs.router.Routes.find.Goals as goal

pub returns-in_default-clause-endpoint : goal.returns-in_default-clause-endpoint
returns-in_default-clause-endpoint c = sym (unseen c.args.self.now.router c.args.target.now c.args.self.now.finds c.utf8.target c.in_default.ensures.missing)

pub returns-in-Some : goal.returns-in-Some
returns-in-Some c =
    let part = c.in-Some.ensures.steps in
    let found = seen c.args.self.now.router c.args.target.now _ c.args.self.now.finds c.utf8.target c.in-Ok.ensures.found in
    record {
      endpoint = sym found.0;
      parameter =
          taken_part c.args.self.now.router c.args.target.now _ c.in-Some.name.now part.0 c.next.new.self c.args.self.now.finds c.utf8.target c.in-Ok.ensures.found c.in_default-value.not-Data
          (ap (λ (p : List ℕ). walk c.in-Ok.found.params.pattern.now c.in-Ok.found.params.text.now p c.in-Ok.found.params.names.now 0 0) (sym c.in-Ok.ensures.path) ∙ sym c.iter.ensures.value ∙ part.1) part.3
          ∙ ap Some (sym c.as_bytes-in-Some.ensures.value);
    }

pub returns-in-None : goal.returns-in-None
returns-in-None c =
    let found = seen c.args.self.now.router c.args.target.now _ c.args.self.now.finds c.utf8.target c.in-Ok.ensures.found in
    record {
      endpoint = sym found.0;
      parameter =
          taken_none c.args.self.now.router c.args.target.now _ c.args.self.now.finds c.utf8.target c.in-Ok.ensures.found c.in_default-value.not-Data
          (ap (λ (p : List ℕ). walk c.in-Ok.found.params.pattern.now c.in-Ok.found.params.text.now p c.in-Ok.found.params.names.now 0 0) (sym c.in-Ok.ensures.path) ∙ sym c.iter.ensures.value ∙ c.in-None.ensures.steps);
    }

pub returns-in_err-path-in-Data-clause-endpoint : goal.returns-in_err-path-in-Data-clause-endpoint
returns-in_err-path-in-Data-clause-endpoint c =
    let found = seen c.args.self.now.router c.args.target.now _ c.args.self.now.finds c.utf8.target c.in-Ok.ensures.found in
    absurd (has_path c.args.target.now c.in-Ok.found.value.now found.0 c.in-Data.is (ap (λ (t : List ℕ). parameter_of at.Data t) (sym c.as_bytes.ensures.value) ∙ sym c.in_err-path-in-Data.ensures))
