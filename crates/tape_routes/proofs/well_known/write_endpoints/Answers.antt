use Rattle.std.proofs.Common.{[], ◌∷◌}
use Rattle.std.proofs.lemmas.Result.{on_ok_weaker}
use Rattle.json.specs.Token.{begin_array, end_array}
use Rattle.tape_routes.specs.Fixed.{endpoint_tokens, endpoints_tokens}
use Rattle.tape_routes.proofs.Choices.{three_appended}
use Rattle.tape_routes.proofs.well_known.write_endpoints.Goals as goal

pub returns-clause-tokens : goal.returns-clause-tokens
unfolding endpoint_tokens endpoints_tokens
returns-clause-tokens c =
    on_ok_weaker c.end_array.result
    (λ last. three_appended c.args.out.now.tokens c.begin_array.new.self.tokens c.write_endpoint.new.out.tokens c.end_array.new.self.tokens
    (begin_array ∷ []) (endpoint_tokens c.args.site.now) (end_array ∷ [])
    c.in_ok-begin_array.ensures.ok c.in_ok-write_endpoint.ensures.tokens last)
    c.end_array.ensures.ok
