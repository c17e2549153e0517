use Rattle.std.proofs.Common.{[], ◌∷◌, ◌++◌, ◌∙◌, ap, codes}
use Rattle.std.proofs.lemmas.Result.{on_ok_weaker}
use Rattle.json.specs.Token.{begin_object, end_object, key}
use Rattle.tape_routes.specs.Fixed.{text_member, endpoint_tokens, endpoints_tokens, well_known_tokens}
use Rattle.tape_routes.proofs.Choices.{five_appended}
use Rattle.tape_routes.proofs.well_known.write_document.Goals as goal

pub returns-clause-tokens : goal.returns-clause-tokens
unfolding well_known_tokens endpoints_tokens endpoint_tokens
returns-clause-tokens c =
    on_ok_weaker c.end_object.result
    (λ last. five_appended c.args.out.now.tokens c.begin_object.new.self.tokens c.key.new.self.tokens c.write_endpoints.new.out.tokens c.write_member.new.out.tokens c.end_object.new.self.tokens
    (begin_object ∷ []) (key (codes "endpoints") ∷ []) (endpoints_tokens c.args.site.now) (text_member (codes "sitename") c.args.site.now.sitename) (end_object ∷ [])
    c.in_ok-begin_object.ensures.ok c.in_ok-key.ensures.ok c.in_ok-write_endpoints.ensures.tokens
    (c.in_ok-write_member.ensures.tokens ∙ ap (λ t. c.write_endpoints.new.out.tokens ++ text_member (codes "sitename") t) (c.as_str.ensures ∙ c.sitename.ensures)) last)
    c.end_object.ensures.ok
