use Rattle.std.proofs.Common.{[], ◌∷◌, ◌++◌, ◌∙◌, ap, codes}
use Rattle.std.proofs.lemmas.Result.{on_ok_weaker}
use Rattle.json.specs.Token.{begin_object, end_object}
use Rattle.tape_routes.specs.Fixed.{text_member, endpoint_tokens}
use Rattle.tape_routes.proofs.Choices.{four_appended}
use Rattle.tape_routes.proofs.well_known.write_endpoint.Goals as goal

pub returns-clause-tokens : goal.returns-clause-tokens
unfolding endpoint_tokens
returns-clause-tokens c =
    on_ok_weaker c.end_object.result
    (λ last. four_appended c.args.out.now.tokens c.begin_object.new.self.tokens c.write_member.new.out.tokens c.write_member-2.new.out.tokens c.end_object.new.self.tokens
    (begin_object ∷ []) (text_member (codes "uri") c.args.site.now.endpoint) (text_member (codes "version") (codes "v1")) (end_object ∷ [])
    c.in_ok-begin_object.ensures.ok
    (c.in_ok-write_member.ensures.tokens ∙ ap (λ t. c.begin_object.new.self.tokens ++ text_member (codes "uri") t) (c.as_str.ensures ∙ c.endpoint.ensures))
    c.in_ok-write_member-2.ensures.tokens last)
    c.end_object.ensures.ok
