use Rattle.std.proofs.Common.{◌≡◌, ℕ, List, Some, IfOk, codes, subst}
use Rattle.tape_routes.specs.Fixed.{refused_reply}
use Rattle.tape_routes.specs.Asked.{Replies, routed_view}
use Rattle.tape_routes.proofs.refusals.no_method.Goals as goal

pub returns : goal.returns
returns c =
    subst (λ (m : List ℕ). IfOk c.refused_method.result (λ routed. routed_view routed ≡ Replies (refused_reply c.args.request.now 405 (codes "no such method") (Some m))))
    c.allowed.ensures c.refused_method.ensures
