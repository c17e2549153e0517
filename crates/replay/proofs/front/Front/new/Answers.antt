use Rattle.std.proofs.Common.{◌≡◌, [], ap, ◌∙◌, subst}
use Rattle.links.specs.Standing.{LinksStand}
use Rattle.replay.proofs.front.Front.new.Goals as goal

pub returns-clause-links : goal.returns-clause-links
returns-clause-links g c =
    let limit : c.limits.result.file ≡ c.args.archive.site.limits.file = ap (λ l. l.file) c.limits.ensures.value ∙ ap (λ s. s.limits.file) c.site.ensures in
    subst (λ n. LinksStand c.in-Ok.links n (λ link. []) (λ link. [])) limit c.in-Ok.ensures
