use Rattle.std.proofs.Common.{◌≡◌, ◌&&◌, true, sym, ap, ◌∙◌}
use Rattle.cta_site.specs.Paths.{is_part}
use Rattle.cta_site.specs.Paths.{are_parts}
use Rattle.cta_site.proofs.Parts.{are_parts-cut}
use Rattle.cta_site.proofs.paths.+are_parts.Goals as goal

pub returns-then-is_part : goal.returns-then-is_part
returns-then-is_part n c =
    let passes : is_part c.in-Some.part.now ≡ true = sym c.is_part.ensures ∙ c.if-is_part.true in
    c.are_parts.ensures ∙ sym (are_parts-cut c.args.bytes.now c.in-Some.part.now c.in-Some.rest.now c.in-Some.ensures.0 c.in-Some.ensures.1 ∙ ap (λ b. b && are_parts c.in-Some.rest.now) passes)
