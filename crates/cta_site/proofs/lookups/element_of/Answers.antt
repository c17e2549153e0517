use Rattle.std.proofs.Common.{◌∙◌, ap}
use Rattle.std.specs.Prelude.{bytes_eq, slice_get}
use Rattle.std.specs.Option.{option_and_then}
use Rattle.cta_site.proofs.Found.{found_at}
use Rattle.cta_site.proofs.lookups.element_of.Goals as goal

pub returns : goal.returns
returns g c = c.item_at.ensures ∙ ap (option_and_then (slice_get c.args.items.now)) (c.number.ensures ∙ c.requires c.args.name.now) ∙ found_at (λ x. bytes_eq (g.T.Named.name_of x) c.args.name.now) c.args.items.now
