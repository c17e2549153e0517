use Rattle.std.proofs.Common.{◌∙◌, ap}
use Rattle.std.specs.Prelude.{slice_get}
use Rattle.std.specs.Option.{option_and_then}
use Rattle.cta_site.specs.Lookups.{is_route_of}
use Rattle.cta_site.proofs.Found.{found_at}
use Rattle.cta_site.proofs.lookups.route_of.Goals as goal

pub returns : goal.returns
returns c = c.item_at.ensures ∙ ap (option_and_then (slice_get c.args.routes.now)) (c.route_place.ensures c.args.routes.now c.requires.index) ∙ found_at (is_route_of c.args.class.now c.args.copy) c.args.routes.now
