use Rattle.serde_json.specs.View.{view}
use Rattle.site_json.proofs.Parts.{route_copy}
use Rattle.site_json.proofs.Tested.{at_most}
use Rattle.site_json.proofs.stores.RouteElement.of.Goals as goal

pub small-requires : goal.small-requires
small-requires c = at_most 1 4 _ _ (route_copy (view c.args.value.now) c.requires)
