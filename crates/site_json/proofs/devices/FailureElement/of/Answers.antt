use Rattle.serde_json.specs.View.{view}
use Rattle.site_json.proofs.Parts.{failure_parts}
use Rattle.site_json.proofs.Tested.{at_most}
use Rattle.site_json.proofs.devices.FailureElement.of.Goals as goal

pub small-requires : goal.small-requires
small-requires c = at_most 1 4294967295 _ _ (failure_parts (view c.args.value.now) c.requires).number
