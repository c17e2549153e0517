use Rattle.serde_json.specs.View.{view}
use Rattle.site_json.proofs.Parts.{class_copies}
use Rattle.site_json.proofs.Tested.{at_most}
use Rattle.site_json.proofs.stores.ClassElement.of.Goals as goal

pub small-requires : goal.small-requires
small-requires c = at_most 1 4 _ _ (class_copies (view c.args.value.now) c.requires)
