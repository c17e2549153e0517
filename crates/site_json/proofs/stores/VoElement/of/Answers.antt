use Rattle.serde_json.specs.View.{view}
use Rattle.site_json.proofs.Parts.{vo_parts}
use Rattle.site_json.proofs.Tested.{at_most}
use Rattle.site_json.proofs.stores.VoElement.of.Goals as goal

pub small-requires : goal.small-requires
small-requires c = at_most 0 64 _ _ (vo_parts (view c.args.value.now) c.requires).read_drives

pub small-requires-2 : goal.small-requires-2
small-requires-2 c = at_most 0 64 _ _ (vo_parts (view c.args.value.now) c.requires).write_drives
