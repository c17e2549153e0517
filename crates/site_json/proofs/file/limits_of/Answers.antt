use Rattle.serde_json.specs.View.{view}
use Rattle.site_json.proofs.Parts.{number_parts}
use Rattle.site_json.proofs.Tested.{at_most}
use Rattle.site_json.proofs.file.limits_of.Goals as goal

pub small-requires : goal.small-requires
small-requires c = at_most 1 1000000 _ _ (number_parts (view c.args.limits.now) c.requires).archive_files

pub small-requires-2 : goal.small-requires-2
small-requires-2 c = at_most 1 1000000 _ _ (number_parts (view c.args.limits.now) c.requires).retrieve_files

pub small-requires-3 : goal.small-requires-3
small-requires-3 c = at_most 1 1000 _ _ (number_parts (view c.args.limits.now) c.requires).batch_files

pub small-requires-4 : goal.small-requires-4
small-requires-4 c = at_most 1 16 _ _ (number_parts (view c.args.limits.now) c.requires).tries

pub small-requires-5 : goal.small-requires-5
small-requires-5 c = at_most 1 1000000 _ _ (number_parts (view c.args.limits.now) c.requires).history
