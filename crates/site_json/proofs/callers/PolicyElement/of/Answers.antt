use Rattle.serde_json.specs.View.{view}
use Rattle.std.proofs.Common.{refl}
use Rattle.site_json.proofs.Parts.{policy_parts}
use Rattle.site_json.proofs.Tested.{at_most}
use Rattle.site_json.proofs.callers.PolicyElement.of.Goals as goal

pub small-requires : goal.small-requires
small-requires c = at_most 0 1000000 _ _ (policy_parts (view c.args.value.now) c.requires).archive_priority

pub small-requires-2 : goal.small-requires-2
small-requires-2 c = at_most 0 1000000 _ _ (policy_parts (view c.args.value.now) c.requires).retrieve_priority

pub returns : goal.returns
returns c = rw (c.in_ok-name.ensures, c.small.ensures.number, c.number.ensures, c.small-2.ensures.number, c.number-2.ensures) refl
