use Rattle.serde_json.specs.View.{view}
use Rattle.site_json.proofs.Kept.{are_short}
use Rattle.site_json.proofs.rules.lists_are_short.Goals as goal

pub returns : goal.returns
returns c = are_short (view c.args.file.now) c.requires
