use Rattle.serde_json.specs.View.{view}
use Rattle.site_json.proofs.Kept.{are_good}
use Rattle.site_json.proofs.rules.elements_are_good.Goals as goal

pub returns : goal.returns
returns c = are_good (view c.args.file.now) c.requires
