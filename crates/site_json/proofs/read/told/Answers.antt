use Rattle.std.proofs.Common.{◌≡◌, None, sym}
use Rattle.serde_json.specs.View.{view}
use Rattle.site_json.specs.File.{object_fault}
use Rattle.site_json.proofs.Meets.{meets}
use Rattle.site_json.proofs.read.told.Goals as goal

pub returns-in_ok-site-in-None-clause-kept : goal.returns-in_ok-site-in-None-clause-kept
returns-in_ok-site-in-None-clause-kept c =
    let none : object_fault (view c.args.file.now) ≡ None = sym c.in-None.ensures in
    meets (view c.args.file.now) c.in_ok-site-in-None.site none c.in_ok-site-in-None.ensures
