use Rattle.std.proofs.Common.{◌≡◌, take}
use Rattle.cta_model.specs.Reports as reports
use Rattle.archive.proofs.file_looks.place_infos.Given as goal

abbrev pub invariant-loop-path : goal.invariant-loop-path
invariant-loop-path g l = l.infos.items ≡ reports.place_infos l.state.site l.state.history (take l.path-index l.paths)
