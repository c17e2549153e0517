use Rattle.std.proofs.Common.{◌≡◌, Some, map, take}
use Rattle.serde_json.specs.View.{view}
use Rattle.tape_json.specs.Bodies.{all_read, wanted_of}
use Rattle.tape_json.proofs.stage.all_wanted.Given as goal

abbrev pub invariant-files : goal.invariant-files
invariant-files l = all_read wanted_of (map view (take l.file-index l.files)) ≡ Some l.wanted.items
