use Rattle.std.proofs.Common.{◌≡◌, Some, map, take}
use Rattle.serde_json.specs.View.{view}
use Rattle.serde_json.specs.Find.{as_str}
use Rattle.tape_json.specs.Bodies.{all_read}
use Rattle.tape_json.proofs.lists.texts_of.Given as goal

abbrev pub invariant-items : goal.invariant-items
invariant-items l = all_read as_str (map view (take l.item-index l.items)) ≡ Some l.texts.items
