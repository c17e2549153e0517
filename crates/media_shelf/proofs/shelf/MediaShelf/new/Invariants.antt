use Rattle.std.proofs.Common.{◌≡◌}
use Rattle.std.specs.Prelude.{Some, map, option_map}
use Rattle.media_shelf.proofs.shelf.MediaShelf.new.Given as goal

abbrev pub invariant-loop-medium : goal.invariant-loop-medium
invariant-loop-medium g l = map (option_map g.M.Told.told) l.places.items ≡ map (λ m. Some (g.M.Told.told m)) l.yielded
