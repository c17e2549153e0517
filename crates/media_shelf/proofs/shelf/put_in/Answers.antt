use Rattle.std.specs.Prelude.{Some, option_map}
use Rattle.std.proofs.lemmas.List.{map-set}
use Rattle.media_shelf.proofs.shelf.put_in.Goals as goal

pub returns : goal.returns
returns g c = map-set (option_map g.M.Told.told) c.args.places.now c.args.at (Some c.args.medium)
