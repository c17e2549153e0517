use Rattle.std.proofs.Common.{◌∙◌, ap}
use Rattle.std.specs.Prelude.{None, map, option_map, slice_set}
use Rattle.std.proofs.lemmas.List.{map-set}
use Rattle.media_shelf.proofs.shelf.take_out.Goals as goal

pub returns-then-at-places-clause-places : goal.returns-then-at-places-clause-places
returns-then-at-places-clause-places g c =
    ap (λ o. map (option_map g.M.Told.told) (slice_set c.args.places.now c.args.at o)) c.take.ensures.after
    ∙ map-set (option_map g.M.Told.told) c.args.places.now c.args.at None
