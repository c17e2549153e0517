use Rattle.std.proofs.Common.{◌∙◌}
use Rattle.sum_trees.proofs.search.item_like.Goals as goal

pub returns : goal.returns
returns g c = λ es t s. c.item_at.ensures ∙ c.place_like.ensures es t s
