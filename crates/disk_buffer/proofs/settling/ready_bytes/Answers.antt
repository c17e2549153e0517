use Rattle.std.proofs.Common.{◌∙◌, sym, ap}
use Rattle.sum_trees.specs.Forests.{items_in}
use Rattle.disk_buffer.proofs.Settled.{ready_sum, sum_bytes}
use Rattle.disk_buffer.proofs.settling.ready_bytes.Goals as goal

pub returns-in-None : goal.returns-in-None
returns-in-None c = sym (ap sum_bytes c.in-None.is) ∙ ap sum_bytes c.sum.ensures.sum ∙ ready_sum (items_in c.args.forest.now.trees 0) c.requires.fits

pub returns-in-Some : goal.returns-in-Some
returns-in-Some c = sym (ap sum_bytes c.in-Some.is) ∙ ap sum_bytes c.sum.ensures.sum ∙ ready_sum (items_in c.args.forest.now.trees 0) c.requires.fits
