use Rattle.std.proofs.Common.{◌∙◌}
use Rattle.mill.proofs.Sums.{few_sums}
use Rattle.mill.proofs.hall.read_run.Goals as goal

pub read_closed-requires : goal.read_closed-requires
read_closed-requires g c = few_sums c.args.load.seed c.args.load.files c.deref.result.now (c.deref.ensures.value ∙ c.requires.sums) c.requires.few
