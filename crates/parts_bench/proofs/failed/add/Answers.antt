use Rattle.parts_bench.proofs.Lacks.{lacks_copy}
use Rattle.parts_bench.proofs.failed.add.Goals as goal

pub add-requires-clause-lacks : goal.add-requires-clause-lacks
add-requires-clause-lacks c = lacks_copy c.reserve.new.self.value c.take.new.self.value c.args.job c.take.ensures.value
