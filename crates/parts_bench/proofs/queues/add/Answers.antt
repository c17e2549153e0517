use Rattle.parts_bench.proofs.Lacks.{lacks_taken}
use Rattle.parts_bench.proofs.queues.add.Goals as goal

pub add-requires-clause-lacks : goal.add-requires-clause-lacks
add-requires-clause-lacks c = lacks_taken c.reserve.new.self.value c.take.new.self.value c.args.key c.args.job c.take.ensures.lines
