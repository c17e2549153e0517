use Rattle.part_model.specs.Queues.{lines_in}
use Rattle.caller_asks.proofs.Leaves.{same_key}
use Rattle.caller_asks.proofs.jobs.leave_pool.Goals as goal
use Rattle.part_moves.proofs.LeftLines.{taken_from}

pub returns-clause-lines : goal.returns-clause-lines
returns-clause-lines c = λ k. taken_from c.args.job (lines_in c.args.pools.now.value) (lines_in c.take-there.new.self.value) c.in-Some.key k (c.take-there.ensures.lines k) (λ there. same_key k c.in-Some.key _ (c.requires.stands k there) c.in-Some.ensures)
