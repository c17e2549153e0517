use Rattle.std.proofs.Common.{arith}
use Rattle.part_model.specs.Queues.{lines_in}
use Rattle.caller_asks.proofs.jobs.leave_one.Goals as goal
use Rattle.part_moves.proofs.LeftLines.{stands_nowhere}

pub returns-then-job-eq0-clause-pools : goal.returns-then-job-eq0-clause-pools
returns-then-job-eq0-clause-pools c = λ k. stands_nowhere c.args.job (lines_in c.args.pools.now.value) k (λ there. (let low = (c.requires.stands.archives k there).0 in let none = c.if-job-eq0.true in absurd (omega arith)))

pub returns-else-job-eq0-clause-recalls : goal.returns-else-job-eq0-clause-recalls
returns-else-job-eq0-clause-recalls c = λ k. stands_nowhere c.args.job (lines_in c.args.recalls.now.value) k (λ there. c.if-job-eq0.false (c.requires.stands.recalls k there).0)
