use Rattle.std.proofs.Common.{rules}
use Rattle.job_book.proofs.Counts.{zero_gone}
use Rattle.job_book.proofs.claims.leave_out.Goals as goal

pub returns-then-count-eq0-clause-counts : goal.returns-then-count-eq0-clause-counts
returns-then-count-eq0-clause-counts c = zero_gone c.args.mount c.args.counts.now.entries c.take_out.new.map.entries c.take_out.ensures.values (search rules)
