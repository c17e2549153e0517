use Rattle.std.proofs.Common.{arith}
use Rattle.link_loop.proofs.Lists.{still_none}
use Rattle.link_loop.proofs.writing.write_body.Goals as goal

pub returns-in-Empty-clause-bytes : goal.returns-in-Empty-clause-bytes
returns-in-Empty-clause-bytes g c = rw c.in-Empty.is (still_none (g.L.Link.written c.args.link.now))

pub returns-in-Empty-clause-cause : goal.returns-in-Empty-clause-cause
returns-in-Empty-clause-cause g c = record { later = omega arith; failed = tt }
