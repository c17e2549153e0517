use Rattle.std.proofs.Common.{ap, Some}
use Rattle.archive_restore.proofs.contents.put_content.Goals as goal

pub returns-in_ok-clone-in-Put-Some : goal.returns-in_ok-clone-in-Put-Some
returns-in_ok-clone-in-Put-Some c = rw (c.in-Put-Some.is-0, c.in-Put-Some.is-1) (ap Some c.in_ok-clone-in-Put-Some.ensures.cases)
