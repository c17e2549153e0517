use Rattle.std.proofs.Common.{refl}
use Rattle.kept_history.proofs.jobs.policy_of_actor.Goals as goal

pub returns-in-Caller : goal.returns-in-Caller
returns-in-Caller c = rw (c.in-Caller.is, c.policy_of.ensures, c.as_bytes.ensures, c.as_bytes-in-Caller.ensures) refl
