use Rattle.std.specs.Prelude.{refl, []}
use Rattle.cta_model.specs.Examples.{one_claimed, one_copy_site}
use Rattle.cta_model.proofs.Runs.{replay_is_legal}
use Rattle.cta_model.proofs.examples.claimed_job_is_not_queued.Goals as goal

pub returns-clause-legal : goal.returns-clause-legal
returns-clause-legal c = replay_is_legal one_copy_site [] one_claimed tt refl refl
