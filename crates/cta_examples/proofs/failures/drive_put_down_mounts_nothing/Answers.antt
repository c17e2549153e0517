use Rattle.std.specs.Prelude.{refl, []}
use Rattle.cta_examples.specs.Failures.{put_down}
use Rattle.cta_model.specs.Examples.{one_copy_site}
use Rattle.cta_model.proofs.Runs.{replay_is_legal}
use Rattle.cta_examples.proofs.failures.drive_put_down_mounts_nothing.Goals as goal

pub returns-clause-legal : goal.returns-clause-legal
returns-clause-legal c = replay_is_legal one_copy_site [] put_down tt refl refl
