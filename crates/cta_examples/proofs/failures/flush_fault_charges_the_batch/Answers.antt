use Rattle.std.specs.Prelude.{refl, []}
use Rattle.cta_examples.specs.Failures.{flush_failed}
use Rattle.cta_model.specs.Examples.{one_copy_site}
use Rattle.cta_model.proofs.Runs.{replay_is_legal}
use Rattle.cta_examples.proofs.failures.flush_fault_charges_the_batch.Goals as goal

pub returns-clause-legal : goal.returns-clause-legal
returns-clause-legal c = replay_is_legal one_copy_site [] flush_failed tt refl refl
