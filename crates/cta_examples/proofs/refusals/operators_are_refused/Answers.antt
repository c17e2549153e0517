use Rattle.std.specs.Prelude.{refl, []}
use Rattle.cta_examples.specs.Refusals.{one_mounted}
use Rattle.cta_model.specs.Examples.{one_copy_site}
use Rattle.cta_model.proofs.Runs.{replay_is_legal}
use Rattle.cta_examples.proofs.refusals.operators_are_refused.Goals as goal

pub returns-clause-legal : goal.returns-clause-legal
returns-clause-legal c = replay_is_legal one_copy_site [] one_mounted tt refl refl
