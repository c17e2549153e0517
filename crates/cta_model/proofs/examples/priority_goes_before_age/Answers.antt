use Rattle.std.specs.Prelude.{refl, []}
use Rattle.cta_model.specs.Examples.{two_class_site, two_priorities}
use Rattle.cta_model.proofs.Runs.{replay_is_legal}
use Rattle.cta_model.proofs.examples.priority_goes_before_age.Goals as goal

pub returns-clause-legal : goal.returns-clause-legal
returns-clause-legal c = replay_is_legal two_class_site [] two_priorities tt refl refl
