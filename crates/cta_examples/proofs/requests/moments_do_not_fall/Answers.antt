use Rattle.std.specs.Prelude.{refl, []}
use Rattle.cta_examples.specs.Requests.{staged_in_the_past}
use Rattle.cta_model.specs.Examples.{one_copy_site}
use Rattle.cta_model.proofs.Runs.{replay_is_legal}
use Rattle.cta_examples.proofs.requests.moments_do_not_fall.Goals as goal

pub returns-clause-legal : goal.returns-clause-legal
returns-clause-legal c = replay_is_legal one_copy_site [] staged_in_the_past tt refl refl
