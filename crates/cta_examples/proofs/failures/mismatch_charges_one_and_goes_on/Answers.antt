use Rattle.std.specs.Prelude.{refl, []}
use Rattle.cta_examples.specs.Failures.{read_again}
use Rattle.cta_examples.specs.Sites.{small_buffer_site}
use Rattle.cta_model.proofs.Runs.{replay_is_legal}
use Rattle.cta_examples.proofs.failures.mismatch_charges_one_and_goes_on.Goals as goal

pub returns-clause-legal : goal.returns-clause-legal
returns-clause-legal c = replay_is_legal small_buffer_site [] read_again tt refl refl
