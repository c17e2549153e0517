use Rattle.std.specs.Prelude.{refl, []}
use Rattle.cta_examples.specs.Failures.{reads_failed}
use Rattle.cta_examples.specs.Sites.{small_two_copy_site}
use Rattle.cta_model.proofs.Runs.{replay_is_legal}
use Rattle.cta_examples.proofs.failures.last_read_fault_fails_the_file.Goals as goal

pub returns-clause-legal : goal.returns-clause-legal
returns-clause-legal c = replay_is_legal small_two_copy_site [] reads_failed tt refl refl
