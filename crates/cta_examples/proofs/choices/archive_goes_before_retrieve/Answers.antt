use Rattle.std.specs.Prelude.{refl, []}
use Rattle.cta_examples.specs.Choices.{write_and_read}
use Rattle.cta_examples.specs.Sites.{small_buffer_site}
use Rattle.cta_model.proofs.Runs.{replay_is_legal}
use Rattle.cta_examples.proofs.choices.archive_goes_before_retrieve.Goals as goal

pub returns-clause-legal : goal.returns-clause-legal
returns-clause-legal c = replay_is_legal small_buffer_site [] write_and_read tt refl refl
