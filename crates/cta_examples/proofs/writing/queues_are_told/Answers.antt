use Rattle.std.specs.Prelude.{refl, []}
use Rattle.cta_examples.specs.Choices.{write_and_read}
use Rattle.cta_examples.specs.Sites.{small_buffer_site}
use Rattle.cta_model.proofs.Runs.{replay_is_legal}
use Rattle.cta_examples.proofs.writing.queues_are_told.Goals as goal

pub returns-clause-legal : goal.returns-clause-legal
returns-clause-legal c = replay_is_legal small_buffer_site [] write_and_read tt refl refl
