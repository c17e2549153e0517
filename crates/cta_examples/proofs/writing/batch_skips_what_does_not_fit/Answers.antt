use Rattle.std.specs.Prelude.{refl, []}
use Rattle.cta_examples.specs.Sites.{small_tape_site}
use Rattle.cta_examples.specs.Writing.{little_room}
use Rattle.cta_model.proofs.Runs.{replay_is_legal}
use Rattle.cta_examples.proofs.writing.batch_skips_what_does_not_fit.Goals as goal

pub returns-clause-legal : goal.returns-clause-legal
returns-clause-legal c = replay_is_legal small_tape_site [] little_room tt refl refl
