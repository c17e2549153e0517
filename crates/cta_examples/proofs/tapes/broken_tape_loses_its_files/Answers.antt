use Rattle.std.specs.Prelude.{refl, []}
use Rattle.cta_examples.specs.Sites.{small_buffer_site}
use Rattle.cta_examples.specs.Tapes.{tape_lost}
use Rattle.cta_model.proofs.Runs.{replay_is_legal}
use Rattle.cta_examples.proofs.tapes.broken_tape_loses_its_files.Goals as goal

pub returns-clause-legal : goal.returns-clause-legal
returns-clause-legal c = replay_is_legal small_buffer_site [] tape_lost tt refl refl
