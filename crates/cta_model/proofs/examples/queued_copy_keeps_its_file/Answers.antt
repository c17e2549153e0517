use Rattle.std.specs.Prelude.{refl, []}
use Rattle.cta_model.specs.Examples.{second_copy_queued, two_copy_site, with_small_buffer}
use Rattle.cta_model.proofs.Runs.{replay_is_legal}
use Rattle.cta_model.proofs.examples.queued_copy_keeps_its_file.Goals as goal

pub returns-clause-legal : goal.returns-clause-legal
returns-clause-legal c = replay_is_legal (with_small_buffer two_copy_site) [] second_copy_queued tt refl refl
