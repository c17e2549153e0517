use Rattle.std.specs.Prelude.{refl, []}
use Rattle.cta_model.specs.Examples.{empty_file_on_tape, one_copy_site}
use Rattle.cta_model.proofs.Runs.{replay_is_legal}
use Rattle.cta_model.proofs.examples.flushed_is_on_tape.Goals as goal

pub returns-clause-legal : goal.returns-clause-legal
returns-clause-legal c = replay_is_legal one_copy_site [] empty_file_on_tape tt refl refl
