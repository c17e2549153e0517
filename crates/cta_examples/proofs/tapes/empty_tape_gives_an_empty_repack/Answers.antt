use Rattle.std.specs.Prelude.{refl, []}
use Rattle.cta_examples.specs.Tapes.{empty_repack}
use Rattle.cta_model.specs.Examples.{one_copy_site}
use Rattle.cta_model.proofs.Runs.{replay_is_legal}
use Rattle.cta_examples.proofs.tapes.empty_tape_gives_an_empty_repack.Goals as goal

pub returns-clause-legal : goal.returns-clause-legal
returns-clause-legal c = replay_is_legal one_copy_site [] empty_repack tt refl refl
