use Rattle.std.specs.Prelude.{refl, []}
use Rattle.cta_examples.specs.Choices.{file_alone}
use Rattle.cta_examples.specs.Sites.{two_file_site}
use Rattle.cta_model.proofs.Runs.{replay_is_legal}
use Rattle.cta_examples.proofs.choices.old_file_warrants_a_mount.Goals as goal

pub returns-clause-legal : goal.returns-clause-legal
returns-clause-legal c = replay_is_legal two_file_site [] file_alone tt refl refl
