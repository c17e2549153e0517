use Rattle.std.specs.Prelude.{refl, []}
use Rattle.cta_examples.specs.Choices.{first_copy_done, first_copy_mounted}
use Rattle.cta_examples.specs.Sites.{two_drive_site}
use Rattle.cta_model.proofs.Runs.{replay_is_legal}
use Rattle.cta_examples.proofs.choices.drive_waits_for_quota.Goals as goal

pub returns-clause-mounted : goal.returns-clause-mounted
returns-clause-mounted c = replay_is_legal two_drive_site [] first_copy_mounted tt refl refl

pub returns-clause-done : goal.returns-clause-done
returns-clause-done c = replay_is_legal two_drive_site [] first_copy_done tt refl refl
