use Rattle.std.specs.Prelude.{refl, []}
use Rattle.cta_examples.specs.Failures.{load_failed, up_again}
use Rattle.cta_model.specs.Examples.{one_copy_site}
use Rattle.cta_model.specs.Legal.{IsLegal}
use Rattle.cta_model.proofs.Runs.{replay_is_legal}
use Rattle.cta_examples.proofs.failures.drive_comes_up_again.Goals as goal

legal-load_failed : IsLegal one_copy_site load_failed
legal-load_failed = replay_is_legal one_copy_site [] load_failed tt refl refl

pub returns-clause-legal : goal.returns-clause-legal
returns-clause-legal c = legal-load_failed

pub returns-clause-up : goal.returns-clause-up
returns-clause-up c = replay_is_legal one_copy_site load_failed up_again legal-load_failed refl refl
