use Rattle.std.specs.Prelude.{refl, []}
use Rattle.cta_examples.specs.Failures.{failed_once, failed_twice, retried}
use Rattle.cta_examples.specs.Sites.{one_try_site}
use Rattle.cta_model.specs.Legal.{IsLegal}
use Rattle.cta_model.proofs.Runs.{replay_is_legal}
use Rattle.cta_examples.proofs.failures.failed_copy_tells_its_last_job.Goals as goal

legal-failed_once : IsLegal one_try_site failed_once
legal-failed_once = replay_is_legal one_try_site [] failed_once tt refl refl

legal-retried : IsLegal one_try_site retried
legal-retried = replay_is_legal one_try_site failed_once retried legal-failed_once refl refl

pub returns-clause-legal : goal.returns-clause-legal
returns-clause-legal c = replay_is_legal one_try_site retried failed_twice legal-retried refl refl
