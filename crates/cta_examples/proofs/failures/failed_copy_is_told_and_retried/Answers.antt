use Rattle.std.specs.Prelude.{refl, []}
use Rattle.cta_examples.specs.Failures.{failed_once, retried, retried_on_tape}
use Rattle.cta_examples.specs.Sites.{one_try_site}
use Rattle.cta_model.specs.Legal.{IsLegal}
use Rattle.cta_model.proofs.Runs.{replay_is_legal}
use Rattle.cta_examples.proofs.failures.failed_copy_is_told_and_retried.Goals as goal

legal-failed_once : IsLegal one_try_site failed_once
legal-failed_once = replay_is_legal one_try_site [] failed_once tt refl refl

legal-retried : IsLegal one_try_site retried
legal-retried = replay_is_legal one_try_site failed_once retried legal-failed_once refl refl

pub returns-clause-legal : goal.returns-clause-legal
returns-clause-legal c = legal-failed_once

pub returns-clause-retry : goal.returns-clause-retry
returns-clause-retry c = legal-retried

pub returns-clause-written : goal.returns-clause-written
returns-clause-written c = replay_is_legal one_try_site retried retried_on_tape legal-retried refl refl
