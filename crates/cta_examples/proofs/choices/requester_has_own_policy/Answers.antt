use Rattle.std.specs.Prelude.{refl, []}
use Rattle.cta_examples.specs.Choices.{file_of_fast, file_of_somebody}
use Rattle.cta_examples.specs.Sites.{fast_requester_site}
use Rattle.cta_model.proofs.Runs.{replay_is_legal}
use Rattle.cta_examples.proofs.choices.requester_has_own_policy.Goals as goal

pub returns-clause-fast : goal.returns-clause-fast
returns-clause-fast c = replay_is_legal fast_requester_site [] file_of_fast tt refl refl

pub returns-clause-other : goal.returns-clause-other
returns-clause-other c = replay_is_legal fast_requester_site [] file_of_somebody tt refl refl
