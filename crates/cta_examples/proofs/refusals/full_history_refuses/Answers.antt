use Rattle.std.specs.Prelude.{refl, []}
use Rattle.cta_examples.specs.Refusals.{full}
use Rattle.cta_examples.specs.Sites.{short_site}
use Rattle.cta_model.proofs.Runs.{replay_is_legal}
use Rattle.cta_examples.proofs.refusals.full_history_refuses.Goals as goal

pub returns-clause-legal : goal.returns-clause-legal
returns-clause-legal c = replay_is_legal short_site [] full tt refl refl
