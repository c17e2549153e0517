use Rattle.std.specs.Prelude.{refl, []}
use Rattle.cta_examples.specs.Recalling.{one_path_unknown}
use Rattle.cta_examples.specs.Sites.{small_buffer_site}
use Rattle.cta_model.proofs.Runs.{replay_is_legal}
use Rattle.cta_examples.proofs.recalling.unknown_path_fails_at_once.Goals as goal

pub returns-clause-legal : goal.returns-clause-legal
returns-clause-legal c = replay_is_legal small_buffer_site [] one_path_unknown tt refl refl
