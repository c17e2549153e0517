use Rattle.std.specs.Prelude.{refl, []}
use Rattle.cta_examples.specs.Recalling.{deleted_before_recall, one_path_unknown}
use Rattle.cta_examples.specs.Sites.{small_buffer_site}
use Rattle.cta_model.specs.Legal.{IsLegal}
use Rattle.cta_model.proofs.Runs.{replay_is_legal}
use Rattle.cta_examples.proofs.recalling.deletion_fails_the_request.Goals as goal

legal-one_path_unknown : IsLegal small_buffer_site one_path_unknown
legal-one_path_unknown = replay_is_legal small_buffer_site [] one_path_unknown tt refl refl

pub returns-clause-legal : goal.returns-clause-legal
returns-clause-legal c = replay_is_legal small_buffer_site one_path_unknown deleted_before_recall legal-one_path_unknown refl refl
