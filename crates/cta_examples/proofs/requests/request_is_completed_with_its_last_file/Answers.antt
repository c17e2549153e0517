use Rattle.std.specs.Prelude.{refl, []}
use Rattle.cta_examples.specs.Requests.{one_to_wait_for, waited_for}
use Rattle.cta_examples.specs.Sites.{small_buffer_site}
use Rattle.cta_model.specs.Legal.{IsLegal}
use Rattle.cta_model.proofs.Runs.{replay_is_legal}
use Rattle.cta_examples.proofs.requests.request_is_completed_with_its_last_file.Goals as goal

legal-one_to_wait_for : IsLegal small_buffer_site one_to_wait_for
legal-one_to_wait_for = replay_is_legal small_buffer_site [] one_to_wait_for tt refl refl

pub returns-clause-waiting : goal.returns-clause-waiting
returns-clause-waiting c = legal-one_to_wait_for

pub returns-clause-read : goal.returns-clause-read
returns-clause-read c = replay_is_legal small_buffer_site one_to_wait_for waited_for legal-one_to_wait_for refl refl
