use Rattle.std.specs.Prelude.{refl, []}
use Rattle.cta_examples.specs.Recalling.{three_recalled, three_staged}
use Rattle.cta_examples.specs.Sites.{small_buffer_site}
use Rattle.cta_model.specs.Legal.{IsLegal}
use Rattle.cta_model.proofs.Runs.{replay_is_legal}
use Rattle.cta_examples.proofs.recalling.whole_batch_is_read_by_fseq.Goals as goal

legal-three_staged : IsLegal small_buffer_site three_staged
legal-three_staged = replay_is_legal small_buffer_site [] three_staged tt refl refl

pub returns-clause-staged : goal.returns-clause-staged
returns-clause-staged c = legal-three_staged

pub returns-clause-recalled : goal.returns-clause-recalled
returns-clause-recalled c = replay_is_legal small_buffer_site three_staged three_recalled legal-three_staged refl refl
