use Rattle.std.specs.Prelude.{refl, []}
use Rattle.cta_examples.specs.Sites.{small_buffer_site}
use Rattle.cta_examples.specs.Tapes.{repack_lost, repack_waits}
use Rattle.cta_model.specs.Legal.{IsLegal}
use Rattle.cta_model.proofs.Runs.{replay_is_legal}
use Rattle.cta_examples.proofs.tapes.lost_tape_fails_its_repack.Goals as goal

legal-repack_waits : IsLegal small_buffer_site repack_waits
legal-repack_waits = replay_is_legal small_buffer_site [] repack_waits tt refl refl

pub returns-clause-waits : goal.returns-clause-waits
returns-clause-waits c = legal-repack_waits

pub returns-clause-lost : goal.returns-clause-lost
returns-clause-lost c = replay_is_legal small_buffer_site repack_waits repack_lost legal-repack_waits refl refl
