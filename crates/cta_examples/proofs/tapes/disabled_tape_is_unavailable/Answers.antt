use Rattle.std.specs.Prelude.{refl, []}
use Rattle.cta_examples.specs.Sites.{small_buffer_site}
use Rattle.cta_examples.specs.Tapes.{tape_active_again, tape_disabled}
use Rattle.cta_model.specs.Legal.{IsLegal}
use Rattle.cta_model.proofs.Runs.{replay_is_legal}
use Rattle.cta_examples.proofs.tapes.disabled_tape_is_unavailable.Goals as goal

legal-tape_disabled : IsLegal small_buffer_site tape_disabled
legal-tape_disabled = replay_is_legal small_buffer_site [] tape_disabled tt refl refl

pub returns-clause-disabled : goal.returns-clause-disabled
returns-clause-disabled c = legal-tape_disabled

pub returns-clause-active : goal.returns-clause-active
returns-clause-active c = replay_is_legal small_buffer_site tape_disabled tape_active_again legal-tape_disabled refl refl
