use Rattle.std.specs.Prelude.{refl, []}
use Rattle.cta_examples.specs.Requests.{pinned, released}
use Rattle.cta_examples.specs.Sites.{small_buffer_site}
use Rattle.cta_model.specs.Legal.{IsLegal}
use Rattle.cta_model.proofs.Runs.{replay_is_legal}
use Rattle.cta_examples.proofs.requests.release_unpins.Goals as goal

legal-pinned : IsLegal small_buffer_site pinned
legal-pinned = replay_is_legal small_buffer_site [] pinned tt refl refl

pub returns-clause-legal : goal.returns-clause-legal
returns-clause-legal c = replay_is_legal small_buffer_site pinned released legal-pinned refl refl
