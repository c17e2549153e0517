use Rattle.std.specs.Prelude.{refl, []}
use Rattle.cta_examples.specs.Sites.{small_two_copy_site}
use Rattle.cta_examples.specs.Tapes.{one_source_left, two_sources}
use Rattle.cta_model.specs.Legal.{IsLegal}
use Rattle.cta_model.proofs.Runs.{replay_is_legal}
use Rattle.cta_examples.proofs.tapes.recall_moves_to_another_source.Goals as goal

legal-two_sources : IsLegal small_two_copy_site two_sources
legal-two_sources = replay_is_legal small_two_copy_site [] two_sources tt refl refl

pub returns-clause-both : goal.returns-clause-both
returns-clause-both c = legal-two_sources

pub returns-clause-one : goal.returns-clause-one
returns-clause-one c = replay_is_legal small_two_copy_site two_sources one_source_left legal-two_sources refl refl
