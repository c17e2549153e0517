use Rattle.std.specs.Prelude.{refl, []}
use Rattle.cta_examples.specs.Tapes.{item_deleted, repacking, to_be_repacked}
use Rattle.cta_model.specs.Examples.{two_tape_site}
use Rattle.cta_model.specs.Legal.{IsLegal}
use Rattle.cta_model.proofs.Runs.{replay_is_legal}
use Rattle.cta_examples.proofs.tapes.deleted_item_is_gone.Goals as goal

legal-to_be_repacked : IsLegal two_tape_site to_be_repacked
legal-to_be_repacked = replay_is_legal two_tape_site [] to_be_repacked tt refl refl

legal-repacking : IsLegal two_tape_site repacking
legal-repacking = replay_is_legal two_tape_site to_be_repacked repacking legal-to_be_repacked refl refl

pub returns-clause-legal : goal.returns-clause-legal
returns-clause-legal c = replay_is_legal two_tape_site repacking item_deleted legal-repacking refl refl
