use Rattle.std.specs.Prelude.{refl, []}
use Rattle.cta_examples.specs.Tapes.{reclaimed, repack_write_failed, repacked, repacking, to_be_repacked}
use Rattle.cta_model.specs.Examples.{two_tape_site}
use Rattle.cta_model.specs.Legal.{IsLegal}
use Rattle.cta_model.proofs.Runs.{replay_is_legal}
use Rattle.cta_examples.proofs.tapes.repack_moves_a_copy.Goals as goal

legal-to_be_repacked : IsLegal two_tape_site to_be_repacked
legal-to_be_repacked = replay_is_legal two_tape_site [] to_be_repacked tt refl refl

legal-repacking : IsLegal two_tape_site repacking
legal-repacking = replay_is_legal two_tape_site to_be_repacked repacking legal-to_be_repacked refl refl

legal-repack_write_failed : IsLegal two_tape_site repack_write_failed
legal-repack_write_failed = replay_is_legal two_tape_site repacking repack_write_failed legal-repacking refl refl

legal-repacked : IsLegal two_tape_site repacked
legal-repacked = replay_is_legal two_tape_site repack_write_failed repacked legal-repack_write_failed refl refl

pub returns-clause-marked : goal.returns-clause-marked
returns-clause-marked c = legal-to_be_repacked

pub returns-clause-made : goal.returns-clause-made
returns-clause-made c = legal-repacking

pub returns-clause-failed : goal.returns-clause-failed
returns-clause-failed c = legal-repack_write_failed

pub returns-clause-moved : goal.returns-clause-moved
returns-clause-moved c = legal-repacked

pub returns-clause-empty : goal.returns-clause-empty
returns-clause-empty c = replay_is_legal two_tape_site repacked reclaimed legal-repacked refl refl
