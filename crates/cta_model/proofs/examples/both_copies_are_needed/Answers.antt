use Rattle.std.specs.Prelude.{refl, []}
use Rattle.cta_model.specs.Examples.{both_copies_on_tape, first_copy_on_tape, two_copy_site}
use Rattle.cta_model.specs.Legal.{IsLegal}
use Rattle.cta_model.proofs.Runs.{replay_is_legal}
use Rattle.cta_model.proofs.examples.both_copies_are_needed.Goals as goal

legal-first_copy_on_tape : IsLegal two_copy_site first_copy_on_tape
legal-first_copy_on_tape = replay_is_legal two_copy_site [] first_copy_on_tape tt refl refl

pub returns-clause-first : goal.returns-clause-first
returns-clause-first c = legal-first_copy_on_tape

pub returns-clause-second : goal.returns-clause-second
returns-clause-second c = replay_is_legal two_copy_site first_copy_on_tape both_copies_on_tape legal-first_copy_on_tape refl refl
