use Rattle.std.specs.Prelude.{refl, []}
use Rattle.cta_examples.specs.Choices.{one_more_file, two_more_files}
use Rattle.cta_examples.specs.Sites.{two_writer_site}
use Rattle.cta_model.specs.Legal.{IsLegal}
use Rattle.cta_model.proofs.Runs.{replay_is_legal}
use Rattle.cta_examples.proofs.choices.second_mount_needs_twice_as_much.Goals as goal

legal-one_more_file : IsLegal two_writer_site one_more_file
legal-one_more_file = replay_is_legal two_writer_site [] one_more_file tt refl refl

pub returns-clause-one : goal.returns-clause-one
returns-clause-one c = legal-one_more_file

pub returns-clause-two : goal.returns-clause-two
returns-clause-two c = replay_is_legal two_writer_site one_more_file two_more_files legal-one_more_file refl refl
