use Rattle.std.specs.Prelude.{refl, []}
use Rattle.cta_model.specs.Examples.{repack_read, repack_written, two_tape_site, with_small_buffer}
use Rattle.cta_model.specs.Legal.{IsLegal}
use Rattle.cta_model.proofs.Runs.{replay_is_legal}
use Rattle.cta_model.proofs.examples.old_place_counts_until_the_new.Goals as goal

legal-repack_read : IsLegal (with_small_buffer two_tape_site) repack_read
legal-repack_read = replay_is_legal (with_small_buffer two_tape_site) [] repack_read tt refl refl

pub returns-clause-read : goal.returns-clause-read
returns-clause-read c = legal-repack_read

pub returns-clause-written : goal.returns-clause-written
returns-clause-written c = replay_is_legal (with_small_buffer two_tape_site) repack_read repack_written legal-repack_read refl refl
