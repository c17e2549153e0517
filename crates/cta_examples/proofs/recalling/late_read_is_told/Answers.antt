use Rattle.std.specs.Prelude.{refl, []}
use Rattle.cta_model.specs.Examples.{one_copy_site, read_late, with_small_buffer}
use Rattle.cta_model.proofs.Runs.{replay_is_legal}
use Rattle.cta_examples.proofs.recalling.late_read_is_told.Goals as goal

pub returns-clause-legal : goal.returns-clause-legal
returns-clause-legal c = replay_is_legal (with_small_buffer one_copy_site) [] read_late tt refl refl
