use Rattle.std.specs.Prelude.{refl, []}
use Rattle.cta_model.specs.Examples.{one_reads, recalls_first_site, with_small_buffer}
use Rattle.cta_model.proofs.Runs.{replay_is_legal}
use Rattle.cta_model.proofs.examples.directions_have_their_own_quotas.Goals as goal

pub returns-clause-legal : goal.returns-clause-legal
returns-clause-legal c = replay_is_legal (with_small_buffer recalls_first_site) [] one_reads tt refl refl
