-- What is told of the queues whose keys the loop has passed was added.
use Rattle.std.proofs.Common.{◌≡◌, ◌++◌}
use Rattle.std.specs.List.{range_with_len}
use Rattle.cta_model.specs.Reports.{queue_reports_by}
use Rattle.archive_state.specs.Keys as keys
use Rattle.archive_state.proofs.state.ArchiveState.add_infos.Given as goal

abbrev pub invariant-loop-key : goal.invariant-loop-key
invariant-loop-key g l = l.infos.items ≡ l.initial.infos.items ++ queue_reports_by l.self.site l.self.history l.direction (keys.key_name l.self.site l.direction) (range_with_len 0 l.key)
