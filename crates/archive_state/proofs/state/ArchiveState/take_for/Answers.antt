use Rattle.archive_state.proofs.Shares.{mount_is_told}
use Rattle.archive_state.proofs.state.ArchiveState.take_for.Goals as goal

pub unreachable-requires : goal.unreachable-requires
unreachable-requires g c = mount_is_told _ _ c.args.number c.mount.result c.keeps_history.ensures c.requires.mounted c.mount.ensures c.in_default.is
