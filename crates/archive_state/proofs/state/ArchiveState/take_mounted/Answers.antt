use Rattle.std.proofs.Common.{rules, ◌≡◌, ◌<◌, ◌∷◌, List, length, refl}
use Rattle.std.specs.List.{slice_index_or}
use Rattle.archive_state.proofs.Shares.{ready_at, taken_at}
use Rattle.archive_state.proofs.state.ArchiveState.take_mounted.Goals as goal

pub take_for-medium-requires-clause-mounted : goal.take_for-medium-requires-clause-mounted
take_for-medium-requires-clause-mounted g c =
    let low : c.loop-at.at < length c.args.numbers.now = search rules in
    (ready_at _ c.args.self.now.history c.args.shelf.now c.loop-at.shelf c.args.numbers.now c.loop-at.at (slice_index_or c.args.numbers.now c.loop-at.at 0) c.keeps_history.ensures c.requires.mounts low refl c.loop-at.invariant.passed c.requires.full).on

pub take_for-medium-requires-clause-there : goal.take_for-medium-requires-clause-there
take_for-medium-requires-clause-there g c =
    let low : c.loop-at.at < length c.args.numbers.now = search rules in
    (ready_at _ c.args.self.now.history c.args.shelf.now c.loop-at.shelf c.args.numbers.now c.loop-at.at (slice_index_or c.args.numbers.now c.loop-at.at 0) c.keeps_history.ensures c.requires.mounts low refl c.loop-at.invariant.passed c.requires.full).there

pub loop-at-preserved : goal.loop-at-preserved
loop-at-preserved g c =
    let low : c.loop-at.at < length c.args.numbers.now = search rules in
    let added : c.insert.new.self.items ≡ (slice_index_or c.args.numbers.now c.loop-at.at 0, c.take_for-medium.result) ∷ c.loop-at.mounts.items = search rules in
    taken_at g.N.Told.told _ c.args.self.now.history c.args.numbers.now c.loop-at.at (slice_index_or c.args.numbers.now c.loop-at.at 0) c.args.shelf.now c.loop-at.shelf c.take_for-medium.new.shelf c.loop-at.mounts.items c.insert.new.self.items c.take_for-medium.result
    c.keeps_history.ensures c.requires.mounts low refl c.requires.places c.loop-at.invariant c.take_for-medium.ensures.told c.take_for-medium.ensures.places added
