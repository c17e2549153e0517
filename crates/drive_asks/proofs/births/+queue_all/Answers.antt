use Rattle.part_model.specs.Queues.{lines_in}
use Rattle.drive_asks.proofs.BornCopies.{first_fits, first_lacks}
use Rattle.drive_asks.proofs.births.+queue_all.Goals as goal

pub queue_write-requires-clause-lacks : goal.queue_write-requires-clause-lacks
queue_write-requires-clause-lacks t c =
    λ k. first_lacks c.args.site.now c.args.history.now.value c.args.number c.args.file c.args.copies.now (lines_in c.args.pools.now.value) (lines_in c.queue_all.new.pools.value) k c.in-len1-up.len_at_least c.requires.jobs (c.queue_all.ensures.lines k)

pub queue_write-requires-clause-fits : goal.queue_write-requires-clause-fits
queue_write-requires-clause-fits t c =
    λ k. first_fits c.args.site.now c.args.history.now.value c.args.number c.args.file c.args.copies.now (lines_in c.args.pools.now.value) (lines_in c.queue_all.new.pools.value) k c.in-len1-up.len_at_least c.requires.small (c.queue_all.ensures.lines k) (c.requires.fits k)
