use Rattle.drive_asks.proofs.ReadFacts.{left_fits}
use Rattle.drive_asks.proofs.giving.set_aside.Goals as goal

pub hold-requires : goal.hold-requires
hold-requires c = left_fits c.args.buffer.now.held.value c.evict.new.self.held.value c.args.at c.args.bytes c.evict.ensures.held c.requires.fits
