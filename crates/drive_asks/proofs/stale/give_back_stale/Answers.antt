use Rattle.drive_asks.proofs.StaleReads.{stale_called}
use Rattle.drive_asks.proofs.stale.give_back_stale.Goals as goal

pub returns : goal.returns
returns c = λ site h t mount drive kept size. stale_called site h t mount drive c.args.len c.args.job c.args.parts.now c.unhold.new.self c.give_back.new.self kept size c.unhold.ensures.held c.unhold.ensures.contents c.give_back.ensures.book
