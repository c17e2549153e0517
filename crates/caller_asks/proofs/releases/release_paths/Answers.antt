use Rattle.caller_asks.proofs.ReleaseCalls.{release_called}
use Rattle.caller_asks.proofs.releases.release_paths.Goals as goal

pub returns : goal.returns
returns c =
    λ site h t who kept.
    release_called site h t c.args.id who c.args.paths.now c.args.files.now c.args.parts.now c.unpin_all.new.buffer c.release_all.new.requests kept c.requires c.release_all.ensures c.unpin_all.ensures.held c.unpin_all.ensures.contents
