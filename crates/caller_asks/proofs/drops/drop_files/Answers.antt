use Rattle.caller_asks.proofs.DropCalls.{drop_called}
use Rattle.caller_asks.proofs.drops.drop_files.Goals as goal

pub returns : goal.returns
returns c =
    λ site h t who kept.
    drop_called site h t c.args.id who c.args.named.now c.args.files.now c.args.parts.now c.unpin_all.new.buffer c.remove.new.self c.leave_recalls.new.book c.leave_recalls.new.recalls kept c.requires.named c.requires.files
    c.remove.ensures c.unpin_all.ensures.held c.unpin_all.ensures.contents c.leave_recalls.ensures.book c.leave_recalls.ensures.lines c.leave_recalls.ensures.keys
