use Rattle.caller_asks.proofs.CancelCalls.{cancel_called}
use Rattle.caller_asks.proofs.cancels.cancel_files.Goals as goal

pub returns : goal.returns
returns c =
    λ site h who paths legal kept found.
    cancel_called site h c.args.at c.args.id who paths c.args.files.now c.args.parts.now c.cancel_all.new.requests c.leave_recalls.new.book c.leave_recalls.new.recalls legal kept found c.cancel_all.ensures
    c.leave_recalls.ensures.book c.leave_recalls.ensures.lines c.leave_recalls.ensures.keys
