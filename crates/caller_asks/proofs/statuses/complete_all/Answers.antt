use Rattle.part_model.specs.declared.space.FileEnd.TheVariants as ends
use Rattle.caller_asks.proofs.RequestLoops.{finish_more}
use Rattle.caller_asks.proofs.statuses.complete_all.Goals as goal

pub loop-file-preserved : goal.loop-file-preserved
loop-file-preserved c = finish_more c.args.at c.args.id c.loop-file.file-index ends.Completed c.args.files.now _ c.args.requests.now c.loop-file.requests c.finish.new.self c.loop-file-test.true c.loop-file.invariant c.finish.ensures
