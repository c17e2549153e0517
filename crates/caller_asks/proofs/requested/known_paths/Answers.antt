use Rattle.std.proofs.Common.{◌∙◌}
use Rattle.caller_asks.proofs.FileLists.{path_more}
use Rattle.caller_asks.proofs.requested.known_paths.Goals as goal

pub loop-path-preserved : goal.loop-path-preserved
loop-path-preserved c =
    path_more c.args.paths.now c.loop-path.path-index _ c.as_bytes.result c.loop-path.known c.insert.new.self c.loop-path-test.true (c.as_bytes.ensures ∙ c.path-item.is) c.in_ok-insert.ensures.updates c.loop-path.invariant
