use Rattle.std.proofs.Common.{arith}
use Rattle.mill_crew.specs.Posts.{IsJob}
use Rattle.mill_crew.proofs.Listing.{one_more}
use Rattle.mill_crew.proofs.phases.caller_jobs.Goals as goal

pub loop-caller-preserved : goal.loop-caller-preserved
loop-caller-preserved g c = record {
  within = omega (arith, c.loop-caller-test.true);
  passes = c.in_ok-pass.ensures.passes;
  jobs = one_more (IsJob g.T.Keeps.site c.args.hall.now g.D.TapeDrive.seen c.args.first) _ _ _ c.in_ok-push.ensures.items c.loop-caller.invariant.jobs (record { pass = c.in_ok-pass.ensures.pass; task = tt });
}
