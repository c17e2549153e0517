use Rattle.std.proofs.Common.{arith, length, subst}
use Rattle.std.proofs.lemmas.Grind.{common_steps}
use Rattle.mill_crew.specs.Posts.{IsJob, IsTask}
use Rattle.mill_crew.proofs.Listing.{one_more}
use Rattle.mill_crew.proofs.phases.drive_jobs.Goals as goal

pub loop-drive-preserved : goal.loop-drive-preserved
loop-drive-preserved g c = record {
  can = tt;
  ends = tt;
  number = grind (arith, common_steps);
  count = c.loop-drive.invariant.count;
  passes = c.in_ok-pass.ensures.passes;
  jobs = one_more (IsJob g.T.Keeps.site c.args.hall.now g.D.TapeDrive.seen (length c.args.drives.items)) _ _ _ c.in_ok-push.ensures.items c.loop-drive.invariant.jobs
      (record { pass = c.in_ok-pass.ensures.pass; task = subst (λ n. IsTask g.D.TapeDrive.seen n c.drive_task-task.result) c.loop-drive.invariant.count c.drive_task-task.ensures });
}
