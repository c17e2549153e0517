use Rattle.std.proofs.Common.{◌≡◌, arith, length, subst}
use Rattle.std.proofs.lemmas.Grind.{common_steps}
use Rattle.server_crew.specs.Jobs.{IsJob, IsTask}
use Rattle.server_crew.proofs.Added.{one_more}
use Rattle.server_crew.proofs.muster.muster_drives.Goals as goal

pub loop-drive-preserved : goal.loop-drive-preserved
loop-drive-preserved g c = let many : c.len-count.result ≡ length c.args.drives.items = search in record {
  can = tt;
  ends = tt;
  muster = c.post-post.ensures.muster;
  posts = grind (arith, common_steps);
  passes = grind (arith, common_steps);
  count = c.loop-drive.invariant.count;
  jobs = one_more (IsJob g.T.Keeps.site c.args.hall.now c.args.pool.now.queue c.args.full.now.queue g.D.TapeDrive.seen (length c.args.drives.items)) _ _ _ c.in_ok-push.ensures.items c.loop-drive.invariant.jobs
      (record { post = c.post-post.ensures.post; calls = c.post-post.ensures.calls; links = c.post-post.ensures.links; task = subst (λ n. IsTask g.D.TapeDrive.seen n c.drive_task-task.result) many c.drive_task-task.ensures });
  len = grind (arith, common_steps);
}
