use Rattle.std.proofs.Common.{rules}
use Rattle.server_crew.specs.Jobs.{IsJob}
use Rattle.server_crew.proofs.Added.{one_more}
use Rattle.server_crew.proofs.muster.muster_links.Goals as goal

pub loop-worker-preserved : goal.loop-worker-preserved
loop-worker-preserved g c = record {
  muster = c.post-post.ensures.muster;
  within = search rules;
  posts = search rules;
  passes = search rules;
  jobs = one_more (IsJob g.T.Keeps.site c.args.hall.now c.args.pool.now.queue c.args.full.now.queue g.D.TapeDrive.seen c.args.muster.now.posts) _ _ _ c.in_ok-push.ensures.items c.loop-worker.invariant.jobs
      (record { post = c.post-post.ensures.post; calls = c.post-post.ensures.calls; links = c.post-post.ensures.links; task = tt });
  len = search rules;
}
