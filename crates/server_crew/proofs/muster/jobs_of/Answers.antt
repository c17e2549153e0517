use Rattle.std.proofs.Common.{length, subst}
use Rattle.std.specs.List.{All}
use Rattle.server_crew.specs.Jobs.{IsJob}
use Rattle.server_crew.proofs.Added.{one_more}
use Rattle.server_crew.proofs.muster.jobs_of.Goals as goal

pub returns-clause-jobs : goal.returns-clause-jobs
returns-clause-jobs g c =
    let job = IsJob g.T.Keeps.site c.args.hall.now c.args.pool.now.queue c.args.full.now.queue g.D.TapeDrive.seen in
    let all = subst (λ n. All (job n) c.muster_links.new.jobs.items) c.in_ok-muster_drives.ensures.count.0 c.in_ok-muster_links.ensures.jobs in
    one_more (job (length c.args.drives.items)) _ _ _ c.in_ok-push.ensures.items all (record { post = c.post-post.ensures.post; calls = c.post-post.ensures.calls; links = c.post-post.ensures.links; task = tt })
