use Rattle.std.proofs.Common.{ap}
use Rattle.archive_parts.proofs.Begins.{first_parts_kept}
use Rattle.archive_parts.proofs.parts.ArchiveParts.new.Goals as goal

pub returns : goal.returns
returns c =
    first_parts_kept c.args.site.now _ (record {
      names = c.new.ensures;
      rows = c.in_ok-tapes.ensures.rows;
      places = c.in_ok-tapes.ensures.places;
      held = c.in_ok-tapes.ensures.held;
      contents = c.in_ok-tapes.ensures.contents;
      requests = c.new-2.ensures;
      repacks = c.in_ok-repacks.ensures.repacks;
      book = ap (λ r. r.value) c.new-3.ensures;
      pools = c.in_ok-pools.ensures.pools;
      recalls = c.in_ok-pools.ensures.recalls;
      counts = c.in_ok-pools.ensures.counts;
      vos = c.in_ok-pools.ensures.vos;
      mounts = ap (λ t. t.rows) c.in_ok-repacks.ensures.mounts;
      downs = ap (λ t. t.downs) c.in_ok-repacks.ensures.mounts;
      drives = ap (λ t. t.drives) c.in_ok-repacks.ensures.mounts;
      failed = c.in_ok-repacks.ensures.failed;
    })
