use Rattle.std.proofs.Common.{◌∙◌}
use Rattle.mill_crew.proofs.Totals.{fetched_there}
use Rattle.mill_crew.proofs.fetches.fetch_share.Goals as goal

pub loop-sum-preserved : goal.loop-sum-preserved
loop-sum-preserved g c = record {
  here = c.fetch_file.ensures.here;
  seats = c.fetch_file.ensures.seats ∙ c.loop-sum.invariant.seats;
  fetched = fetched_there _ c.loop-sum.sum-index c.loop-sum.total c.in_ok-bytes.bytes _ c.loop-sum-test.true c.loop-sum.invariant.fetched c.in_ok-bytes.ensures.total;
}
