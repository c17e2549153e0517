use Rattle.std.proofs.Common.{◌≡◌, ◌≤◌, ◌<◌, ◌++◌, ℕ, List, All, length, map}
use Rattle.cta_journal.specs.Damage.{most_records}
use Rattle.cta_journal.specs.Log.{records}
use Rattle.cta_journal.proofs.reading.read_log.Given as goal

abbrev pub invariant-loop-rest : goal.invariant-loop-rest
invariant-loop-rest g l =
    record {
      split : l.bytes ≡ records (map g.R.Record.body l.found.items) ++ l.rest;
      more : 0 < length l.rest;
      fit : All g.R.Record.fits l.found.items;
      few : length l.found.items ≤ most_records;
    }

abbrev pub decreases-loop-rest : goal.decreases-loop-rest
decreases-loop-rest g l = length l.rest
