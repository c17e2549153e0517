use Rattle.std.proofs.Common.{◌≤◌, ◌-◌, length}
use Rattle.conn.proofs.Walks.{Passed}
use Rattle.conn.proofs.walk.has_cut.Given as goal

abbrev pub invariant-messages : goal.invariant-messages
invariant-messages l = record {
  within : l.at ≤ length l.bytes;
  passed : Passed l.file_limit l.bytes l.at;
}

abbrev pub decreases-messages : goal.decreases-messages
decreases-messages l = length l.bytes - l.at
