-- The files of those that are left are to fail yet.
use Rattle.std.proofs.Common.{length}
use Rattle.part_model.specs.Requests.{RequestsAgree}
use Rattle.fault_asks.specs.Reading.{failed_all}
use Rattle.fault_asks.proofs.endings.fail_requests.Given as goal

abbrev pub invariant-loop-ending : goal.invariant-loop-ending
invariant-loop-ending l = RequestsAgree (failed_all l.at l.endings.items l.requests) (failed_all l.at l.initial.endings.items l.initial.requests)

abbrev pub decreases-loop-ending : goal.decreases-loop-ending
decreases-loop-ending l = length l.endings.items
