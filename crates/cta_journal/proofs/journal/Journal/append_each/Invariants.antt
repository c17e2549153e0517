use Rattle.std.proofs.Common.{◌≡◌, ◌≤◌, ◌++◌, true, All, List, ℕ, map, take}
use Rattle.cta_journal.specs.Disk.{IsPossible, LeavesOnly}
use Rattle.cta_journal.specs.Fronts.{HasFront}
use Rattle.cta_journal.specs.Standing.{StandsFor, disk_of, is_open_of}
use Rattle.cta_journal.proofs.journal.Journal.append_each.Given as goal

abbrev pub invariant-loop-one : goal.invariant-loop-one
invariant-loop-one g l =
    let K = g.K.Disk in
    let body = g.R.Record.body in
    record {
      is_open : is_open_of l.self ≡ true;
      stands : (bodies : List (List ℕ)) → StandsFor K.content K.may_leave l.fn.self bodies → StandsFor K.content K.may_leave l.self (bodies ++ map body (take l.one-index l.kept));
      run : (bodies : List (List ℕ)) → StandsFor K.content K.may_leave l.fn.self bodies → LeavesOnly K.moment K.left_since (disk_of l.fn.self) (disk_of l.self) (HasFront bodies (map body l.kept));
      fit : All g.R.Record.fits (take l.one-index l.kept);
      possible : IsPossible (K.content (disk_of l.fn.self)) (K.may_leave (disk_of l.fn.self)) → IsPossible (K.content (disk_of l.self)) (K.may_leave (disk_of l.self));
      later : K.fault_count (disk_of l.fn.self) ≤ K.fault_count (disk_of l.self);
    }
