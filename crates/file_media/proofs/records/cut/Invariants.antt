-- The later records are dropped, and all else of the medium is as it was.
use Rattle.std.proofs.Common.{◌≡◌, ◌≤◌, ◌+◌, ◌-◌, suc}
use Rattle.file_media.specs.Calls.{removed}
use Rattle.file_media.specs.Disks.{after}
use Rattle.file_media.proofs.records.cut.Given as goal

abbrev pub invariant-loop-medium : goal.invariant-loop-medium
invariant-loop-medium g l = (l.fseq ≤ l.medium.written + 1) × (l.medium.written ≤ l.fn.medium.written) × (l.medium.vid ≡ l.fn.medium.vid) × (l.medium.tape ≡ l.fn.medium.tape) × (l.medium.foreign ≡ l.fn.medium.foreign)
    × (l.medium.safe ≡ l.fn.medium.safe)
    × (l.medium.records ≡ l.fn.medium.records)
    × (g.D.Disk.done l.disk ≡ after (removed l.fn.medium.vid (suc l.medium.written) (l.fn.medium.written - l.medium.written)) (g.D.Disk.done l.fn.disk))

abbrev pub decreases-loop-medium : goal.decreases-loop-medium
decreases-loop-medium g l = l.medium.written + 1 - l.fseq
