use Rattle.std.proofs.Common.{◌≤◌, [], arith, sym, subst}
use Rattle.std.proofs.lemmas.List.{append-nil}
use Rattle.cta_journal.specs.Standing.{StandsFor, disk_of}
use Rattle.durable_archive.specs.Records.{AreRecordsOf}
use Rattle.durable_archive.proofs.logged.Logged.new.Goals as goal

pub invariant_of-result : goal.invariant_of-result
invariant_of-result g c = (
  (
    c.requires.open,
    λ begun s.
        let now : StandsFor g.K.Disk.content g.K.Disk.may_leave c.args.journal begun = subst (λ j. StandsFor g.K.Disk.content g.K.Disk.may_leave j begun) c.of-first.ensures s in (
          [],
          subst (AreRecordsOf c.args.archive.site c.args.archive.history) (sym (append-nil begun)) (c.requires.log begun now),
          subst (StandsFor g.K.Disk.content g.K.Disk.may_leave c.args.journal) (sym (append-nil begun)) now,
        ),
  ),
  subst (λ j. g.K.Disk.fault_count (disk_of j) ≤ g.K.Disk.fault_count (disk_of c.args.journal)) (sym c.of-first.ensures) (omega arith),
)
