use Rattle.cta_journal.specs.Standing.{disk_of}
use Rattle.durable_site.proofs.Statuses.{open_at_end}
use Rattle.durable_site.proofs.ending.ended.Goals as goal

pub returns-clause-log : goal.returns-clause-log
returns-clause-log g c = λ begun ok s.
    let faults = g.K.Disk.fault_count in
    let l = c.args.logged in
    c.end.ensures.log (open_at_end c.args.accepted l.closed c.status_of-status.result (faults (disk_of l.first)) (faults (disk_of l.journal)) c.status_of-status.ensures ok) begun s
