use Rattle.std.proofs.Common.{List, ℕ, subst}
use Rattle.cta_journal.specs.Standing.{StandsFor, disk_of}
use Rattle.durable_archive.specs.Journaled.{LoggedView, sure_of}
use Rattle.durable_archive.specs.Records.{KeepsBetween}
use Rattle.durable_archive.proofs.Calling.{rests}
use Rattle.durable_archive.proofs.logged.Logged.keeps_log.Goals as goal

pub returns : goal.returns
returns g c =
    let K = g.K.Disk in
    let i = c.self.inside in
    subst (λ (v : LoggedView g.row.K.Denot). (begun : List (List ℕ)) → StandsFor K.content K.may_leave v.first begun → (file : List ℕ) → K.may_leave (disk_of v.journal) file
    → KeepsBetween v.archive.site begun (sure_of v.closed v.archive.history) v.archive.history file)
    c.self.view_is (rests K.content K.may_leave i.archive.site i.archive.history i.journal i.closed i.first.value c.self.invariant.0)
