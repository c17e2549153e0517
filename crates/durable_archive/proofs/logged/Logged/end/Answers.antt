use Rattle.std.proofs.Common.{List, ℕ, ◌≡◌, ◌∙◌, None, Some, ap, sym, subst}
use Rattle.cta_journal.specs.Standing.{StandsFor, disk_of}
use Rattle.durable_archive.specs.Journaled.{LoggedView}
use Rattle.durable_archive.specs.Records.{KeepsHistory}
use Rattle.durable_archive.proofs.Calling.{stands_told}
use Rattle.durable_archive.proofs.logged.Logged.end.Goals as goal

pub returns-clause-log : goal.returns-clause-log
returns-clause-log g c = λ none begun s.
    let K = g.K.Disk in
    let i = c.self.inside in
    let self = c.args.self in
    let here : (file : List ℕ) × (K.content (disk_of self.journal) ≡ Some file) × KeepsHistory self.archive.site begun self.archive.history file =
    subst (λ (v : LoggedView g.row.K.Denot). v.closed ≡ None → (begun : List (List ℕ)) → StandsFor K.content K.may_leave v.first begun
    → (file : List ℕ) × (K.content (disk_of v.journal) ≡ Some file) × KeepsHistory v.archive.site begun v.archive.history file)
    c.self.view_is (stands_told K.content K.may_leave i.archive.site i.archive.history i.journal i.closed i.first.value c.self.invariant.0) none begun s in
    subst (λ d. (file : List ℕ) × (K.content d ≡ Some file) × KeepsHistory self.archive.site begun self.archive.history file) (sym (c.end.ensures ∙ ap (λ (v : LoggedView g.row.K.Denot). disk_of v.journal) c.self.view_is)) here
