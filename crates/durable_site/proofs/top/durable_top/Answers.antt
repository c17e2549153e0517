use Rattle.std.proofs.Common.{◌≡◌, false, map, string_bytes, true}
use Rattle.archive_opening.specs.Seen.{source_view}
use Rattle.cta_journal.specs.Standing.{disk_of}
use Rattle.cta_records.specs.Records.{body_of}
use Rattle.durable_site.specs.Ending.{KeepsSome}
use Rattle.durable_site.specs.Top.{BeginsWithLog}
use Rattle.durable_site.proofs.Statuses.{served_ends, some_as}
use Rattle.durable_site.proofs.top.durable_top.Goals as goal

pub returns-in-Ok-open_durable-clause-cause : goal.returns-in-Ok-open_durable-clause-cause
returns-in-Ok-open_durable-clause-cause g c =
    let faults = g.J.Disk.fault_count in
    let before = source_view (g.A.Source.left c.args.site_bytes.now) (g.A.Source.faults c.args.site_bytes.now) in
    let behind = source_view (g.A.Source.left c.open_durable.new.site) (g.A.Source.faults c.open_durable.new.site) in
    let l = c.in-Ok-open_durable.logged in
    let listener = c.serve_opened.new.listener in
    let opened = c.in-Ok-open_durable.ensures in
    served_ends faults (map string_bytes c.args.words.now) before behind (g.J.Disk.content c.args.disk) (faults c.args.disk) (g.L.Listener.faults c.args.listener.now) (c.in-Ok.words, c.in-Ok.ensures)
    c.serve_opened.result.0 c.serve_opened.result.1 (faults (disk_of l.first)) (g.L.Listener.faults listener) (g.L.Listener.ended listener) l.archive.site opened.site opened.later c.serve_opened.ensures.cause

pub returns-in-Ok-open_durable-clause-damaged : goal.returns-in-Ok-open_durable-clause-damaged
returns-in-Ok-open_durable-clause-damaged g c = λ file offset told bad ok. (let no : false ≡ true = c.in-Ok-open_durable.ensures.whole file offset told bad in absurd (cc))

pub returns-in-Ok-open_durable-clause-log : goal.returns-in-Ok-open_durable-clause-log
returns-in-Ok-open_durable-clause-log g c = λ file told ok.
    let before = source_view (g.A.Source.left c.args.site_bytes.now) (g.A.Source.faults c.args.site_bytes.now) in
    let behind = source_view (g.A.Source.left c.open_durable.new.site) (g.A.Source.faults c.open_durable.new.site) in
    let content = g.J.Disk.content in
    let site = c.in-Ok-open_durable.logged.archive.site in
    let opened = c.in-Ok-open_durable.ensures in
    let taken = opened.log file told in
    let begun = map body_of taken.log in
    some_as {P = KeepsSome content site begun} {Q = BeginsWithLog content before behind file} c.serve_opened.result.1 (λ k kept. (site, opened.site, begun, taken.found, kept)) (c.serve_opened.ensures.log begun ok taken.begun)
