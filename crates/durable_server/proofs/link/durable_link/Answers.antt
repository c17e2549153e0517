use Rattle.std.proofs.Common.{◌∙◌, Err, Ok, ap}
use Rattle.turn_hall.specs.Handles.{first_of, view}
use Rattle.archive.specs.InOrder.{IsLegalInOrder}
use Rattle.archive_front.specs.Questions.{question_of}
use Rattle.link_loop.specs.declared.sending.Unserved.TheVariants as unserved
use Rattle.link_loop.specs.Served.{link_view}
use Rattle.link_loop.proofs.Sessions.{served_nothing}
use Rattle.durable_archive.specs.declared.turns.LoggedSite.{LoggedSite}
use Rattle.durable_archive.specs.Turns.{LoggedPlays}
use Rattle.durable_server.specs.Fronts.{needs_within, says_within}
use Rattle.durable_server.proofs.Linked.{served_here}
use Rattle.durable_server.proofs.link.durable_link.Goals as goal

pub returns-in-Err-clause-served : goal.returns-in-Err-clause-served
returns-in-Err-clause-served g c =
    let L = g.L.Link in
    let first = first_of c.args.hall.now in
    let s : LoggedSite g.row.K.Denot = record { site = first.archive.site; first = first.first } in
    served_nothing question_of (needs_within s) (says_within s) (IsLegalInOrder s.site) (LoggedPlays g.M.Told.told s.site) s.site.limits.file (view c.args.pass.now)
    (link_view (L.left c.args.link.now) (L.written c.args.link.now) (L.read_faults c.args.link.now) (L.write_faults c.args.link.now)) (c.no_bytes.ensures s.site.limits.file)

pub returns-in-Ok-serve-clause-served : goal.returns-in-Ok-serve-clause-served
returns-in-Ok-serve-clause-served g c =
    let first = first_of c.args.hall.now in
    let s : LoggedSite g.row.K.Denot = record { site = first.archive.site; first = first.first } in
    let limits = ap (λ l. l.file) c.limits.ensures.value ∙ ap (λ x. x.limits.file) c.requires.site in
    served_here g.M.Told.told _ _ _ _ s c.new-front.result c.limits.result.file c.serve.result (Ok c.in-Ok-serve.end) c.new-front.ensures limits c.in-Ok-serve.is c.serve.ensures.served

pub returns-in-Err-Read-clause-served : goal.returns-in-Err-Read-clause-served
returns-in-Err-Read-clause-served g c =
    let first = first_of c.args.hall.now in
    let s : LoggedSite g.row.K.Denot = record { site = first.archive.site; first = first.first } in
    let limits = ap (λ l. l.file) c.limits.ensures.value ∙ ap (λ x. x.limits.file) c.requires.site in
    served_here g.M.Told.told _ _ _ _ s c.new-front.result c.limits.result.file c.serve.result (Err unserved.Read) c.new-front.ensures limits (c.in-Err-Read.is ∙ ap Err c.in-Err-Read.field-0-is) c.serve.ensures.served

pub returns-in-Err-Write-clause-served : goal.returns-in-Err-Write-clause-served
returns-in-Err-Write-clause-served g c =
    let first = first_of c.args.hall.now in
    let s : LoggedSite g.row.K.Denot = record { site = first.archive.site; first = first.first } in
    let limits = ap (λ l. l.file) c.limits.ensures.value ∙ ap (λ x. x.limits.file) c.requires.site in
    served_here g.M.Told.told _ _ _ _ s c.new-front.result c.limits.result.file c.serve.result (Err unserved.Write) c.new-front.ensures limits (c.in-Err-Write.is ∙ ap Err c.in-Err-Write.field-0-is) c.serve.ensures.served

pub returns-in-Err-NoMemory-clause-served : goal.returns-in-Err-NoMemory-clause-served
returns-in-Err-NoMemory-clause-served g c =
    let first = first_of c.args.hall.now in
    let s : LoggedSite g.row.K.Denot = record { site = first.archive.site; first = first.first } in
    let limits = ap (λ l. l.file) c.limits.ensures.value ∙ ap (λ x. x.limits.file) c.requires.site in
    served_here g.M.Told.told _ _ _ _ s c.new-front.result c.limits.result.file c.serve.result (Err unserved.NoMemory) c.new-front.ensures limits (c.in-Err-NoMemory.is ∙ ap Err c.in-Err-NoMemory.field-0-is) c.serve.ensures.served

pub returns-clause-served : goal.returns-clause-served
returns-clause-served g c =
    let first = first_of c.args.hall.now in
    let s : LoggedSite g.row.K.Denot = record { site = first.archive.site; first = first.first } in
    let limits = ap (λ l. l.file) c.limits.ensures.value ∙ ap (λ x. x.limits.file) c.requires.site in
    served_here g.M.Told.told _ _ _ _ s c.new-front.result c.limits.result.file c.serve.result (Err (unserved.Stopped c.in-Err-Stopped.cause)) c.new-front.ensures limits (c.in-Err-Stopped.is ∙ ap Err c.in-Err-Stopped.field-0-is) c.serve.ensures.served
