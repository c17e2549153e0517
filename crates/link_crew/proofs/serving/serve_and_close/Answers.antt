use Rattle.std.proofs.Common.{refl}
use Rattle.turn_hall.specs.Handles.{view}
use Rattle.link_loop.specs.Served.{link_view}
use Rattle.link_crew.proofs.Accounts.{link_accounted}
use Rattle.link_crew.proofs.serving.serve_and_close.Goals as goal

pub returns-in-Ok-clause-accounted : goal.returns-in-Ok-clause-accounted
returns-in-Ok-clause-accounted g c =
    let s = g.F.Front.site c.args.front.now in
    λ links n n' later acc. link_accounted g.F.Front.question g.F.Callers.is_callers g.L.Link.left g.L.Link.firm c.args.file_limit (g.F.Front.needs s) (g.F.Front.says s) (g.T.Keeps.legal s) (g.T.Keeps.plays s) c.serve-end.result (view c.args.pass.now) (view c.serve-end.new.pass)
    (link_view (g.L.Link.left c.args.link) (g.L.Link.written c.args.link) (g.L.Link.read_faults c.args.link) (g.L.Link.write_faults c.args.link)) (link_view (g.L.Link.left c.serve-end.new.link) (g.L.Link.written c.serve-end.new.link) (g.L.Link.read_faults c.serve-end.new.link) (g.L.Link.write_faults c.serve-end.new.link))
    c.args.link links n n' c.serve-end.ensures.served c.requests_are_asked.ensures c.whole_links_are_asked.ensures c.callers_ask.ensures refl c.serve-end.ensures.firm.1 (λ z. ((later z).0, rw c.in-Ok.is (later z).1)) acc

pub returns-in-Err-Read-clause-accounted : goal.returns-in-Err-Read-clause-accounted
returns-in-Err-Read-clause-accounted g c =
    let s = g.F.Front.site c.args.front.now in
    λ links n n' later acc. link_accounted g.F.Front.question g.F.Callers.is_callers g.L.Link.left g.L.Link.firm c.args.file_limit (g.F.Front.needs s) (g.F.Front.says s) (g.T.Keeps.legal s) (g.T.Keeps.plays s) c.serve-end.result (view c.args.pass.now) (view c.serve-end.new.pass)
    (link_view (g.L.Link.left c.args.link) (g.L.Link.written c.args.link) (g.L.Link.read_faults c.args.link) (g.L.Link.write_faults c.args.link)) (link_view (g.L.Link.left c.serve-end.new.link) (g.L.Link.written c.serve-end.new.link) (g.L.Link.read_faults c.serve-end.new.link) (g.L.Link.write_faults c.serve-end.new.link))
    c.args.link links n n' c.serve-end.ensures.served c.requests_are_asked.ensures c.whole_links_are_asked.ensures c.callers_ask.ensures refl c.serve-end.ensures.firm.1 (λ z. ((later z).0, rw (c.in-Err-Read.is, c.in-Err-Read.field-0-is) (later z).1)) acc

pub returns-in-Err-Write-clause-accounted : goal.returns-in-Err-Write-clause-accounted
returns-in-Err-Write-clause-accounted g c =
    let s = g.F.Front.site c.args.front.now in
    λ links n n' later acc. link_accounted g.F.Front.question g.F.Callers.is_callers g.L.Link.left g.L.Link.firm c.args.file_limit (g.F.Front.needs s) (g.F.Front.says s) (g.T.Keeps.legal s) (g.T.Keeps.plays s) c.serve-end.result (view c.args.pass.now) (view c.serve-end.new.pass)
    (link_view (g.L.Link.left c.args.link) (g.L.Link.written c.args.link) (g.L.Link.read_faults c.args.link) (g.L.Link.write_faults c.args.link)) (link_view (g.L.Link.left c.serve-end.new.link) (g.L.Link.written c.serve-end.new.link) (g.L.Link.read_faults c.serve-end.new.link) (g.L.Link.write_faults c.serve-end.new.link))
    c.args.link links n n' c.serve-end.ensures.served c.requests_are_asked.ensures c.whole_links_are_asked.ensures c.callers_ask.ensures refl c.serve-end.ensures.firm.1 (λ z. ((later z).0, rw (c.in-Err-Write.is, c.in-Err-Write.field-0-is) (later z).1)) acc

pub returns-in-Err-NoMemory-clause-accounted : goal.returns-in-Err-NoMemory-clause-accounted
returns-in-Err-NoMemory-clause-accounted g c =
    let s = g.F.Front.site c.args.front.now in
    λ links n n' later acc. link_accounted g.F.Front.question g.F.Callers.is_callers g.L.Link.left g.L.Link.firm c.args.file_limit (g.F.Front.needs s) (g.F.Front.says s) (g.T.Keeps.legal s) (g.T.Keeps.plays s) c.serve-end.result (view c.args.pass.now) (view c.serve-end.new.pass)
    (link_view (g.L.Link.left c.args.link) (g.L.Link.written c.args.link) (g.L.Link.read_faults c.args.link) (g.L.Link.write_faults c.args.link)) (link_view (g.L.Link.left c.serve-end.new.link) (g.L.Link.written c.serve-end.new.link) (g.L.Link.read_faults c.serve-end.new.link) (g.L.Link.write_faults c.serve-end.new.link))
    c.args.link links n n' c.serve-end.ensures.served c.requests_are_asked.ensures c.whole_links_are_asked.ensures c.callers_ask.ensures refl c.serve-end.ensures.firm.1 (λ z. ((later z).0, rw (c.in-Err-NoMemory.is, c.in-Err-NoMemory.field-0-is) (later z).1)) acc

pub returns-in-Err-Stopped-clause-accounted : goal.returns-in-Err-Stopped-clause-accounted
returns-in-Err-Stopped-clause-accounted g c =
    let s = g.F.Front.site c.args.front.now in
    λ links n n' later acc. link_accounted g.F.Front.question g.F.Callers.is_callers g.L.Link.left g.L.Link.firm c.args.file_limit (g.F.Front.needs s) (g.F.Front.says s) (g.T.Keeps.legal s) (g.T.Keeps.plays s) c.serve-end.result (view c.args.pass.now) (view c.serve-end.new.pass)
    (link_view (g.L.Link.left c.args.link) (g.L.Link.written c.args.link) (g.L.Link.read_faults c.args.link) (g.L.Link.write_faults c.args.link)) (link_view (g.L.Link.left c.serve-end.new.link) (g.L.Link.written c.serve-end.new.link) (g.L.Link.read_faults c.serve-end.new.link) (g.L.Link.write_faults c.serve-end.new.link))
    c.args.link links n n' c.serve-end.ensures.served c.requests_are_asked.ensures c.whole_links_are_asked.ensures c.callers_ask.ensures refl c.serve-end.ensures.firm.1 (λ z. ((later z).0, rw (c.in-Err-Stopped.is, c.in-Err-Stopped.field-0-is) (later z).1)) acc
