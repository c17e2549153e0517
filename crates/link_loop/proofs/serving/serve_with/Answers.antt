use Rattle.std.proofs.Common.{Err, ◌∙◌, ◌++◌, ◌≤◌, refl, sym, ap, subst, arith, take, drop, length-take, length-append, length-drop}
use Rattle.std.proofs.lemmas.List.{take-append-le}
use Rattle.turn_hall.specs.Handles.{view}
use Rattle.conn.specs.Stands.{HasCompletion, Stands, limit_of}
use Rattle.link_loop.specs.declared.sending.Unserved.TheVariants as unserved
use Rattle.link_loop.proofs.Lists.{keeps_consumes, rose_later}
use Rattle.std.proofs.lemmas.Result.{err_from_is_err_and}
use Rattle.link_loop.specs.Served.{Served, link_view}
use Rattle.link_loop.proofs.Sessions.{session_none, session_fed, served_ended, served_closed, served_spent, served_read, served_broken, session_out_of_memory, none_taken, not_err}
use Rattle.link_loop.proofs.serving.serve_with.Goals as goal

pub pieces-init : goal.pieces-init
pieces-init g c =
    let s = g.F.Front.site c.args.front.now in
    record {
      here = c.requires.here;
      seats = refl;
      session = session_none g.F.Front.question (g.F.Front.needs s) (g.F.Front.says s) (g.T.Keeps.legal s) (g.T.Keeps.plays s) c.new-conn.result (view c.args.pass.now) (link_view (g.L.Link.left c.args.link.now) (g.L.Link.written c.args.link.now) (g.L.Link.read_faults c.args.link.now) (g.L.Link.write_faults c.args.link.now)) c.new-conn.ensures.stands;
      limit = c.new-conn.ensures.limit;
      within = omega arith;
      buffer = c.requires.buffer.0;
      short = c.requires.buffer.1;
      reads = omega arith;
      firm = refl;
    }

pub returns-in-Over-clause-served : goal.returns-in-Over-clause-served
returns-in-Over-clause-served g c =
    let s = g.F.Front.site c.args.front.now in
    let e = c.in_ok-answer_all.ensures in
    let answered = rw c.in-Over.is at e.answered in
    let paused = answered c.pieces.taken (view c.args.pass.now) (link_view (g.L.Link.left c.args.link.now) (g.L.Link.written c.args.link.now) (g.L.Link.read_faults c.args.link.now) (g.L.Link.write_faults c.args.link.now)) c.pieces.invariant.session in
    served_closed g.F.Front.question (g.F.Front.needs s) (g.F.Front.says s) (g.T.Keeps.legal s) (g.T.Keeps.plays s) c.args.file_limit c.answer_all.new.conn c.pieces.taken (view c.args.pass.now) (view c.answer_all.new.pass) (link_view (g.L.Link.left c.args.link.now) (g.L.Link.written c.args.link.now) (g.L.Link.read_faults c.args.link.now) (g.L.Link.write_faults c.args.link.now)) (link_view (g.L.Link.left c.answer_all.new.link) (g.L.Link.written c.answer_all.new.link) (g.L.Link.read_faults c.answer_all.new.link) (g.L.Link.write_faults c.answer_all.new.link))
    (e.limit ∙ c.pieces.invariant.limit) c.pieces.invariant.within paused

pub returns-then-taken-eq-BUDGET-clause-served : goal.returns-then-taken-eq-BUDGET-clause-served
returns-then-taken-eq-BUDGET-clause-served g c =
    let s = g.F.Front.site c.args.front.now in
    let e = c.in_ok-answer_all.ensures in
    let answered = rw c.in-Waits.is at e.answered in
    let paused = answered c.pieces.taken (view c.args.pass.now) (link_view (g.L.Link.left c.args.link.now) (g.L.Link.written c.args.link.now) (g.L.Link.read_faults c.args.link.now) (g.L.Link.write_faults c.args.link.now)) c.pieces.invariant.session in
    served_spent g.F.Front.question (g.F.Front.needs s) (g.F.Front.says s) (g.T.Keeps.legal s) (g.T.Keeps.plays s) c.args.file_limit c.answer_all.new.conn c.pieces.taken (view c.args.pass.now) (view c.answer_all.new.pass) (link_view (g.L.Link.left c.args.link.now) (g.L.Link.written c.args.link.now) (g.L.Link.read_faults c.args.link.now) (g.L.Link.write_faults c.args.link.now)) (link_view (g.L.Link.left c.answer_all.new.link) (g.L.Link.written c.answer_all.new.link) (g.L.Link.read_faults c.answer_all.new.link) (g.L.Link.write_faults c.answer_all.new.link))
    (e.limit ∙ c.pieces.invariant.limit) c.if-taken-eq-BUDGET.true paused

pub returns-then-count-eq0-clause-served : goal.returns-then-count-eq0-clause-served
returns-then-count-eq0-clause-served g c =
    let s = g.F.Front.site c.args.front.now in
    let e = c.in_ok-answer_all.ensures in
    let answered = rw c.in-Waits.is at e.answered in
    let paused = answered c.pieces.taken (view c.args.pass.now) (link_view (g.L.Link.left c.args.link.now) (g.L.Link.written c.args.link.now) (g.L.Link.read_faults c.args.link.now) (g.L.Link.write_faults c.args.link.now)) c.pieces.invariant.session in
    let r = c.in-Ok.ensures in
    served_ended g.F.Front.question (g.F.Front.needs s) (g.F.Front.says s) (g.T.Keeps.legal s) (g.T.Keeps.plays s) c.args.file_limit c.answer_all.new.conn c.pieces.taken (view c.args.pass.now) (view c.answer_all.new.pass) (link_view (g.L.Link.left c.args.link.now) (g.L.Link.written c.args.link.now) (g.L.Link.read_faults c.args.link.now) (g.L.Link.write_faults c.args.link.now)) (link_view (g.L.Link.left c.answer_all.new.link) (g.L.Link.written c.answer_all.new.link) (g.L.Link.read_faults c.answer_all.new.link) (g.L.Link.write_faults c.answer_all.new.link)) (link_view (g.L.Link.left c.read.new.self) (g.L.Link.written c.read.new.self) (g.L.Link.read_faults c.read.new.self) (g.L.Link.write_faults c.read.new.self))
    (take c.in-Ok.count c.read.new.to) (e.limit ∙ c.pieces.invariant.limit) c.pieces.invariant.within (none_taken c.in-Ok.count c.read.new.to c.if-count-eq0.true) r.bytes.0
    (r.bytes.1 c.if-count-eq0.true (omega (arith, c.if-taken-eq-BUDGET.false, c.min-most.ensures, c.read.auto.to, length-take c.min-most.result c.answer_all.new.buffer, c.answer_all.auto.buffer, c.pieces.invariant.within, c.pieces.invariant.buffer))) r.other.0 r.other.1 paused

pub pieces-preserved : goal.pieces-preserved
pieces-preserved g c =
    let s = g.F.Front.site c.args.front.now in
    let e = c.in_ok-answer_all.ensures in
    let answered = rw c.in-Waits.is at e.answered in
    let paused = answered c.pieces.taken (view c.args.pass.now) (link_view (g.L.Link.left c.args.link.now) (g.L.Link.written c.args.link.now) (g.L.Link.read_faults c.args.link.now) (g.L.Link.write_faults c.args.link.now)) c.pieces.invariant.session in
    let r = c.in-Ok.ensures in
    let n = c.in-Ok.count in
    let to = c.read.new.to in
    let back = drop c.min-most.result c.answer_all.new.buffer in
    let front = take-append-le n to back r.bound.0 in
    record {
      here = e.here;
      seats = e.seats ∙ c.pieces.invariant.seats;
      session = session_fed g.F.Front.question (g.F.Front.needs s) (g.F.Front.says s) (g.T.Keeps.legal s) (g.T.Keeps.plays s) c.answer_all.new.conn c.feed.new.self (take n to) c.pieces.taken n (view c.args.pass.now) (view c.answer_all.new.pass) (link_view (g.L.Link.left c.args.link.now) (g.L.Link.written c.args.link.now) (g.L.Link.read_faults c.args.link.now) (g.L.Link.write_faults c.args.link.now)) (link_view (g.L.Link.left c.answer_all.new.link) (g.L.Link.written c.answer_all.new.link) (g.L.Link.read_faults c.answer_all.new.link) (g.L.Link.write_faults c.answer_all.new.link)) (link_view (g.L.Link.left c.read.new.self) (g.L.Link.written c.read.new.self) (g.L.Link.read_faults c.read.new.self) (g.L.Link.write_faults c.read.new.self))
          (c.feed.ensures.limit ∙ c.reserve.ensures.limit)
          (λ fed given st. subst (λ piece. Stands c.feed.new.self (fed ++ piece) given) front (not_err _ _ c.feed.result (sym c.if-is_err-2.false ∙ c.is_err-in-pieces.ensures.value) (c.feed.ensures.fed fed given (c.reserve.ensures.stands fed given st)))) r.bytes.0 r.other.0 r.other.1 r.bound.1
          (omega (arith, c.min-most.ensures, r.bound.0, c.read.auto.to, c.answer_all.auto.buffer, length-take c.min-most.result c.answer_all.new.buffer, c.pieces.invariant.short)) paused;
      limit = c.feed.ensures.limit ∙ c.reserve.ensures.limit ∙ e.limit ∙ c.pieces.invariant.limit;
      within = omega (arith, c.min-most.ensures, r.bound.0, c.read.auto.to, length-take c.min-most.result c.answer_all.new.buffer, c.pieces.invariant.within);
      buffer = omega (arith, c.if-taken-eq-BUDGET.false, c.min-most.ensures, c.read.auto.to, length-append to back, length-take c.min-most.result c.answer_all.new.buffer, c.answer_all.auto.buffer, c.pieces.invariant.within, c.pieces.invariant.buffer);
      short = omega (arith, c.min-most.ensures, c.read.auto.to, c.answer_all.auto.buffer, length-append to back, length-take c.min-most.result c.answer_all.new.buffer, c.pieces.invariant.short, length-drop c.min-most.result c.answer_all.new.buffer);
      reads = omega (arith, c.pieces.invariant.reads, e.reads, r.cause.later);
      firm = r.firm.0 ∙ e.firm.0 ∙ c.pieces.invariant.firm;
    }

pub returns-in_err-answer_all-clause-served : goal.returns-in_err-answer_all-clause-served
returns-in_err-answer_all-clause-served g c =
    let s = g.F.Front.site c.args.front.now in
    let broken = c.in_err-answer_all.ensures.answered c.pieces.taken (view c.args.pass.now) (link_view (g.L.Link.left c.args.link.now) (g.L.Link.written c.args.link.now) (g.L.Link.read_faults c.args.link.now) (g.L.Link.write_faults c.args.link.now)) c.pieces.invariant.session in
    let served = served_broken g.F.Front.question (g.F.Front.needs s) (g.F.Front.says s) (g.T.Keeps.legal s) (g.T.Keeps.plays s) c.in_err-answer_all.field-0.0 c.args.file_limit (limit_of c.pieces.conn) c.pieces.taken (view c.args.pass.now) (view c.answer_all.new.pass) (link_view (g.L.Link.left c.args.link.now) (g.L.Link.written c.args.link.now) (g.L.Link.read_faults c.args.link.now) (g.L.Link.write_faults c.args.link.now)) (link_view (g.L.Link.left c.answer_all.new.link) (g.L.Link.written c.answer_all.new.link) (g.L.Link.read_faults c.answer_all.new.link) (g.L.Link.write_faults c.answer_all.new.link)) c.pieces.invariant.limit c.pieces.invariant.within broken in
    let given = err_from_is_err_and c.from_residual.result c.from_residual.ensures.1 in
    subst (λ r. Served g.F.Front.question (g.F.Front.needs s) (g.F.Front.says s) (g.T.Keeps.legal s) (g.T.Keeps.plays s) r c.args.file_limit (view c.args.pass.now) (view c.answer_all.new.pass) (link_view (g.L.Link.left c.args.link.now) (g.L.Link.written c.args.link.now) (g.L.Link.read_faults c.args.link.now) (g.L.Link.write_faults c.args.link.now)) (link_view (g.L.Link.left c.answer_all.new.link) (g.L.Link.written c.answer_all.new.link) (g.L.Link.read_faults c.answer_all.new.link) (g.L.Link.write_faults c.answer_all.new.link))) (sym (given.1 ∙ ap Err given.2)) served

pub returns-then-is_err-clause-served : goal.returns-then-is_err-clause-served
returns-then-is_err-clause-served g c =
    let s = g.F.Front.site c.args.front.now in
    let e = c.in_ok-answer_all.ensures in
    let answered = rw c.in-Waits.is at e.answered in
    let paused = answered c.pieces.taken (view c.args.pass.now) (link_view (g.L.Link.left c.args.link.now) (g.L.Link.written c.args.link.now) (g.L.Link.read_faults c.args.link.now) (g.L.Link.write_faults c.args.link.now)) c.pieces.invariant.session in
    let broken =
    session_out_of_memory g.F.Front.question (g.F.Front.needs s) (g.F.Front.says s) (g.T.Keeps.legal s) (g.T.Keeps.plays s) c.answer_all.new.conn c.reserve.new.self c.args.file_limit c.pieces.taken (view c.args.pass.now) (view c.answer_all.new.pass) (link_view (g.L.Link.left c.args.link.now) (g.L.Link.written c.args.link.now) (g.L.Link.read_faults c.args.link.now) (g.L.Link.write_faults c.args.link.now)) (link_view (g.L.Link.left c.answer_all.new.link) (g.L.Link.written c.answer_all.new.link) (g.L.Link.read_faults c.answer_all.new.link) (g.L.Link.write_faults c.answer_all.new.link)) (e.limit ∙ c.pieces.invariant.limit) c.reserve.ensures.stands
    (λ fed given st. subst (λ k. HasCompletion k fed given) (c.reserve.ensures.limit ∙ e.limit ∙ c.pieces.invariant.limit) (c.has_completion.ensures fed given st)) paused.session in
    served_broken g.F.Front.question (g.F.Front.needs s) (g.F.Front.says s) (g.T.Keeps.legal s) (g.T.Keeps.plays s) unserved.NoMemory c.args.file_limit c.args.file_limit c.pieces.taken (view c.args.pass.now) (view c.answer_all.new.pass) (link_view (g.L.Link.left c.args.link.now) (g.L.Link.written c.args.link.now) (g.L.Link.read_faults c.args.link.now) (g.L.Link.write_faults c.args.link.now)) (link_view (g.L.Link.left c.answer_all.new.link) (g.L.Link.written c.answer_all.new.link) (g.L.Link.read_faults c.answer_all.new.link) (g.L.Link.write_faults c.answer_all.new.link)) refl c.pieces.invariant.within broken

pub returns-in-Err-clause-served : goal.returns-in-Err-clause-served
returns-in-Err-clause-served g c =
    let s = g.F.Front.site c.args.front.now in
    let e = c.in_ok-answer_all.ensures in
    let answered = rw c.in-Waits.is at e.answered in
    let paused = answered c.pieces.taken (view c.args.pass.now) (link_view (g.L.Link.left c.args.link.now) (g.L.Link.written c.args.link.now) (g.L.Link.read_faults c.args.link.now) (g.L.Link.write_faults c.args.link.now)) c.pieces.invariant.session in
    let r = c.in-Err.ensures in
    let low : g.L.Link.read_faults c.args.link.now ≤ g.L.Link.read_faults c.answer_all.new.link = omega (arith, c.pieces.invariant.reads, e.reads) in
    served_read g.F.Front.question (g.F.Front.needs s) (g.F.Front.says s) (g.T.Keeps.legal s) (g.T.Keeps.plays s) c.args.file_limit c.answer_all.new.conn c.pieces.taken (view c.args.pass.now) (view c.answer_all.new.pass) (link_view (g.L.Link.left c.args.link.now) (g.L.Link.written c.args.link.now) (g.L.Link.read_faults c.args.link.now) (g.L.Link.write_faults c.args.link.now)) (link_view (g.L.Link.left c.answer_all.new.link) (g.L.Link.written c.answer_all.new.link) (g.L.Link.read_faults c.answer_all.new.link) (g.L.Link.write_faults c.answer_all.new.link)) (link_view (g.L.Link.left c.read.new.self) (g.L.Link.written c.read.new.self) (g.L.Link.read_faults c.read.new.self) (g.L.Link.write_faults c.read.new.self))
    (e.limit ∙ c.pieces.invariant.limit) c.pieces.invariant.within (keeps_consumes (g.L.Link.left c.answer_all.new.link) (g.L.Link.left c.read.new.self) r.bytes)
    (rose_later (g.L.Link.read_faults c.args.link.now) (g.L.Link.read_faults c.answer_all.new.link) (g.L.Link.read_faults c.read.new.self) low r.cause.failed) r.other.0 r.other.1 paused
