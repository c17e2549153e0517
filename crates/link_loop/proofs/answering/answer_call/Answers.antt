use Rattle.std.proofs.Common.{◌≡◌, refl, sym, ap, ◌∙◌, arith}
use Rattle.turn_hall.specs.Handles.{view}
use Rattle.link_loop.specs.declared.front.Routed.TheVariants as routed
use Rattle.link_loop.specs.Served.{link_view}
use Rattle.link_loop.proofs.Handling.{call_said, call_lost}
use Rattle.link_loop.proofs.answering.answer_call.Goals as goal

pub returns-in-Ok-clause-handled : goal.returns-in-Ok-clause-handled
returns-in-Ok-clause-handled g c = λ q close needed.
    let s = g.F.Front.site c.args.front.now in
    let made = c.in-Ok.ensures.made in
    let e = c.send_said.ensures in
    let asks : g.F.Front.needs s q ≡ routed.Call (g.F.Front.question made.0.call) = needed ∙ ap (λ x. routed.Call (g.F.Front.question x)) (sym made.1) in
    let says : c.in-Ok.said ≡ g.F.Front.says s made.0.back q.close = made.4 ∙ ap (λ x. g.F.Front.says s made.0.back x) (sym close) in
    call_said g.F.Front.question (g.F.Front.needs s) (g.F.Front.says s) (g.T.Keeps.legal s) (g.T.Keeps.plays s) q made.0 (view c.args.pass.now) (view c.call_told.new.pass) asks made.2 made.3 c.in-Ok.ensures.seen
    c.send_said.result c.in-Ok.said
    (link_view (g.L.Link.left c.args.link.now) (g.L.Link.written c.args.link.now) (g.L.Link.read_faults c.args.link.now) (g.L.Link.write_faults c.args.link.now))
    (link_view (g.L.Link.left c.send_said.new.link) (g.L.Link.written c.send_said.new.link) (g.L.Link.read_faults c.send_said.new.link) (g.L.Link.write_faults c.send_said.new.link)) says e.sent e.later

pub returns-in-Err-clause-handled : goal.returns-in-Err-clause-handled
returns-in-Err-clause-handled g c = λ q close needed.
    let s = g.F.Front.site c.args.front.now in
    let made = c.in-Err.ensures.made in
    let asks : g.F.Front.needs s q ≡ routed.Call (g.F.Front.question made.0.call) = needed ∙ ap (λ x. routed.Call (g.F.Front.question x)) (sym made.1) in
    let says : g.F.Front.says s made.0.back c.args.close ≡ g.F.Front.says s made.0.back q.close = ap (λ x. g.F.Front.says s made.0.back x) (sym close) in
    let a = link_view (g.L.Link.left c.args.link.now) (g.L.Link.written c.args.link.now) (g.L.Link.read_faults c.args.link.now) (g.L.Link.write_faults c.args.link.now) in
    call_lost g.F.Front.question (g.F.Front.needs s) (g.F.Front.says s) (g.T.Keeps.legal s) (g.T.Keeps.plays s) q made.0 (view c.args.pass.now) (view c.call_told.new.pass) asks made.2 made.3 c.in-Err.ensures.seen
    (g.F.Front.says s made.0.back c.args.close) a a says made.4 refl (omega arith)
