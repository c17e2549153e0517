use Rattle.std.proofs.Common.{◌++◌, ◌∙◌, ap, subst}
use Rattle.wire_http.specs.Reply.{body_of, reply_content}
use Rattle.link_loop.specs.Served.{IsSent, link_view}
use Rattle.link_loop.proofs.sending.send_long.Goals as goal

pub returns-in-Ok-clause-sent : goal.returns-in-Ok-clause-sent
returns-in-Ok-clause-sent g c =
    let a = link_view (g.L.Link.left c.args.link.now) (g.L.Link.written c.args.link.now) (g.L.Link.read_faults c.args.link.now) (g.L.Link.write_faults c.args.link.now) in
    let b = link_view (g.L.Link.left c.send_parts.new.link) (g.L.Link.written c.send_parts.new.link) (g.L.Link.read_faults c.send_parts.new.link) (g.L.Link.write_faults c.send_parts.new.link) in
    let text = ap (λ h. h ++ reply_content (body_of c.args.reply.now.kind)) c.deref.ensures.value ∙ c.in-Ok.ensures in
    subst (λ t. IsSent c.send_parts.result t a b) text c.send_parts.ensures.sent
