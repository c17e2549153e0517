use Rattle.wire_http.specs.Reply.{body_of, reply_content}
use Rattle.link_loop.proofs.Parts.{cause_next, front_of_both, sends_next}
use Rattle.link_loop.proofs.writing.write_parts.Goals as goal

pub returns-in-Ok-clause-bytes : goal.returns-in-Ok-clause-bytes
returns-in-Ok-clause-bytes g c =
    sends_next (g.L.Link.written c.args.link.now) (g.L.Link.written c.write_all_of.new.self) (g.L.Link.written c.write_body.new.link) c.args.head.now (reply_content (body_of c.args.kind.now)) c.write_body.result c.in-Ok.ensures.bytes
    c.write_body.ensures.bytes

pub returns-in-Ok-clause-cause : goal.returns-in-Ok-clause-cause
returns-in-Ok-clause-cause g c =
    cause_next (g.L.Link.write_faults c.args.link.now) (g.L.Link.write_faults c.write_all_of.new.self) (g.L.Link.write_faults c.write_body.new.link) c.write_body.result c.in-Ok.ensures.cause.later c.write_body.ensures.cause

pub returns-in-Err-clause-bytes : goal.returns-in-Err-clause-bytes
returns-in-Err-clause-bytes g c = front_of_both (g.L.Link.written c.args.link.now) (g.L.Link.written c.write_all_of.new.self) c.args.head.now (reply_content (body_of c.args.kind.now)) c.in-Err.ensures.bytes
