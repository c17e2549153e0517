use Rattle.std.proofs.Common.{sym}
use Rattle.std.proofs.lemmas.Result.{IfOk-weaker}
use Rattle.tape_routes.specs.Asked.{Replies}
use Rattle.replay.proofs.RequestReplies.{call_keeps, call_text, on_ok, replied, replied_keeps, request_kept, request_text}
use Rattle.replay.proofs.service.Service.answer.Goals as goal

pub returns-in_ok-reply-in-Call-clause-text : goal.returns-in_ok-reply-in-Call-clause-text
returns-in_ok-reply-in-Call-clause-text g c =
    IfOk-weaker c.write_reply.result _ _
    (λ text e. call_text text.items c.args.self.now.archive c.args.moment c.args.request c.in_ok-reply-in-Call.reply c.in-Call.call c.site.result.now e c.in_ok-reply-in-Call.ensures.reply (rw c.in-Call.is at c.in_ok-call.ensures) c.site.ensures) c.write_reply.ensures

pub returns-in_ok-reply-in-Call-clause-kept : goal.returns-in_ok-reply-in-Call-clause-kept
returns-in_ok-reply-in-Call-clause-kept g c =
    on_ok c.write_reply.result (call_keeps c.args.self.now.archive c.call_reply.new.archive c.args.moment c.args.request c.in-Call.call c.site.result.now c.in_ok-reply-in-Call.ensures.kept (rw c.in-Call.is at c.in_ok-call.ensures) c.site.ensures)

pub returns-in-Reply-clause-text : goal.returns-in-Reply-clause-text
returns-in-Reply-clause-text g c =
    IfOk-weaker c.write_reply-in-Reply.result _ _
    (λ text e. request_text text.items c.args.self.now.archive c.args.moment c.args.request c.in-Reply.reply (Replies c.in-Reply.reply) c.site.result.now e (replied c.args.self.now.archive c.args.moment c.args.request.close c.in-Reply.reply) (sym (rw c.in-Reply.is at c.in_ok-call.ensures)) c.site.ensures) c.write_reply-in-Reply.ensures

pub returns-in-Reply-clause-kept : goal.returns-in-Reply-clause-kept
returns-in-Reply-clause-kept g c =
    on_ok c.write_reply-in-Reply.result (request_kept c.args.self.now.archive c.args.self.now.archive c.args.moment c.args.request (Replies c.in-Reply.reply) c.site.result.now (replied_keeps c.args.self.now.archive c.args.moment c.in-Reply.reply) (sym (rw c.in-Reply.is at c.in_ok-call.ensures)) c.site.ensures)
