use Rattle.std.proofs.Common.{◌≡◌, sym, ap, ◌∙◌}
use Rattle.std.proofs.lemmas.Result.{IfOk-weaker}
use Rattle.cta_model.specs.Kept.{Kept}
use Rattle.archive_front.specs.Questions.{asked_of_call, moment_of_call}
use Rattle.replay.proofs.Running.{kept_then-site}
use Rattle.replay.proofs.RequestReplies.{asked_so, call_replied, on_ok}
use Rattle.replay.proofs.service.call_reply.Goals as goal

pub call-back-requires : goal.call-back-requires
call-back-requires g c = c.callers_are_served.ensures.plays c.args.archive.now.site c.args.archive.now.history c.args.call c.requires

pub reply_to_back-requires : goal.reply_to_back-requires
reply_to_back-requires g c = c.callers_are_served.ensures.gets c.args.archive.now.site c.args.archive.now.history c.call-back.new.self.history c.args.call c.call-back.result c.requires c.call-back.ensures.returns

pub returns-clause-reply : goal.returns-clause-reply
returns-clause-reply g c =
    let k = c.args.archive.now in
    let kept = c.call-back.ensures.kept ∙ c.callers_are_served.ensures.leaves k c.call-back.new.self.history c.args.call c.call-back.result c.requires c.call-back.ensures.returns (sym c.found_no_memory.ensures ∙ c.if-found_no_memory.false) in
    let site : c.site.result.now ≡ k.site = c.site.ensures ∙ ap (λ (j : Kept). j.site) kept ∙ kept_then-site k (moment_of_call c.args.call) (asked_of_call c.args.call) in
    let replied = c.callers_are_served.ensures.replies k c.call-back.new.self.history (asked_of_call c.args.call) c.args.call c.call-back.result c.args.close c.requires.callers (asked_so c.args.call) c.call-back.ensures.returns (sym c.found_no_memory.ensures ∙ c.if-found_no_memory.false) in
    IfOk-weaker c.reply_to_back.result _ _ (λ reply e. call_replied k (moment_of_call c.args.call) c.args.close (asked_of_call c.args.call) c.call-back.result c.site.result.now reply site e replied) c.reply_to_back.ensures

pub returns-clause-kept : goal.returns-clause-kept
returns-clause-kept g c =
    on_ok c.reply_to_back.result (c.call-back.ensures.kept ∙ c.callers_are_served.ensures.leaves c.args.archive.now c.call-back.new.self.history c.args.call c.call-back.result c.requires c.call-back.ensures.returns (sym c.found_no_memory.ensures ∙ c.if-found_no_memory.false))
