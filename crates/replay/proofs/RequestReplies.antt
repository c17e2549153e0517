-- The replies to requests, and what is kept behind them.
use Rattle.std.proofs.Common.{◌≡◌, ℕ, Bool, List, None, Result, Ok, Err, OnOk, refl, sym, ap, ◌∙◌, subst}
use Rattle.std.specs.Prelude.{Some}
use Rattle.cta_site.specs.declared.site.Site.{Site}
use Rattle.cta_model.specs.Kept.{Kept}
use Rattle.wire_http.specs.declared.request.Request.{Request}
use Rattle.wire_http.specs.declared.reply.Reply.{Reply}
use Rattle.wire_http.specs.Reply.{reply_text, reply_view, view_text}
use Rattle.archive_turns.specs.declared.calls.ArchiveCall.{ArchiveCall}
use Rattle.archive_turns.specs.declared.calls.ArchiveCall.TheVariants as call
use Rattle.archive_turns.specs.declared.calls.ArchiveBack.{ArchiveBack}
use Rattle.archive_front.specs.declared.questions.Called.TheVariants as called
use Rattle.archive_front.specs.Backs.{back_reply}
use Rattle.archive_front.specs.Questions.{ComesTo, asked_of_call, moment_of_call, question_in, question_of}
use Rattle.tape_routes.specs.Asked.{Asked, Replies, asked}
use Rattle.tape_routes.specs.Answering.{FitsAsked, FitsRequest, IsReplyTo, RepliesWith, kept_then, reply_to, request_keeps, request_reply}

pub replied : (k : Kept) (t : ℕ) (close : Bool) (reply : Reply) → RepliesWith k t close (Replies reply) (reply_view reply)
unfolding reply_to FitsAsked
replied k t close reply = record { content = None; fits = refl; is_reply = refl }

pub replied_keeps : (k : Kept) (t : ℕ) (reply : Reply) → k ≡ kept_then k t (Replies reply)
unfolding kept_then
replied_keeps k t reply = refl

pub request_text : (text : List ℕ) (k : Kept) (t : ℕ) (request : Request) (reply : Reply) (routed : Asked) (site : Site) → text ≡ reply_text reply → RepliesWith k t request.close routed (reply_view reply)
    → routed ≡ asked site request → site ≡ k.site → IsReplyTo k t request text
unfolding request_reply FitsRequest
request_text text k t request reply routed site e r g h =
    let same = g ∙ ap (λ (s : Site). asked s request) h in
    record {
      content = r.content;
      fits = subst (λ x. FitsAsked k t x r.content) same r.fits;
      is_text = e ∙ ap view_text (r.is_reply ∙ ap (λ x. reply_to k t request.close x r.content) same);
    }

pub request_kept : (k now : Kept) (t : ℕ) (request : Request) (routed : Asked) (site : Site) → now ≡ kept_then k t routed → routed ≡ asked site request → site ≡ k.site → now ≡ request_keeps k t request
unfolding request_keeps
request_kept k now t request routed site f g h = f ∙ ap (kept_then k t) (g ∙ ap (λ (s : Site). asked s request) h)

-- ---- calls

-- what a call asks is asked by it
pub asked_so : {M : Type 0} (c : ArchiveCall M) → question_in (asked_of_call c) ≡ Some (question_of c)
asked_so (call.Ask at k in_hand) = refl
asked_so (call.Look at k) = refl

-- the reply to what came back, on the site that is as it was
pub call_replied : {M : Type 0} (k : Kept) (t : ℕ) (close : Bool) (asks : Asked) (b : ArchiveBack M) (site : Site) (reply : Reply) → site ≡ k.site → reply ≡ back_reply site b close
    → RepliesWith k t close asks (reply_view (back_reply k.site b close)) → RepliesWith k t close asks (reply_view reply)
call_replied k t close asks b site reply same e r = subst (λ (x : Reply). RepliesWith k t close asks (reply_view x)) (sym (e ∙ ap (λ (s : Site). back_reply s b close) same)) r

pub call_text : {M : Type 0} (text : List ℕ) (k : Kept) (t : ℕ) (request : Request) (reply : Reply) (c : ArchiveCall M) (site : Site) → text ≡ reply_text reply
    → RepliesWith k (moment_of_call c) request.close (asked_of_call c) (reply_view reply) → ComesTo (asked site request) t (called.Call c) → site ≡ k.site → IsReplyTo k t request text
call_text text k t request reply c site e r comes h =
    request_text text k t request reply (asked_of_call c) site e (subst (λ (m : ℕ). RepliesWith k m request.close (asked_of_call c) (reply_view reply)) comes.1 r) comes.0 h

pub call_keeps : {M : Type 0} (k now : Kept) (t : ℕ) (request : Request) (c : ArchiveCall M) (site : Site) → now ≡ kept_then k (moment_of_call c) (asked_of_call c) → ComesTo (asked site request) t (called.Call c) → site ≡ k.site
    → now ≡ request_keeps k t request
call_keeps k now t request c site f comes h = request_kept k now t request (asked_of_call c) site (f ∙ ap (λ (m : ℕ). kept_then k m (asked_of_call c)) comes.1) comes.0 h

pub on_ok : {T E Q : Type 0} (r : Result T E) → Q → OnOk r Q
on_ok (Ok x) h = h
on_ok (Err e) h = tt
