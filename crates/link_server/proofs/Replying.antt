-- Replies at their place.
use Rattle.std.proofs.Common.{◌≡◌, ℕ, List, Bool, true, false, Option, Some, None, refl, sym, ap, ◌∙◌, subst}
use Rattle.std.specs.Prelude.{reverse}
use mathlib.Core.List.{IsPrefix}
use Rattle.blob.specs.Records.{MediumView}
use Rattle.cta_site.specs.declared.site.Site.{Site}
use Rattle.cta_model.specs.declared.entries.Entry.{Entry}
use Rattle.cta_model.specs.History.{History}
use Rattle.conn.specs.Cut.{Event, Requests}
use Rattle.wire_http.specs.declared.request.Request.{Request}
use Rattle.wire_http.specs.declared.reply.Reply.{Reply}
use Rattle.wire_http.specs.Reply.{reply_text, reply_view, view_text}
use Rattle.tape_routes.specs.Asked.{Asked, Asks, Looks, Replies, asked}
use Rattle.tape_routes.specs.Answering.{FitsAsked, FitsRequest, IsReplyTo, RepliesWith, reply_to, request_reply}
use Rattle.tape_routes.specs.Callers.{CallersAsk}
use Rattle.turn_hall.specs.declared.view.Made.{Made}
use Rattle.archive_turns.specs.declared.calls.ArchiveCall.{ArchiveCall}
use Rattle.archive_turns.specs.declared.calls.ArchiveBack.{ArchiveBack}
use Rattle.archive.specs.InOrder.{Grows, IsLegalInOrder, PlaysInOrder}
use Rattle.archive_front.specs.declared.questions.Question.{Question}
use Rattle.archive_front.specs.declared.questions.Question.TheVariants as question
use Rattle.archive_front.specs.Questions.{question_in, question_of, moment_of_call}
use Rattle.archive_front.specs.Backs.{back_reply, found_no_memory, no_memory_reply}
use Rattle.archive_front.specs.Laws.{RepliesAreRight, NoMemoryIsTold}
use Rattle.link_loop.specs.declared.front.Routed.{Routed}
use Rattle.link_loop.specs.declared.front.Routed.TheVariants as routed
use Rattle.link_loop.specs.Exchanges.{Exchange, HasItsCall, Suits, SuitsEvent, WasPlayed, event_text, request_text, text_of}
use Rattle.link_server.specs.Fronts.{need_in, needs_of, says_of}
use Rattle.link_loop.proofs.Lists.{begins_both}
use Rattle.link_server.specs.Serving.{FixedRepliesAreTheRoutes, IsReplyAt, RepliesAreTheArchives}

module _ {M : Type 0} (told : M → MediumView) (site : Site) (request : Request) (m : Made (ArchiveCall M) (ArchiveBack M)) where
  -- the question of a request that has a call
  asks_that : (x : Asked) → HasItsCall question_of (need_in x) (Some m) → question_in x ≡ Some (question_of m.call)
  asks_that (Asks k content) s = ap (λ (q : Question). Some q) (sym s)
  asks_that (Looks k) s = ap (λ (q : Question). Some q) (sym s)
  asks_that (Replies reply) s = absurd (let no : Some m ≡ None = s in cc)

  -- its text is that of the reply to what came back
  text_that : (x : Asked) → HasItsCall question_of (need_in x) (Some m) → request_text (says_of {M = M} site) request (need_in x) (Some m) ≡ reply_text (back_reply site m.back request.close)
  text_that (Asks k content) s = refl
  text_that (Looks k) s = refl
  text_that (Replies reply) s = absurd (let no : Some m ≡ None = s in cc)

  text_is : (h : List Entry) (shelf : List (Option MediumView)) (text : List ℕ) → text ≡ reply_text (back_reply site m.back request.close)
      → RepliesWith (record { site = site; history = reverse h; shelf = shelf }) (moment_of_call m.call) request.close (asked site request) (reply_view (back_reply site m.back request.close))
      → IsReplyTo (record { site = site; history = reverse h; shelf = shelf }) (moment_of_call m.call) request text
  unfolding request_reply FitsRequest
  text_is h shelf text e r = record { content = r.content; fits = r.fits; is_text = e ∙ ap view_text r.is_reply }

  at_place : RepliesAreRight told → NoMemoryIsTold M → Grows told → CallersAsk → (seen seen' : List Entry) (text : List ℕ) → HasItsCall question_of (needs_of site request) (Some m) → text ≡ request_text (says_of {M = M} site) request (needs_of site request) (Some m)
      → WasPlayed (IsLegalInOrder site) (PlaysInOrder told site) seen seen' m → IsReplyAt told site seen seen' request m text
  at_place right untold grows callers seen seen' text s is w =
      let same : text ≡ reply_text (back_reply site m.back request.close) = is ∙ text_that (asked site request) s in
      let grown : IsPrefix w.before w.later = (grows site w.before m.call m.back w.later w.played).0 in
      record {
        before = w.before;
        was_legal = w.was_legal;
        place = w.place;
        onward = w.onward;
        known = begins_both w.before w.later seen' grown w.known;
        replied = λ some shelf. text_is w.before shelf text same (right (record { site = site; history = reverse w.before; shelf = shelf }) (reverse w.later) (asked site request) m.call m.back request.close (callers site request) (asks_that (asked site request) s) w.played.1 some);
        no_memory = λ none. same ∙ ap reply_text (untold site m.back request.close none);
      }

module _ {M : Type 0} (told : M → MediumView) where
  pub replies_at : RepliesAreRight told → NoMemoryIsTold M → Grows told → CallersAsk → RepliesAreTheArchives told
  replies_at right untold grows callers site seen seen' x request m event call suits w =
      let has : SuitsEvent question_of (needs_of site) (Requests request) (Some m) = subst (λ c. SuitsEvent question_of (needs_of site) (Requests request) c) call (subst (λ e. SuitsEvent question_of (needs_of site) e x.call) event suits) in
      let text : text_of (needs_of site) (says_of {M = M} site) x ≡ request_text (says_of {M = M} site) request (needs_of site request) (Some m) = (λ i. event_text (needs_of site) (says_of {M = M} site) (event i) (call i)) in
      at_place told site request m right untold grows callers seen seen' (text_of (needs_of site) (says_of {M = M} site) x) has text w

-- the reply that needs no archive is the reply to the request
fixed_reply : (site : Site) (history : History) (shelf : List (Option MediumView)) (t : ℕ) (request : Request) (reply : Reply) → asked site request ≡ Replies reply
    → IsReplyTo (record { site = site; history = history; shelf = shelf }) t request (reply_text reply)
unfolding request_reply FitsRequest reply_to FitsAsked
fixed_reply site history shelf t request reply e = record {
  content = None;
  fits = subst (λ (a : Asked). FitsAsked (record { site = site; history = history; shelf = shelf }) t a None) (sym e) refl;
  is_text = ap (λ (a : Asked). view_text (reply_to (record { site = site; history = history; shelf = shelf }) t request.close a None)) (sym e);
}

-- what a request that has no call comes to
fixed_of : (M : Type 0) (x : Asked) → HasItsCall {C = ArchiveCall M} {B = ArchiveBack M} question_of (need_in x) None → (reply : Reply) × (x ≡ Replies reply)
fixed_of M (Asks k content) s = absurd s
fixed_of M (Looks k) s = absurd s
fixed_of M (Replies reply) s = (reply, refl)

pub fixed_replies : {M : Type 0} → FixedRepliesAreTheRoutes M
fixed_replies {M} site history shelf t x request event call suits =
    let has : SuitsEvent {C = ArchiveCall M} {B = ArchiveBack M} question_of (needs_of site) (Requests request) None =
    subst (λ c. SuitsEvent question_of (needs_of site) (Requests request) c) call (subst (λ e. SuitsEvent question_of (needs_of site) e x.call) event suits) in
    let f = fixed_of M (asked site request) has in
    let text : text_of (needs_of site) (says_of {M = M} site) x ≡ request_text {C = ArchiveCall M} (says_of {M = M} site) request (need_in (asked site request)) None =
    (λ i. event_text (needs_of site) (says_of {M = M} site) (event i) (call i)) in
    let fixed : request_text {C = ArchiveCall M} (says_of {M = M} site) request (need_in (asked site request)) None ≡ reply_text f.0 =
    ap (λ (a : Asked). request_text {C = ArchiveCall M} (says_of {M = M} site) request (need_in a) None) f.1 in
    subst (IsReplyTo (record { site = site; history = history; shelf = shelf }) t request) (sym (text ∙ fixed)) (fixed_reply site history shelf t request f.0 f.1)
