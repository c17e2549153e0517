-- Callers' calls are fit, get what callers get, and are replied to as the sequential archive is.
use Rattle.std.proofs.Common.{◌≡◌, ℕ, true, false, List, None, Ok, Err, refl, sym, ap, ◌∙◌, subst}
use Rattle.std.specs.Prelude.{Option, Some, option_map}
use Rattle.std.specs.Arc.{arc_value}
use Rattle.blob.specs.Records.{MediumView}
use Rattle.cta_site.specs.declared.site.Site.{Site}
use Rattle.cta_model.specs.Bare.{bare_ask, bare_look, bare_answer}
use Rattle.cta_model.specs.History.{History}
use Rattle.cta_model.specs.Hands.{HandIn, LookHand, medium_in}
use Rattle.cta_model.specs.Kept.{kept_after}
use Rattle.cta_model.specs.declared.answers.Answer.{Answer}
use Rattle.cta_model.specs.declared.answers.Answer.TheVariants as answer
use Rattle.cta_model.specs.declared.asks.Ask.{Ask}
use Rattle.cta_model.specs.declared.asks.Ask.TheVariants as ask
use Rattle.cta_model.specs.declared.asks.Look.{Look}
use Rattle.cta_model.specs.declared.asks.Look.TheVariants as look
use Rattle.cta_model.specs.Answers.{answer_of}
use Rattle.cta_model.specs.Looks.{look_answer_of}
use Rattle.cta_model.specs.declared.hands.Hand.{Hand}
use Rattle.archive_turns.specs.declared.calls.ArchiveCall.TheVariants as call
use Rattle.archive_turns.specs.declared.calls.ArchiveBack.TheVariants as back
use Rattle.archive_turns.specs.Topics.{mount_asked}
use Rattle.archive_turns.specs.Fits.{IsOpenAtEnd}
use Rattle.tape_routes.specs.Asked.{Asks, Looks, Replies}
use Rattle.tape_routes.specs.Callers.{IsCallers}
use Rattle.tape_routes.specs.Answering.{FitsAsked, kept_then, reply_to}
use Rattle.archive_front.specs.Hands.{content_in, hand_with}
use Rattle.archive_front.specs.declared.questions.Question.TheVariants as question
use Rattle.archive_front.specs.Backs.{back_reply}
use Rattle.archive_front.specs.Laws.{CallersAreFit, CallersAskNoMount, CallersGetTheirs, CallersLeave, CallersMayPlay, RepliesAreRight, NoMemoryIsTold}
use Rattle.archive_front.proofs.Callers.{callers_fit, callers_hand, callers_medium}
use Rattle.archive_front.proofs.ForCallers.{CarryContent, ask_has_reply, look_has_reply, reply_told}

-- an ask and a look with no room to spare in their lists are answered alike
ask_alike : (site : Site) (h : History) (t : ℕ) (k : Ask) → answer_of site h t k ≡ answer_of site h t (bare_ask k)
ask_alike site h t (ask.Stage who files) = refl
ask_alike site h t (ask.Cancel who id paths) = refl
ask_alike site h t (ask.Release who id paths) = refl
ask_alike site h t (ask.Flushed m items) = refl
ask_alike site h t (ask.Failed m fault charged returned) = refl
ask_alike site h t (ask.Retry who paths) = refl
ask_alike site h t _ = refl

look_alike : (site : Site) (h : History) (t : ℕ) (k : Look) → look_answer_of site h t k ≡ look_answer_of site h t (bare_look k)
look_alike site h t (look.ArchiveInfo paths) = refl
look_alike site h t _ = refl

-- the hand of a look's answer is told by the answer with no room to spare in its lists
hand_alike : {M : Type 0} (a : Answer) (out : Hand M) → LookHand a out → LookHand (bare_answer a) out
hand_alike (answer.Stored evicted) out is = is
hand_alike answer.Done out is = is
hand_alike (answer.Staged id) out is = is
hand_alike (answer.Mounted mount direction tape) out is = is
hand_alike answer.Idle out is = is
hand_alike answer.DriveDown out is = is
hand_alike answer.DriveBusy out is = is
hand_alike (answer.Batch items evicted) out is = is
hand_alike answer.Nothing out is = is
hand_alike (answer.Told fates) out is = is
hand_alike (answer.Arrived fate) out is = is
hand_alike (answer.Repacking id items) out is = is
hand_alike (answer.Retried jobs) out is = is
hand_alike (answer.Bytes sum) out is = is
hand_alike (answer.Stage info) out is = is
hand_alike (answer.Places infos) out is = is
hand_alike (answer.RepackSeen info) out is = is
hand_alike (answer.FailedSeen copies) out is = is
hand_alike (answer.TapeSeen info) out is = is
hand_alike (answer.QueuesSeen infos) out is = is
hand_alike (answer.Refused r) out is = is

-- what a caller asks is about no mount, and ends none
about_none : (k : Ask) (content : Option (List ℕ)) → IsCallers (Asks (bare_ask k) content) → mount_asked k ≡ None
about_none (ask.Claim m) content f = absurd f
about_none (ask.Flushed m items) content f = absurd f
about_none (ask.Recalled m job) content f = absurd f
about_none (ask.Failed m fault charged returned) content f = absurd f
about_none (ask.End m fault) content f = absurd f
about_none _ content is = refl

ends_none : (h : History) (k : Ask) (content : Option (List ℕ)) → IsCallers (Asks (bare_ask k) content) → IsOpenAtEnd h k
ends_none h (ask.End m fault) content f = absurd f
ends_none h _ content is = tt

pub about : (M : Type 0) → CallersAskNoMount M
about M (call.Ask at k in_hand) c = about_none k _ c.callers
about M (call.Look at k) c = refl

module _ {M : Type 0} (told : M → MediumView) where
  pub fit : CallersAreFit told
  fit site h (call.Ask at k in_hand) c =
      let hands : HandIn told h k (hand_with (content_in in_hand)) = callers_hand told h k (content_in in_hand) c.callers in
      ((c.within, callers_fit site h k (option_map arc_value (content_in in_hand)) c.callers, subst (HandIn told h k) (sym c.handed) hands), ends_none h k _ c.callers)
  fit site h (call.Look at k) c = c.within

  pub plays : CallersMayPlay told
  plays site h (call.Ask at k in_hand) c = (fit site h (call.Ask at k in_hand) c).0
  plays site h (call.Look at k) c = c.within

  pub leaves : CallersLeave told
  unfolding kept_then
  leaves kept later (call.Ask at k in_hand) (back.Ask (Ok (a, out))) c r some =
      let none : medium_in told in_hand ≡ None = ap (medium_in told) c.handed ∙ callers_medium told (content_in in_hand) in
      let answered : bare_answer a ≡ answer_of kept.site kept.history at (bare_ask k) = r.answered ∙ ask_alike kept.site kept.history at k in
      ap (kept_after kept at (bare_ask k) (bare_answer a)) none ∙ ap (λ (x : Answer). kept_after kept at (bare_ask k) x None) answered
  leaves kept later (call.Ask at k in_hand) (back.Ask (Err y)) c r some = absurd (let no : true ≡ false = some in cc)
  leaves kept later (call.Ask at k in_hand) (back.Look y) c r some = absurd r
  leaves kept later (call.Look at k) (back.Look (Ok (a, out))) c r some = refl
  leaves kept later (call.Look at k) (back.Look (Err y)) c r some = absurd (let no : true ≡ false = some in cc)
  leaves kept later (call.Look at k) (back.Ask y) c r some = absurd r

  pub gets : CallersGetTheirs told
  gets site h later (call.Ask at k in_hand) (back.Ask (Ok (a, out))) c r =
      let s = ask_has_reply site h at (bare_ask k) (option_map arc_value (content_in in_hand)) a c.callers (r.answered ∙ ask_alike site h at k) in
      (s.callers, s.content)
  gets site h later (call.Ask at k in_hand) (back.Ask (Err x)) c r = tt
  gets site h later (call.Ask at k in_hand) (back.Look x) c r = absurd r
  gets site h later (call.Look at k) (back.Look (Ok (a, out))) c r =
      let s = look_has_reply site h at (bare_look k) a out (r.1 ∙ look_alike site h at k) (hand_alike a out r.2) in
      (s.callers, s.content)
  gets site h later (call.Look at k) (back.Look (Err x)) c r = tt
  gets site h later (call.Look at k) (back.Ask x) c r = absurd r

  asked_so : (k k' : Ask) → Some (question.Ask k) ≡ Some (question.Ask k') → k ≡ k'
  asked_so k k' e = cc

  looked_so : (k k' : Look) → Some (question.Look k) ≡ Some (question.Look k') → k ≡ k'
  looked_so k k' e = cc

  pub replies : CarryContent → RepliesAreRight told
  unfolding reply_to FitsAsked
  replies carry kept later (Asks k' sent) (call.Ask at k in_hand) (back.Ask (Ok (a, out))) close caller e r some =
      let same : k' ≡ bare_ask k = asked_so k' (bare_ask k) e in
      let answered : bare_answer a ≡ answer_of kept.site kept.history at k' = r.answered ∙ ask_alike kept.site kept.history at k ∙ ap (answer_of kept.site kept.history at) (sym same) in
      let s = ask_has_reply kept.site kept.history at k' sent a caller answered in
      record { content = None; fits = s.fits; is_reply = reply_told kept.site a (answer_of kept.site kept.history at k') None close (back_reply kept.site (back.Ask (Ok (a, out))) close) carry answered s.content refl }
  replies carry kept later x (call.Ask at k in_hand) (back.Ask (Err y)) close caller e r some = absurd (let no : true ≡ false = some in cc)
  replies carry kept later x (call.Ask at k in_hand) (back.Look y) close caller e r some = absurd r
  replies carry kept later (Looks k') (call.Look at k) (back.Look (Ok (a, out))) close caller e r some =
      let same : k' ≡ bare_look k = looked_so k' (bare_look k) e in
      let answered : bare_answer a ≡ look_answer_of kept.site kept.history at k' = r.1 ∙ look_alike kept.site kept.history at k ∙ ap (look_answer_of kept.site kept.history at) (sym same) in
      let s = look_has_reply kept.site kept.history at k' a out answered (hand_alike a out r.2) in
      record { content = option_map arc_value (content_in out); fits = s.fits; is_reply = reply_told kept.site a (look_answer_of kept.site kept.history at k') (content_in out) close (back_reply kept.site (back.Look (Ok (a, out))) close) carry answered s.content refl }
  replies carry kept later x (call.Look at k) (back.Look (Err y)) close caller e r some = absurd (let no : true ≡ false = some in cc)
  replies carry kept later x (call.Look at k) (back.Ask y) close caller e r some = absurd r
  replies carry kept later (Looks k') (call.Ask at k in_hand) (back.Ask (Ok (a, out))) close caller e r some = absurd (let no : Some (question.Look k') ≡ Some (question.Ask (bare_ask k)) = e in cc)
  replies carry kept later (Replies y) (call.Ask at k in_hand) (back.Ask (Ok (a, out))) close caller e r some = absurd (let no : None ≡ Some (question.Ask (bare_ask k)) = e in cc)
  replies carry kept later (Asks k' sent) (call.Look at k) (back.Look (Ok (a, out))) close caller e r some = absurd (let no : Some (question.Ask k') ≡ Some (question.Look (bare_look k)) = e in cc)
  replies carry kept later (Replies y) (call.Look at k) (back.Look (Ok (a, out))) close caller e r some = absurd (let no : None ≡ Some (question.Look (bare_look k)) = e in cc)

pub none : (M : Type 0) → NoMemoryIsTold M
none M site (back.Ask (Ok x)) close e = absurd (let no : false ≡ true = e in cc)
none M site (back.Ask (Err x)) close e = refl
none M site (back.Look (Ok x)) close e = absurd (let no : false ≡ true = e in cc)
none M site (back.Look (Err x)) close e = refl
