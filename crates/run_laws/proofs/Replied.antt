-- The reply to an event is the same on what is kept alike, but for the bytes of a file; and what is kept behind it is alike.
use Rattle.std.proofs.Common.{◌≡◌, ◌∙◌, ◌⊎◌, ℕ, List, Bool, inl, inr, refl, sym, ap, subst}
use Rattle.std.specs.Prelude.{Option, Some, None}
use Rattle.blob.specs.Sums.{sum_of}
use Rattle.cta_site.specs.declared.site.Site.{Site}
use Rattle.cta_model.specs.declared.answers.Answer.{Answer}
use Rattle.cta_model.specs.declared.answers.Answer.TheVariants as answer
use Rattle.cta_model.specs.Answers.{answer_of}
use Rattle.cta_model.specs.Kept.{Kept}
use Rattle.cta_model.specs.Looks.{look_answer_of}
use Rattle.conn.specs.Cut.{Continues, Event, Refuses, Requests}
use Rattle.wire_http.specs.declared.request.Request.{Request}
use Rattle.wire_http.specs.Reply.{FileBody, NoBody, ReplyView, view_text}
use Rattle.tape_routes.specs.Asked.{Asked, Asks, Looks, Replies, asked}
use Rattle.tape_routes.specs.Answering.{FitsAnswer, FitsAsked, FitsRequest, answer_view, kept_then, reply_to, request_keeps, request_reply}
use Rattle.mismatch_laws.specs.Alike.{AreAlike}
use Rattle.replay.specs.Output.{FitsEvent, event_keeps, event_text, frame}
use Rattle.run_laws.specs.Texts.{AreAlikeTexts}
use Rattle.run_laws.proofs.Pairs.{AreAlikeKept, alike_after, same_answer, same_look}

-- ---- replies

record AreFileViews (v w : ReplyView) : Type 0 where
  view : ReplyView
  bytes : List ℕ
  others : List ℕ
  first : v ≡ record view { body = FileBody bytes }
  second : w ≡ record view { body = FileBody others }
  same : sum_of bytes ≡ sum_of others

abbrev AreAlikeViews : ReplyView → ReplyView → Type 0
AreAlikeViews v w = (v ≡ w) ⊎ AreFileViews v w

answered_views : (site : Site) (a : Answer) (c d : Option (List ℕ)) (close : Bool) → FitsAnswer a c → FitsAnswer a d → AreAlikeViews (answer_view site a c close) (answer_view site a d close)
answered_views site (answer.Bytes sum) (Some b) (Some e) close p q =
    inr (record { view = record { code = 200; body = NoBody; location = None; allow = None; close = close }; bytes = b; others = e; first = refl; second = refl; same = p ∙ sym q })
answered_views site (answer.Bytes sum) None d close p q = absurd p
answered_views site (answer.Bytes sum) (Some b) None close p q = absurd q
answered_views site a c d close p q = inl (ap (λ x. answer_view site a x close) (p ∙ sym q))

by_answer : (s r : Site) (a b : Answer) (c d : Option (List ℕ)) (close : Bool) → s ≡ r → a ≡ b → FitsAnswer a c → FitsAnswer b d → AreAlikeViews (answer_view s a c close) (answer_view r b d close)
by_answer s r a b c d close site same p q =
    subst (AreAlikeViews (answer_view s a c close)) (λ z. answer_view (site z) (same z) d close) (answered_views s a c d close p (subst (λ u. FitsAnswer u d) (sym same) q))

abbrev frame_of : ℕ → ReplyView → List ℕ
frame_of link v = frame (record { link = link; text = view_text v })

framed : (link : ℕ) (v w : ReplyView) → AreAlikeViews v w → AreAlikeTexts (frame_of link v) (frame_of link w)
framed link v w (inl same) = inl (ap (frame_of link) same)
framed link v w (inr f) = inr (record { link = link; view = f.view; bytes = f.bytes; others = f.others; first = ap (frame_of link) f.first; second = ap (frame_of link) f.second; same = f.same })

-- ---- on what is kept alike

module _ (k l : Kept) (t : ℕ) (x : AreAlikeKept k l) where
  replies : (close : Bool) (a : Asked) (c d : Option (List ℕ)) → FitsAsked k t a c → FitsAsked l t a d → AreAlikeViews (reply_to k t close a c) (reply_to l t close a d)
  unfolding reply_to FitsAsked
  replies close (Asks ask sent) c d p q =
      by_answer k.site l.site (answer_of k.site k.history t ask) (answer_of l.site l.history t ask) c d close x.site (same_answer k l t ask ask x refl) p q
  replies close (Looks look) c d p q =
      by_answer k.site l.site (look_answer_of k.site k.history t look) (look_answer_of l.site l.history t look) c d close x.site (same_look k l t look x) p q
  replies close (Replies reply) c d p q = inl refl

  request_replies : (r : Request) (c d : Option (List ℕ)) → FitsRequest k t r c → FitsRequest l t r d → AreAlikeViews (reply_to k t r.close (asked k.site r) c) (reply_to l t r.close (asked l.site r) d)
  unfolding FitsRequest
  request_replies r c d p q =
      subst (λ u. AreAlikeViews (reply_to k t r.close (asked k.site r) c) (reply_to l t r.close (asked u r) d)) x.site
      (replies r.close (asked k.site r) c d p (subst (λ u. FitsAsked l t (asked u r) d) (sym x.site) q))

  pub event_texts : (link : ℕ) (e : Event) (c d : Option (List ℕ)) → FitsEvent k t c e → FitsEvent l t d e
      → AreAlikeTexts (frame (record { link = link; text = event_text k t c e })) (frame (record { link = link; text = event_text l t d e }))
  unfolding request_reply
  event_texts link Continues c d p q = inl refl
  event_texts link (Requests r) c d p q = framed link (reply_to k t r.close (asked k.site r) c) (reply_to l t r.close (asked l.site r) d) (request_replies r c d p q)
  event_texts link (Refuses refusal) c d p q = inl refl

  then_alike : (a : Asked) → AreAlike (kept_then k t a).history (kept_then l t a).history
  unfolding kept_then
  then_alike (Asks ask sent) = alike_after k l t ask ask None None x refl
  then_alike (Looks look) = x.history
  then_alike (Replies reply) = x.history

  pub event_alike : (e : Event) → AreAlike (event_keeps k t e).history (event_keeps l t e).history
  unfolding request_keeps
  event_alike Continues = x.history
  event_alike (Requests r) = subst (λ u. AreAlike (kept_then k t (asked k.site r)).history (kept_then l t (asked u r)).history) x.site (then_alike (asked k.site r))
  event_alike (Refuses refusal) = x.history
