-- How a request is answered by the archive on what it keeps: the reply, and what is kept then.
use Rattle.std.specs.Prelude.{◌≡◌, ℕ, List, [], Bool, Option, Some, None, unwrap_or}
use Rattle.blob.specs.Sums.{sum_of}
use Rattle.blob.specs.declared.sum.Sum256.{Sum256}
use Rattle.cta_site.specs.declared.site.Site.{Site}
use Rattle.cta_model.specs.Answers.{answer_of}
use Rattle.cta_model.specs.Kept.{Kept, kept_after}
use Rattle.cta_model.specs.Looks.{look_answer_of}
use Rattle.cta_model.specs.declared.answers.Answer.{Answer}
use Rattle.cta_model.specs.declared.answers.Answer.TheVariants as answer
use Rattle.wire_http.specs.declared.request.Request.{Request}
use Rattle.wire_http.specs.Reply.{ReplyView, FileBody, reply_view, view_text}
use Rattle.tape_routes.specs.Asked.{Asked, Asks, Looks, Replies, asked}
use Rattle.tape_routes.specs.Replies.{reply_for}

-- content of this length and SHA-256
abbrev pub IsContentOf : Sum256 → Option (List ℕ) → Type 0
IsContentOf sum None = ⊥
IsContentOf sum (Some bytes) = sum_of bytes ≡ sum

-- the content that goes out with an answer: with the sum of a file its bytes, of that length and SHA-256, and with any other answer none
abbrev pub FitsAnswer : Answer → Option (List ℕ) → Type 0
FitsAnswer (answer.Bytes sum) content = IsContentOf sum content
FitsAnswer a content = content ≡ None

-- the reply to an answer that a caller gets, with the bytes of its file where it has one
abbrev pub answer_view : Site → Answer → Option (List ℕ) → Bool → ReplyView
answer_view site (answer.Bytes sum) content close = record { code = 200; body = FileBody (unwrap_or content []); location = None; allow = None; close = close }
answer_view site a content close = reply_view (reply_for site a None close)

-- the reply at a moment to what is asked, with this content: that to the archive's answer, or one that needs no archive
unfoldable pub reply_to : Kept → ℕ → Bool → Asked → Option (List ℕ) → ReplyView
reply_to kept moment close (Asks ask sent) content = answer_view kept.site (answer_of kept.site kept.history moment ask) content close
reply_to kept moment close (Looks look) content = answer_view kept.site (look_answer_of kept.site kept.history moment look) content close
reply_to kept moment close (Replies reply) content = reply_view reply

-- the content that goes out with the reply to what is asked: that of the archive's answer, and none where no archive is needed
unfoldable pub FitsAsked : Kept → ℕ → Asked → Option (List ℕ) → Type 0
FitsAsked kept moment (Asks ask sent) content = FitsAnswer (answer_of kept.site kept.history moment ask) content
FitsAsked kept moment (Looks look) content = FitsAnswer (look_answer_of kept.site kept.history moment look) content
FitsAsked kept moment (Replies reply) content = content ≡ None

-- what is kept then
unfoldable pub kept_then : Kept → ℕ → Asked → Kept
kept_then kept moment (Asks ask sent) = kept_after kept moment ask (answer_of kept.site kept.history moment ask) None
kept_then kept moment (Looks look) = kept
kept_then kept moment (Replies reply) = kept

-- the text of the reply to a request, at a moment, with this content
unfoldable pub request_reply : Kept → ℕ → Request → Option (List ℕ) → List ℕ
request_reply kept moment request content = view_text (reply_to kept moment request.close (asked kept.site request) content)

-- the content that goes out with it
unfoldable pub FitsRequest : Kept → ℕ → Request → Option (List ℕ) → Type 0
FitsRequest kept moment request content = FitsAsked kept moment (asked kept.site request) content

-- what is kept behind a request
unfoldable pub request_keeps : Kept → ℕ → Request → Kept
request_keeps kept moment request = kept_then kept moment (asked kept.site request)

-- the reply to what is asked, with a content that the answer says
pub record RepliesWith (kept : Kept) (moment : ℕ) (close : Bool) (asks : Asked) (reply : ReplyView) : Type 0 where
  pub content : Option (List ℕ)
  pub fits : FitsAsked kept moment asks content
  pub is_reply : reply ≡ reply_to kept moment close asks content

-- the text of the reply to a request, with a content that the answer says
pub record IsReplyTo (kept : Kept) (moment : ℕ) (request : Request) (text : List ℕ) : Type 0 where
  pub content : Option (List ℕ)
  pub fits : FitsRequest kept moment request content
  pub is_text : text ≡ request_reply kept moment request content
