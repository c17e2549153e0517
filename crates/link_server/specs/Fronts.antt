-- What requests need of an archive, and what is said to what comes back.
use Rattle.std.specs.Prelude.{Bool}
use Rattle.cta_site.specs.declared.site.Site.{Site}
use Rattle.wire_http.specs.declared.request.Request.{Request}
use Rattle.archive_turns.specs.declared.calls.ArchiveBack.{ArchiveBack}
use Rattle.tape_routes.specs.Asked.{Asked, Asks, Looks, Replies, asked}
use Rattle.archive_front.specs.declared.questions.Question.{Question}
use Rattle.archive_front.specs.declared.questions.Question.TheVariants as question
use Rattle.archive_front.specs.Backs.{back_reply}
use Rattle.link_loop.specs.declared.front.Routed.{Routed}
use Rattle.link_loop.specs.declared.front.Routed.TheVariants as routed
use Rattle.link_loop.specs.declared.front.Said.{Said}
use Rattle.link_loop.specs.declared.front.Said.TheVariants as said

-- what is asked of the archive, or the reply that needs none
abbrev pub need_in : Asked → Routed Question
need_in (Asks k content) = routed.Call (question.Ask k)
need_in (Looks k) = routed.Call (question.Look k)
need_in (Replies reply) = routed.Reply reply

-- what a request needs on this site
abbrev pub needs_of : Site → Request → Routed Question
needs_of site request = need_in (asked site request)

-- whatever comes back has its reply: a link of an archive is always served on
abbrev pub says_of : {M : Type 0} → Site → ArchiveBack M → Bool → Said (Unit {0})
says_of site b close = said.Reply (back_reply site b close)
