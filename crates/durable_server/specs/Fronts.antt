-- What requests need of an archive with a journal, and what is said to what comes back.
use Rattle.std.specs.Prelude.{Bool, ⊤}
use Rattle.wire_http.specs.declared.request.Request.{Request}
use Rattle.archive_front.specs.declared.questions.Question.{Question}
use Rattle.archive_front.specs.Backs as archives
use Rattle.link_loop.specs.declared.front.Routed.{Routed}
use Rattle.link_loop.specs.declared.front.Said.{Said}
use Rattle.link_loop.specs.declared.front.Said.TheVariants as said
use Rattle.link_server.specs.Fronts.{needs_of}
use Rattle.durable_archive.specs.declared.back.CloseCause.{CloseCause}
use Rattle.durable_archive.specs.declared.back.LoggedBack.{LoggedBack}
use Rattle.durable_archive.specs.declared.back.LoggedBack.TheVariants as back
use Rattle.durable_archive.specs.declared.turns.LoggedSite.{LoggedSite}

-- what a request needs: as of an archive of the site
abbrev pub needs_within : {K : Type 0} → LoggedSite K → Request → Routed Question
needs_within s request = needs_of s.site request

-- what a caller may get: what it may get of an archive, or that the journal is closed
abbrev pub IsForCallers : {M : Type 0} → LoggedBack M → Type 0
IsForCallers (back.Answered b) = archives.IsForCallers b
IsForCallers (back.Closed why out added) = ⊤

-- an answer has its reply; where the journal is closed the link isn't served on, and nothing is written
abbrev pub says_within : {M K : Type 0} → LoggedSite K → LoggedBack M → Bool → Said CloseCause
says_within s (back.Answered b) close = said.Reply (archives.back_reply s.site b close)
says_within s (back.Closed why out added) close = said.Stop why
