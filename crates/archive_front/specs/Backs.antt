-- What comes back from a caller's call, and the reply to it.
use Rattle.std.specs.Prelude.{IsTrue, Bool, true, false, Ok, Err, None, codes}
use Rattle.cta_site.specs.declared.site.Site.{Site}
use Rattle.wire_http.specs.declared.reply.Reply.{Reply}
use Rattle.wire_http.specs.Reply.{error_reply}
use Rattle.archive_turns.specs.declared.calls.ArchiveBack.{ArchiveBack}
use Rattle.archive_turns.specs.declared.calls.ArchiveBack.TheVariants as back
use Rattle.tape_routes.specs.Replies.{is_for_callers, HasContent, reply_for}
use Rattle.archive_front.specs.Hands.{content_in}

-- whether the call found no memory
abbrev pub found_no_memory : {M : Type 0} → ArchiveBack M → Bool
found_no_memory (back.Ask (Ok x)) = false
found_no_memory (back.Ask (Err x)) = true
found_no_memory (back.Look (Ok x)) = false
found_no_memory (back.Look (Err x)) = true

-- what a caller may get: an answer that is none of a drive's session, with the sum of a file its content, of that length and SHA-256; or word that there was no memory
abbrev pub IsForCallers : {M : Type 0} → ArchiveBack M → Type 0
IsForCallers (back.Ask (Ok (a, out))) = IsTrue (is_for_callers a) × HasContent a None
IsForCallers (back.Ask (Err x)) = Unit {0}
IsForCallers (back.Look (Ok (a, out))) = IsTrue (is_for_callers a) × HasContent a (content_in out)
IsForCallers (back.Look (Err x)) = Unit {0}

-- the reply to a request for which there was no memory (this project's own)
abbrev pub no_memory_reply : Bool → Reply
no_memory_reply close = error_reply 500 (codes "no memory") close

-- the reply to what came back, which says whether the connection closes
abbrev pub back_reply : {M : Type 0} → Site → ArchiveBack M → Bool → Reply
back_reply site (back.Ask (Ok (a, out))) close = reply_for site a None close
back_reply site (back.Ask (Err x)) close = no_memory_reply close
back_reply site (back.Look (Ok (a, out))) close = reply_for site a (content_in out) close
back_reply site (back.Look (Err x)) close = no_memory_reply close
