-- How a link is served over the hall of an archive.
use Rattle.std.specs.Prelude.{◌≡◌, ℕ, List, Bool, true, false, Option, Some, None, Result, Ok, Err, reverse, length}
use mathlib.Core.List.{IsPrefix}
use Rattle.blob.specs.Records.{MediumView}
use Rattle.cta_site.specs.declared.site.Site.{Site}
use Rattle.cta_model.specs.declared.entries.Entry.{Entry}
use Rattle.cta_model.specs.History.{History}
use Rattle.cta_model.specs.Legal.{IsLegal}
use Rattle.outside.specs.declared.link.LinkEnd.{LinkEnd}
use Rattle.conn.specs.Cut.{Requests}
use Rattle.wire_http.specs.declared.request.Request.{Request}
use Rattle.wire_http.specs.Reply.{reply_text}
use Rattle.tape_routes.specs.Answering.{IsReplyTo}
use Rattle.turn_hall.specs.declared.view.Made.{Made}
use Rattle.turn_hall.specs.declared.view.View.{View}
use Rattle.archive_turns.specs.declared.calls.ArchiveCall.{ArchiveCall}
use Rattle.archive_turns.specs.declared.calls.ArchiveBack.{ArchiveBack}
use Rattle.archive.specs.InOrder.{IsLegalInOrder, PlaysInOrder}
use Rattle.archive_front.specs.Questions.{question_of, moment_of_call}
use Rattle.archive_front.specs.Backs.{found_no_memory, no_memory_reply}
use Rattle.link_loop.specs.declared.sending.Unserved.{Unserved}
use Rattle.link_loop.specs.declared.sending.Unserved.TheVariants as unserved
use Rattle.link_loop.specs.Exchanges.{Exchange, Suits, WasPlayed, text_of}
use Rattle.link_loop.specs.Served.{LinkView, Served}
use Rattle.link_server.specs.Fronts.{needs_of, says_of}
use Rattle.link_server.specs.declared.serving.LinkFault.{LinkFault}
use Rattle.link_server.specs.declared.serving.LinkFault.TheVariants as fault

-- the faults of a link of an archive, as those of the loop; none is a stop
abbrev pub unserved_as : LinkFault → Unserved (Unit {0})
unserved_as fault.Read = unserved.Read
unserved_as fault.Write = unserved.Write
unserved_as fault.NoMemory = unserved.NoMemory

-- how a link of an archive ended, as an end of the loop
abbrev pub served_as : Result LinkEnd LinkFault → Result LinkEnd (Unserved (Unit {0}))
served_as (Ok end) = Ok end
served_as (Err why) = Err (unserved_as why)

-- not an end for a fault of the link
abbrev pub IsFirmEnd : Result LinkEnd LinkFault → Type 0
IsFirmEnd (Ok end) = Unit {0}
IsFirmEnd (Err fault.Read) = ⊥
IsFirmEnd (Err fault.Write) = ⊥
IsFirmEnd (Err fault.NoMemory) = Unit {0}

module _ {M : Type 0} (told : M → MediumView) where
  -- A link was served over the hall of an archive of this site, as `Served` of `link_loop` says: its requests ask what the routes say, each in a turn of the
  -- archive, and the replies are those of the routes
  abbrev pub ServesLink : Result LinkEnd LinkFault → Site → View Site Entry (ArchiveCall M) (ArchiveBack M) → View Site Entry (ArchiveCall M) (ArchiveBack M) → LinkView → LinkView → Type 0
  ServesLink result site v w a b = Served question_of (needs_of site) (says_of site) (IsLegalInOrder site) (PlaysInOrder told site) (served_as result) site.limits.file v w a b

  -- A text is the reply to a request at its place: on the legal history there, which begins with what was seen before and begins what is seen now, it is the
  -- sequential archive's reply, with a content that the answer says, whatever is on the shelf; or 500, where the call found no memory
  pub record IsReplyAt (site : Site) (seen seen' : List Entry) (request : Request) (m : Made (ArchiveCall M) (ArchiveBack M)) (text : List ℕ) : Type 0 where
    pub before : List Entry
    pub was_legal : IsLegal site (reverse before)
    pub place : length before ≡ m.at
    pub onward : IsPrefix seen before
    pub known : IsPrefix before seen'
    pub replied : found_no_memory m.back ≡ false → (shelf : List (Option MediumView)) → IsReplyTo (record { site = site; history = reverse before; shelf = shelf }) (moment_of_call m.call) request text
    pub no_memory : found_no_memory m.back ≡ true → text ≡ reply_text (no_memory_reply request.close)

  -- so is each reply to a request that has its call
  abbrev pub RepliesAreTheArchives : Type 0
  RepliesAreTheArchives =
      (site : Site) (seen seen' : List Entry) (x : Exchange (ArchiveCall M) (ArchiveBack M)) (request : Request) (m : Made (ArchiveCall M) (ArchiveBack M)) → x.event ≡ Requests request → x.call ≡ Some m
      → Suits question_of (needs_of site) x → WasPlayed (IsLegalInOrder site) (PlaysInOrder told site) seen seen' m
      → IsReplyAt site seen seen' request m (text_of (needs_of site) (says_of {M = M} site) x)

-- a request that has no call has the reply of the routes that needs no archive, whatever is kept, and at whatever moment
abbrev pub FixedRepliesAreTheRoutes : Type 0 → Type 0
FixedRepliesAreTheRoutes M =
    (site : Site) (history : History) (shelf : List (Option MediumView)) (t : ℕ) (x : Exchange (ArchiveCall M) (ArchiveBack M)) (request : Request) → x.event ≡ Requests request → x.call ≡ None
    → Suits question_of (needs_of site) x → IsReplyTo (record { site = site; history = history; shelf = shelf }) t request (text_of (needs_of site) (says_of {M = M} site) x)
