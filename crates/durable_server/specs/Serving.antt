-- How a link is served over the hall of an archive with a journal.
use Rattle.std.specs.Prelude.{Result, Ok, Err}
use Rattle.blob.specs.Records.{MediumView}
use Rattle.cta_model.specs.declared.entries.Entry.{Entry}
use Rattle.outside.specs.declared.link.LinkEnd.{LinkEnd}
use Rattle.turn_hall.specs.declared.view.View.{View}
use Rattle.archive_turns.specs.declared.calls.ArchiveCall.{ArchiveCall}
use Rattle.archive.specs.InOrder.{IsLegalInOrder}
use Rattle.archive_front.specs.Questions.{question_of}
use Rattle.link_loop.specs.declared.sending.Unserved.{Unserved}
use Rattle.link_loop.specs.declared.sending.Unserved.TheVariants as unserved
use Rattle.link_loop.specs.Served.{LinkView, Served}
use Rattle.durable_archive.specs.declared.back.CloseCause.{CloseCause}
use Rattle.durable_archive.specs.declared.back.LoggedBack.{LoggedBack}
use Rattle.durable_archive.specs.declared.turns.LoggedSite.{LoggedSite}
use Rattle.durable_archive.specs.Turns.{LoggedPlays}
use Rattle.durable_server.specs.declared.link.DurableFault.{DurableFault}
use Rattle.durable_server.specs.declared.link.DurableFault.TheVariants as fault
use Rattle.durable_server.specs.Fronts.{needs_within, says_within}

-- the faults of a link, as those of the loop
abbrev pub unserved_as : DurableFault → Unserved CloseCause
unserved_as fault.Read = unserved.Read
unserved_as fault.Write = unserved.Write
unserved_as fault.NoMemory = unserved.NoMemory
unserved_as (fault.Closed why) = unserved.Stopped why

-- how a link ended, as an end of the loop
abbrev pub served_as : Result LinkEnd DurableFault → Result LinkEnd (Unserved CloseCause)
served_as (Ok end) = Ok end
served_as (Err why) = Err (unserved_as why)

-- not an end for a fault of the link
abbrev pub IsFirmEnd : Result LinkEnd DurableFault → Type 0
IsFirmEnd (Err fault.Read) = ⊥
IsFirmEnd (Err fault.Write) = ⊥
IsFirmEnd _ = Unit {0}

-- A link was served over the hall of an archive of this site with its journal, as `Served` of `link_loop` says: its requests ask what the routes say, each in a turn of its
-- own, and the replies are those of the routes. Where the journal is closed, the request that found it so has no reply, and is the last
abbrev pub ServesLink : {M K : Type 0} → (M → MediumView) → Result LinkEnd DurableFault → LoggedSite K → View (LoggedSite K) Entry (ArchiveCall M) (LoggedBack M)
    → View (LoggedSite K) Entry (ArchiveCall M) (LoggedBack M) → LinkView → LinkView → Type 0
ServesLink told result s v w a b = Served question_of (needs_within s) (says_within s) (IsLegalInOrder s.site) (LoggedPlays told s.site) (served_as result) s.site.limits.file v w a b
