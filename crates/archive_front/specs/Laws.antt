-- Laws of callers' calls.
use Rattle.std.specs.Prelude.{◌≡◌, Bool, true, false, Some, None}
use Rattle.blob.specs.Records.{MediumView}
use Rattle.cta_site.specs.declared.site.Site.{Site}
use Rattle.cta_model.specs.History.{History}
use Rattle.cta_model.specs.Kept.{Kept}
use Rattle.wire_http.specs.Reply.{reply_view}
use Rattle.archive_turns.specs.declared.calls.ArchiveCall.{ArchiveCall}
use Rattle.archive_turns.specs.declared.calls.ArchiveBack.{ArchiveBack}
use Rattle.archive_turns.specs.Plays.{Returns, call_asks, kept_with}
use Rattle.archive_turns.specs.Fits.{CanPlay, IsFitCall}
use Rattle.tape_routes.specs.Asked.{Asked}
use Rattle.tape_routes.specs.Callers.{IsCallers}
use Rattle.tape_routes.specs.Answering.{RepliesWith, kept_then}
use Rattle.archive_front.specs.Questions.{IsCallersCall, asked_of_call, moment_of_call, question_in, question_of}
use Rattle.archive_front.specs.Backs.{IsForCallers, back_reply, found_no_memory, no_memory_reply}

-- a caller's call asks about no mount
abbrev pub CallersAskNoMount : Type 0 → Type 0
CallersAskNoMount M = (c : ArchiveCall M) → IsCallersCall c → call_asks c ≡ None

-- where a call found no memory, the reply says so
abbrev pub NoMemoryIsTold : Type 0 → Type 0
NoMemoryIsTold M = (site : Site) (b : ArchiveBack M) (close : Bool) → found_no_memory b ≡ true → back_reply site b close ≡ no_memory_reply close

module _ {M : Type 0} (told : M → MediumView) where
  -- a caller's call is fit whatever its caller has seen
  abbrev pub CallersAreFit : Type 0
  CallersAreFit = (site : Site) (h : History) (c : ArchiveCall M) → IsCallersCall c → IsFitCall told site h c

  -- it gets only what a caller may get
  abbrev pub CallersGetTheirs : Type 0
  CallersGetTheirs = (site : Site) (h later : History) (c : ArchiveCall M) (b : ArchiveBack M) → IsCallersCall c → Returns told site h c b later → IsForCallers b

  -- where a call asks what a caller asked, the reply to what came back from it is the reply to what was asked, on what was kept when it was played, with a content
  -- that the answer says
  abbrev pub RepliesAreRight : Type 0
  RepliesAreRight =
      (kept : Kept) (later : History) (asks : Asked) (c : ArchiveCall M) (b : ArchiveBack M) (close : Bool) → IsCallers asks → question_in asks ≡ Some (question_of c) → Returns told kept.site kept.history c b later
      → found_no_memory b ≡ false → RepliesWith kept (moment_of_call c) close asks (reply_view (back_reply kept.site b close))

  -- it may be played on each history, and leaves kept what the sequential archive keeps behind what it asks
  abbrev pub CallersMayPlay : Type 0
  CallersMayPlay = (site : Site) (h : History) (c : ArchiveCall M) → IsCallersCall c → CanPlay told site h c

  abbrev pub CallersLeave : Type 0
  CallersLeave =
      (kept : Kept) (later : History) (c : ArchiveCall M) (b : ArchiveBack M) → IsCallersCall c → Returns told kept.site kept.history c b later → found_no_memory b ≡ false
      → kept_with told kept c b ≡ kept_then kept (moment_of_call c) (asked_of_call c)
