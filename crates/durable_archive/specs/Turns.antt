-- What comes back from a call of an archive that keeps a journal, and what is kept then.
use Rattle.std.specs.Prelude.{ℕ, ◌≡◌, List, Bool, true, false, reverse, Option, Some, None, Ok}
use Rattle.blob.specs.Records.{MediumView}
use Rattle.cta_site.specs.declared.site.Site.{Site}
use Rattle.cta_model.specs.declared.answers.Answer.{Answer}
use Rattle.cta_model.specs.declared.entries.Entry.{Entry}
use Rattle.cta_model.specs.declared.hands.Hand.{Hand}
use Rattle.cta_model.specs.declared.hands.Hand.TheVariants as hands
use Rattle.cta_model.specs.Answers.{is_accepted}
use Rattle.cta_model.specs.Bare.{bare_answer}
use Rattle.cta_model.specs.History.{History}
use Rattle.cta_model.specs.Kept.{Kept}
use Rattle.archive_turns.specs.declared.calls.ArchiveCall.{ArchiveCall}
use Rattle.archive_turns.specs.declared.calls.ArchiveCall.TheVariants as call
use Rattle.archive_turns.specs.declared.calls.ArchiveBack.{ArchiveBack}
use Rattle.archive_turns.specs.declared.calls.ArchiveBack.TheVariants as archives
use Rattle.archive_turns.specs.Fits.{CanPlay}
use Rattle.archive_turns.specs.Plays.{Returns, call_adds, kept_with}
use Rattle.durable_archive.specs.declared.back.CloseCause.{CloseCause}
use Rattle.durable_archive.specs.declared.back.LoggedBack.{LoggedBack}
use Rattle.durable_archive.specs.declared.back.LoggedBack.TheVariants as back
use Rattle.durable_archive.specs.Journaled.{IsCauseOf, LoggedView}

-- the hand that goes in with a call, Nothing with a look
abbrev pub hand_of_call : {M : Type 0} → ArchiveCall M → Hand M
hand_of_call (call.Ask at k in_hand) = in_hand
hand_of_call (call.Look at k) = hands.Nothing

-- whether what an archive gave back added an entry
abbrev pub back_adds : {M : Type 0} → ArchiveBack M → Bool
back_adds (archives.Ask (Ok (a, out))) = is_accepted (bare_answer a)
back_adds _ = false

-- whether a call that comes back so adds an entry
abbrev pub logged_adds : {M : Type 0} → ArchiveCall M → LoggedBack M → Bool
logged_adds c (back.Answered b) = call_adds c b
logged_adds c (back.Closed why out added) = added.value

module _ {M : Type 0} (told : M → MediumView) where
  -- a call that is answered Closed: where its append failed, the archive had accepted it and given this hand, and its entry is in the history; else nothing changes, and it
  -- has its own hand
  abbrev pub ClosedReturns : Bool → Site → History → ArchiveCall M → Hand M → History → Type 0
  ClosedReturns true site h c out later = (a : Answer) × (is_accepted (bare_answer a) ≡ true) × Returns told site h c (archives.Ask (Ok (a, out))) later
  ClosedReturns false site h c out later = (later ≡ h) × (out ≡ hand_of_call c)

  -- what comes back from a call, on h, and the history that it leaves: what the archive gives back, or Closed
  abbrev pub LoggedReturns : Site → History → ArchiveCall M → LoggedBack M → History → Type 0
  LoggedReturns site h c (back.Answered b) later = Returns told site h c b later
  LoggedReturns site h c (back.Closed why out added) later = ClosedReturns added.value site h c out later

  -- what an archive keeps then, of what it kept
  abbrev pub ClosedKeeps : Bool → Kept → ArchiveCall M → Hand M → Kept → Type 0
  ClosedKeeps true kept c out kept' = (a : Answer) × (is_accepted (bare_answer a) ≡ true) × Returns told kept.site kept.history c (archives.Ask (Ok (a, out))) kept'.history × (kept' ≡ kept_with told kept c (archives.Ask (Ok (a, out))))
  ClosedKeeps false kept c out kept' = (kept' ≡ kept) × (out ≡ hand_of_call c)

  abbrev pub LoggedKeeps : Kept → ArchiveCall M → LoggedBack M → Kept → Type 0
  LoggedKeeps kept c (back.Answered b) kept' = Returns told kept.site kept.history c b kept'.history × (kept' ≡ kept_with told kept c b)
  LoggedKeeps kept c (back.Closed why out added) kept' = ClosedKeeps added.value kept c out kept'

  -- a call was played where these are the entries, oldest first, and came back so
  pub record LoggedPlays (site : Site) (xs : List Entry) (c : ArchiveCall M) (b : LoggedBack M) (ys : List Entry) : Type 0 where
    pub fit : CanPlay told site (reverse xs) c
    pub returns : LoggedReturns site (reverse xs) c b (reverse ys)

-- how a call moves a journal: an open one stays open where the call is answered, and is closed where its append failed, for that cause; of a closed one each call is
-- answered Closed for the same cause, and nothing changes
abbrev pub MovesBy : {M K : Type 0} → (K → ℕ) → Option CloseCause → LoggedView K → LoggedBack M → LoggedView K → Type 0
MovesBy faults None old (back.Answered b) new = new.closed ≡ None
MovesBy faults None old (back.Closed why out added) new = (new.closed ≡ Some why) × (added.value ≡ true) × IsCauseOf why (faults old.journal.disk) (faults new.journal.disk)
MovesBy faults (Some why) old (back.Answered b) new = ⊥
MovesBy faults (Some why) old (back.Closed again out added) new = (again ≡ why) × (added.value ≡ false) × (new ≡ old)
