-- What a drive's pass keeps of the mount that its own Next made.
use Rattle.std.specs.Prelude.{ℕ, ◌≡◌, ◌⊎◌, reverse, Option, Some, Ok, true}
use mathlib.Core.List.{IsPrefix}
use Rattle.blob.specs.Records.{MediumView}
use Rattle.cta_site.specs.declared.site.Site.{Site}
use Rattle.cta_model.specs.declared.entries.Entry.{Entry}
use Rattle.cta_model.specs.declared.asks.Ask.TheVariants as ask
use Rattle.cta_model.specs.declared.asks.Direction.{Direction}
use Rattle.cta_model.specs.declared.answers.Answer.TheVariants as answer
use Rattle.cta_model.specs.declared.hands.Hand.{Hand}
use Rattle.cta_model.specs.declared.hands.Hand.TheVariants as hand
use Rattle.cta_model.specs.declared.states.Mount.{Mount}
use Rattle.cta_model.specs.Mounts.{mount_of, is_open}
use Rattle.cta_model.specs.Media.{IsMediumOf}
use Rattle.cta_laws.specs.Mounts.{IsMountKept}
use Rattle.turn_hall.specs.declared.view.View.{View}
use Rattle.turn_hall.specs.Calls.{merged}
use Rattle.turn_hall.specs.Promises.{Turned, Opened}
use Rattle.archive_turns.specs.declared.calls.ArchiveCall.{ArchiveCall}
use Rattle.archive_turns.specs.declared.calls.ArchiveCall.TheVariants as call
use Rattle.archive_turns.specs.declared.calls.ArchiveBack.{ArchiveBack}
use Rattle.archive_turns.specs.declared.calls.ArchiveBack.TheVariants as back
use Rattle.archive_turns.specs.Topics.{topic_of}
use Rattle.archive_turns.specs.Plays.{call_adds}
use Rattle.archive.specs.InOrder.{IsLegalInOrder, PlaysInOrder}

module _ {M : Type 0} (told : M → MediumView) where
  -- what a pass of an archive's hall knows
  abbrev pub Known : Type 0
  Known = View Site Entry (ArchiveCall M) (ArchiveBack M)

  -- a call was played in one turn of an archive's hall
  abbrev pub IsTurn : Site → Known → ArchiveCall M → ArchiveBack M → Known → Type 0
  IsTurn site v c b w = Turned (IsLegalInOrder site) (PlaysInOrder told site) topic_of call_adds v c b w

  -- a mount is a pass's own, as it has seen it: its Next is among the pass's calls, and it is open, of this drive and tape, and goes this way
  pub record IsOwnMount (v : Known) (m : ℕ) (mount : Mount) : Type 0 where
    pub opened : Opened topic_of call_adds (Some m) v
    pub is_open_mount : is_open (reverse v.seen) m ≡ true
    pub is_mount : mount_of (reverse v.seen) m ≡ Some mount

  -- a Next that was answered Mounted makes a mount of the pass's own, and hands out a medium that is true for what the pass has seen then
  abbrev pub NextOpens : Type 0
  NextOpens =
      (site : Site) (v w : Known) (at d m : ℕ) (way : Direction) (tape : ℕ) (in_hand : Hand M) (x : M)
      → IsTurn site v (call.Ask at (ask.Next d) in_hand) (back.Ask (Ok (answer.Mounted m way tape, hand.Medium x))) w
      → IsOwnMount w m (record { drive = d; direction = way; tape = tape }) × IsMediumOf (reverse w.seen) tape (told x)

  -- the Next of a mount stays among a pass's own calls while the pass takes turns
  abbrev pub OwnOverTurns : Type 0
  OwnOverTurns = (site : Site) (v w : Known) (c : ArchiveCall M) (b : ArchiveBack M) (m : ℕ) → Opened topic_of call_adds (Some m) v → IsTurn site v c b w → Opened topic_of call_adds (Some m) w

  -- and so it does where the pass is joined with another, of which either may have made the mount
  abbrev pub OwnOverJoins : Type 0
  OwnOverJoins =
      (v w u : Known) (m : ℕ) → u.mine ≡ merged v.mine w.mine → IsPrefix v.seen u.seen → IsPrefix w.seen u.seen
      → Opened topic_of call_adds (Some m) v ⊎ Opened topic_of call_adds (Some m) w → Opened topic_of call_adds (Some m) u

  -- while others took their turns, a pass's own mount was kept: each call is played on a history in which it is as the pass had seen it
  abbrev pub OwnMountStays : Type 0
  OwnMountStays =
      (site : Site) (v w : Known) (c : ArchiveCall M) (b : ArchiveBack M) (m : ℕ) (mount : Mount) → IsOwnMount v m mount → (turn : IsTurn site v c b w)
      → IsMountKept (reverse turn.before) (reverse v.seen) m
