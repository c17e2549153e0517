-- A pass with a drive and its session: what holds between two steps.
use Rattle.std.specs.Prelude.{ℕ, ◌≡◌, List, Bool, Option, Some, None}
use Rattle.blob.specs.Records.{MediumView}
use Rattle.cta_site.specs.declared.site.Site.{Site}
use Rattle.cta_model.specs.declared.asks.Ask.{Ask}
use Rattle.cta_model.specs.declared.hands.Hand.{Hand}
use Rattle.cta_model.specs.History.{History}
use Rattle.media.specs.Drives.{DriveView}
use Rattle.drive_session.specs.declared.session.Memo.{Memo}
use Rattle.drive_session.specs.declared.states.State.{State}
use Rattle.drive_session.specs.declared.states.State.TheVariants as state
use Rattle.drive_session.specs.Answers.{is_asking}
use Rattle.drive_session.specs.Steps.{has_ask, is_loaded_in}
use Rattle.drive_session.specs.Works.{FitsMemo}
use Rattle.turn_hall.specs.declared.view.View.{View}
use Rattle.turn_hall.specs.Promises.{Opened}
use Rattle.archive_turns.specs.Topics.{mount_asked}

-- the mount of a state, if it has one
abbrev pub state_mount : {M : Type 0} → State M → Option ℕ
state_mount state.Free = None
state_mount (state.Held x) = Some x.mount
state_mount (state.Ready x) = Some x.mount
state_mount (state.Claimed x items blobs) = Some x.mount
state_mount (state.Writing x b) = Some x.mount
state_mount (state.Reading x items at) = Some x.mount
state_mount (state.Leaving x) = Some x.mount

-- the mount that an ask which is kept asks about, if there is one
abbrev pub kept_mount : {M : Type 0} → Option (Ask × Hand M) → Option ℕ
kept_mount None = None
kept_mount (Some (a, k)) = mount_asked a

-- the session fits the history that the pass has seen, with the ask that it keeps, if it keeps one; no other ask is open; the drive is loaded as the session's state says;
-- and the Next of the session's open mount is among the pass's own calls, also where only the kept ask names it
pub record IsSeated {W E C B M : Type 0} (told : M → MediumView) (history : List E → History) (topic : E → Option ℕ) (adds : C → B → Bool) (site : Site) (v : View W E C B) (m : Memo M) (d : DriveView) : Type 0 where
  pub waits : is_asking m.asked ≡ has_ask m.kept
  pub fits : FitsMemo told site (history v.seen) m
  pub loaded : d.loaded ≡ is_loaded_in m.state
  pub own : Opened topic adds (state_mount m.state) v
  pub asked : Opened topic adds (kept_mount m.kept) v
