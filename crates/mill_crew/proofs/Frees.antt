-- A drive whose session is free has no medium.
use Rattle.std.specs.Prelude.{◌≡◌, ℕ, List, Bool, Option, Some, None, true, false}
use Rattle.std.proofs.Common.{refl, ◌∙◌}
use Rattle.blob.specs.Records.{MediumView}
use Rattle.cta_site.specs.declared.site.Site.{Site}
use Rattle.cta_model.specs.declared.asks.Ask.{Ask}
use Rattle.cta_model.specs.declared.hands.Hand.{Hand}
use Rattle.cta_model.specs.History.{History}
use Rattle.media.specs.Drives.{DriveView}
use Rattle.drive_session.specs.declared.session.Memo.{Memo}
use Rattle.drive_session.specs.declared.states.State.{State}
use Rattle.drive_session.specs.declared.states.State.TheVariants as state
use Rattle.drive_session.specs.Steps.{is_loaded_in}
use Rattle.drive_session.specs.Works.{is_free, is_free_by}
use Rattle.turn_hall.specs.declared.view.View.{View}
use Rattle.drive_turns.specs.Seats.{IsSeated}

free_state : {M : Type 0} (s : State M) (k : Option (Ask × Hand M)) → is_free_by s k ≡ true → is_loaded_in s ≡ false
free_state state.Free k is = refl
free_state (state.Held x) k is = absurd (cc)
free_state (state.Ready x) k is = absurd (cc)
free_state (state.Claimed x items blobs) k is = absurd (cc)
free_state (state.Writing x b) k is = absurd (cc)
free_state (state.Reading x items at) k is = absurd (cc)
free_state (state.Leaving x) k is = absurd (cc)

pub free_unloaded : {W E C B M : Type 0} (told : M → MediumView) (history : List E → History) (topic : E → Option ℕ) (adds : C → B → Bool) (site : Site) (v : View W E C B) (m : Memo M) (d : DriveView)
    → IsSeated told history topic adds site v m d → is_free m ≡ true → d.loaded ≡ false
free_unloaded told history topic adds site v m d seated free = seated.loaded ∙ free_state m.state m.kept free
