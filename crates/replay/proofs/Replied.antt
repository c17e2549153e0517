-- The drives of a desk, where a request is answered.
use Rattle.std.proofs.Common.{◌≡◌, ℕ, Bool, List, refl, sym, ap, ◌∙◌, subst}
use Rattle.std.specs.Prelude.{Option, Some, None}
use Rattle.std.proofs.lemmas.Option.{none-some}
use Rattle.blob.specs.Records.{MediumView}
use Rattle.cta_model.specs.declared.asks.Ask.{Ask}
use Rattle.cta_model.specs.declared.asks.Ask.TheVariants as ask
use Rattle.cta_model.specs.Answers.{answer_of}
use Rattle.cta_model.specs.Kept.{Kept, kept_after}
use Rattle.cta_model.specs.Legal.{IsLegal}
use Rattle.cta_model.specs.declared.answers.Answer.{Answer}
use Rattle.cta_model.specs.declared.states.Mount.{Mount}
use Rattle.cta_model.specs.Mounts.{asked_mount, mount_in}
use Rattle.media.specs.Drives.{DriveView}
use Rattle.wire_http.specs.declared.request.Request.{Request}
use Rattle.drive_session.specs.declared.session.Memo.{Memo}
use Rattle.session_laws.specs.Laws.{SessionStays}
use Rattle.tape_routes.specs.Asked.{Asked, Asks, Looks, Replies, asked}
use Rattle.tape_routes.specs.Answering.{IsReplyTo, kept_then, request_keeps}
use Rattle.tape_routes.specs.Callers.{CallersAsk, IsCallers}
use Rattle.replay.specs.Desk.{AreManned, DeskView, desk_of, drive_states}
use Rattle.replay.specs.Steps.{RunState, kept_in, with_kept}
use Rattle.replay.proofs.Manned.{callers_keep}
use Rattle.replay.proofs.Running.{kept_after-site, request_keeps-site}
use Rattle.replay.proofs.Stepping.{same_run}

-- what a caller asks is about no mount
about_none : (k : Ask) (content : Option (List ℕ)) → IsCallers (Asks k content) → asked_mount k ≡ 0
about_none (ask.Next d) content f = absurd f
about_none (ask.Claim m) content f = absurd f
about_none (ask.Flushed m items) content f = absurd f
about_none (ask.Recalled m job) content f = absurd f
about_none (ask.Failed m fault charged returned) content f = absurd f
about_none (ask.End m fault) content f = absurd f
about_none _ content is = refl

-- and makes none
makes_none : (k : Ask) (content : Option (List ℕ)) (a : Answer) (x : Mount) → IsCallers (Asks k content) → mount_in k a ≡ Some x → ⊥
makes_none (ask.Next d) content a x f made = f
makes_none _ content a x f made = none-some x made

module _ {M : Type 0} (told : M → MediumView) (stays : SessionStays told) (kept : Kept) (t : ℕ) (ms : List (Memo M)) (vs : List DriveView) where
  then_manned : (now : Kept) (x : Asked) → IsCallers x → now ≡ kept_then kept t x → IsLegal now.site now.history → AreManned told kept.site kept.history ms vs → AreManned told now.site now.history ms vs
  unfolding kept_then
  then_manned now (Asks k content) caller is legal manned =
      let a = answer_of kept.site kept.history t k in
      let site : (kept_after kept t k a None).site ≡ kept.site = kept_after-site kept t k a None in
      let kept_legal : IsLegal (kept_after kept t k a None).site (kept_after kept t k a None).history = subst (λ (n : Kept). IsLegal n.site n.history) is legal in
      let all : AreManned told kept.site (kept_after kept t k a None).history ms vs =
      callers_keep told stays kept.site kept t k a ms vs refl (about_none k content caller) (λ x made. makes_none k content a x caller made) (subst (λ s. IsLegal s (kept_after kept t k a None).history) site kept_legal) manned in
      subst (λ (n : Kept). AreManned told n.site n.history ms vs) (sym is) (subst (λ s. AreManned told s (kept_after kept t k a None).history ms vs) (sym site) all)
  then_manned now (Looks look) caller is legal manned = subst (λ (n : Kept). AreManned told n.site n.history ms vs) (sym is) manned
  then_manned now (Replies reply) caller is legal manned = subst (λ (n : Kept). AreManned told n.site n.history ms vs) (sym is) manned

  pub request_manned : (now : Kept) (request : Request) → CallersAsk → now ≡ request_keeps kept t request → IsLegal now.site now.history → AreManned told kept.site kept.history ms vs → AreManned told now.site now.history ms vs
  unfolding request_keeps
  request_manned now request callers is legal manned = then_manned now (asked kept.site request) (callers kept.site request) is legal manned

module _ {M : Type 0} (told : M → MediumView) (kept : Kept) (ms : List (Memo M)) (vs : List DriveView) (ready : Bool) (desk : DeskView) (is : desk_of told kept ms vs ready ≡ desk) (t : ℕ) (request : Request) where
  pub desk_text : (text : List ℕ) → IsReplyTo kept t request text → IsReplyTo (kept_in desk.run) t request text
  desk_text text x = subst (λ (k : DeskView). IsReplyTo (kept_in k.run) t request text) is x

  pub desk_kept : (now : Kept) → now ≡ request_keeps kept t request
      → ◌≡◌ {A = RunState} (record { site = now.site; history = now.history; shelf = now.shelf; drives = drive_states told ms vs }) (with_kept desk.run (request_keeps (kept_in desk.run) t request))
  desk_kept now same =
      let site : now.site ≡ kept.site = ap (λ (k : Kept). k.site) same ∙ request_keeps-site kept t request in
      same_run now.site kept.site now.history (request_keeps kept t request).history now.shelf (request_keeps kept t request).shelf (drive_states told ms vs) (drive_states told ms vs) site (ap (λ (k : Kept). k.history) same) (ap (λ (k : Kept). k.shelf) same) refl
      ∙ ap (λ (k : DeskView). with_kept k.run (request_keeps (kept_in k.run) t request)) is
