-- A step of a drive of an archive.
use Rattle.std.proofs.Common.{◌≡◌, [], ◌∷◌, sym, ap, ◌∙◌, subst, arith, length}
use Rattle.std.specs.Prelude.{Option, Some, None, Result, Ok, Err}
use Rattle.std.proofs.lemmas.List.{append-nil}
use Rattle.std.proofs.lemmas.Option.{none-some, same_Some}
use Rattle.blob.specs.Records.{MediumView}
use Rattle.cta_site.specs.declared.site.Site.{Site}
use Rattle.cta_model.specs.declared.asks.Ask.{Ask}
use Rattle.cta_model.specs.declared.entries.Entry.{Entry}
use Rattle.cta_model.specs.declared.hands.Hand.{Hand}
use Rattle.media.specs.Drives.{DriveView}
use Rattle.drive_session.specs.declared.reports.StepLine.{StepLine}
use Rattle.drive_session.specs.declared.session.Memo.{Memo}
use Rattle.turn_hall.specs.declared.view.View.{View}
use Rattle.turn_hall.specs.Calls.{made_in}
use Rattle.archive_turns.specs.declared.calls.ArchiveBack.{ArchiveBack}
use Rattle.archive_turns.specs.declared.calls.ArchiveBack.TheVariants as back
use Rattle.archive_turns.specs.declared.calls.ArchiveCall.{ArchiveCall}
use Rattle.archive_turns.specs.declared.calls.ArchiveCall.TheVariants as call
use Rattle.archive_turns.specs.Plays.{call_adds}
use Rattle.archive_turns.specs.Topics.{topic_of}
use Rattle.archive.specs.InOrder.{IsLegalInOrder, PlaysInOrder}
use Rattle.drive_turns.specs.declared.front.Came.{Came}
use Rattle.drive_turns.specs.declared.front.Came.TheVariants as came
use Rattle.drive_turns.specs.Turns.{HasAsked, HasTaken, IsDriveTurn, IsKnown}
use Rattle.drive_server.specs.Drives.{AddsAKnownAsk, IsNotUnknown, NoAskIsUnknown, heard_of}

module _ {M : Type 0} (told : M → MediumView) (site : Site) (v w : View Site Entry (ArchiveCall M) (ArchiveBack M)) where
  abbrev Asked : Memo M → Memo M → Option (Ask × Hand M) → Result StepLine (Unit {0}) → Type 0
  Asked s m o l = HasAsked told call.Ask heard_of (IsLegalInOrder site) (PlaysInOrder told site) topic_of call_adds v w s m o l

  -- ---- nothing stops the asks of an archive's drives

  none_stops : (b : ArchiveBack M) (c : Came M (Unit {0})) (s m : Memo M) (e : Unit {0}) → heard_of b ≡ Some c → HasTaken s m c (Err e) → ⊥
  none_stops (back.Ask r) c s m e heard taken = subst (λ z. HasTaken s m z (Err e)) (sym (same_Some (came.Back r) c heard)) taken
  none_stops (back.Look r) c s m e heard taken = absurd (none-some c heard)

  never_stops : (s m : Memo M) (o : Option (Ask × Hand M)) (e : Unit {0}) → Asked s m o (Err e) → ⊥
  never_stops s m None e asked = absurd (let no : Err e ≡ Ok _ = asked.2 in cc)
  never_stops s m (Some (a, k)) e asked = none_stops asked.back asked.came s m e asked.heard asked.taken

  pub no_stop : (m m' : Memo M) (d d' : DriveView) (e : Unit {0}) → IsDriveTurn told call.Ask heard_of (IsLegalInOrder site) (PlaysInOrder told site) topic_of call_adds v w m m' d d' (Err e) → ⊥
  no_stop m m' d d' e step = never_stops step.behind m' step.report.ask e step.asked

  -- ---- no ask is unknown

  known_back : (b : ArchiveBack M) (c : Came M (Unit {0})) → heard_of b ≡ Some c → IsKnown c → IsNotUnknown b
  known_back (back.Ask (Ok (a, out))) c heard known = subst IsKnown (sym (same_Some (came.Back (Ok (a, out))) c heard)) known
  known_back (back.Ask (Err e)) c heard known = tt
  known_back (back.Look r) c heard known = tt

  adds_known : (s m : Memo M) (o : Option (Ask × Hand M)) (l : Result StepLine (Unit {0})) → Asked s m o l → AddsAKnownAsk v w
  adds_known s m None l asked = record {
    more = [];
    added = ap (λ (z : View Site Entry (ArchiveCall M) (ArchiveBack M)). z.mine) asked.0 ∙ sym (append-nil v.mine);
    one = omega arith;
    known = tt;
  }
  adds_known s m (Some (a, k)) l asked = record {
    more = made_in asked.turn.turn (length asked.turn.before) (call.Ask asked.at a k) asked.back ∷ [];
    added = asked.turn.mine;
    one = omega arith;
    known = (known_back asked.back asked.came asked.heard asked.known, tt);
  }

pub no_ask_is_unknown : {M : Type 0} (told : M → MediumView) → NoAskIsUnknown told
no_ask_is_unknown told site v w m m' d d' l step = adds_known told site v w step.behind m' step.report.ask (Ok l) step.asked
