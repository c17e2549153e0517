-- A link is served as the loop serves it, by the site of the hall.
use Rattle.std.proofs.Common.{◌≡◌, ℕ, subst}
use Rattle.std.specs.Prelude.{Result}
use Rattle.blob.specs.Records.{MediumView}
use Rattle.cta_model.specs.declared.entries.Entry.{Entry}
use Rattle.outside.specs.declared.link.LinkEnd.{LinkEnd}
use Rattle.turn_hall.specs.declared.view.View.{View}
use Rattle.archive_turns.specs.declared.calls.ArchiveCall.{ArchiveCall}
use Rattle.archive.specs.InOrder.{IsLegalInOrder}
use Rattle.archive_front.specs.Questions.{question_of}
use Rattle.link_loop.specs.declared.sending.Unserved.{Unserved}
use Rattle.link_loop.specs.Served.{LinkView, Served}
use Rattle.durable_archive.specs.declared.back.CloseCause.{CloseCause}
use Rattle.durable_archive.specs.declared.back.LoggedBack.{LoggedBack}
use Rattle.durable_archive.specs.declared.turns.LoggedSite.{LoggedSite}
use Rattle.durable_archive.specs.Turns.{LoggedPlays}
use Rattle.durable_server.specs.Fronts.{needs_within, says_within}

module _ {M K : Type 0} (told : M → MediumView) (v w : View (LoggedSite K) Entry (ArchiveCall M) (LoggedBack M)) (a b : LinkView) where
  -- a link was served by what stays the same
  abbrev pub ServedBy : LoggedSite K → Result LinkEnd (Unserved CloseCause) → ℕ → Type 0
  ServedBy s r limit = Served question_of (needs_within s) (says_within s) (IsLegalInOrder s.site) (LoggedPlays told s.site) r limit v w a b

  pub served_here : (s f : LoggedSite K) (limit : ℕ) (r end : Result LinkEnd (Unserved CloseCause)) → f ≡ s → limit ≡ s.site.limits.file → r ≡ end → ServedBy f r limit → ServedBy s end s.site.limits.file
  served_here s f limit r end same limits ends served =
      subst (λ (n : ℕ). ServedBy s end n) limits (subst (λ (x : Result LinkEnd (Unserved CloseCause)). ServedBy s x limit) ends (subst (λ (x : LoggedSite K). ServedBy x r limit) same served))
