-- What a request comes to is fit for an archive with a journal.
use Rattle.std.proofs.Common.{ℕ}
use Rattle.std.specs.Prelude.{reverse}
use Rattle.blob.specs.Records.{MediumView}
use Rattle.archive_turns.specs.declared.calls.ArchiveCall.{ArchiveCall}
use Rattle.archive_turns.specs.Plays.{call_asks}
use Rattle.archive.specs.InOrder.{IsFitInOrder, IsLegalInOrder}
use Rattle.tape_routes.specs.Asked.{Asked}
use Rattle.archive_front.specs.declared.questions.Called.TheVariants as called
use Rattle.archive_front.specs.Questions.{ComesTo, IsCallersCall}
use Rattle.archive_front.specs.Laws.{CallersAreFit, CallersAskNoMount, CallersGetTheirs}
use Rattle.link_loop.specs.Fronts.{IsFreeCall}
use Rattle.durable_archive.specs.declared.back.LoggedBack.{LoggedBack}
use Rattle.durable_archive.specs.declared.back.LoggedBack.TheVariants as back
use Rattle.durable_archive.specs.declared.turns.LoggedSite.{LoggedSite}
use Rattle.durable_archive.specs.Turns.{LoggedPlays, LoggedReturns}
use Rattle.durable_server.specs.Fronts.{IsForCallers}

module _ {M K : Type 0} (told : M → MediumView) (s : LoggedSite K) where
  gets : CallersGetTheirs told → (h later : _) (c : ArchiveCall M) (b : LoggedBack M) → IsCallersCall c → LoggedReturns told s.site h c b later → IsForCallers b
  gets law h later c (back.Answered b) callers returns = law s.site h later c b callers returns
  gets law h later c (back.Closed why out added) callers returns = tt

  pub called_free : (x : Asked) (t : ℕ) (c : ArchiveCall M) → CallersAreFit told → CallersAskNoMount M → CallersGetTheirs told → ComesTo x t (called.Call c)
      → IsFreeCall (IsFitInOrder told s.site) call_asks (IsLegalInOrder s.site) (LoggedPlays told s.site) IsForCallers c
  called_free x t c fits about law h =
      let callers : IsCallersCall c = h.2 in
      record {
        fit = λ xs. fits s.site (reverse xs) c callers;
        about = about c callers;
        told = λ xs ys b legal plays. gets law (reverse xs) (reverse ys) c b callers plays.returns;
      }
