-- What a request comes to is what it needs.
use Rattle.std.proofs.Common.{◌≡◌, ℕ, ap, refl, ◌∙◌}
use Rattle.std.specs.Prelude.{reverse}
use Rattle.blob.specs.Records.{MediumView}
use Rattle.cta_site.specs.declared.site.Site.{Site}
use Rattle.archive_turns.specs.declared.calls.ArchiveCall.{ArchiveCall}
use Rattle.archive_turns.specs.declared.calls.ArchiveCall.TheVariants as call
use Rattle.archive_turns.specs.Plays.{call_asks}
use Rattle.archive.specs.InOrder.{IsFitInOrder, IsLegalInOrder, PlaysInOrder}
use Rattle.tape_routes.specs.Asked.{Asked}
use Rattle.archive_front.specs.declared.questions.Called.TheVariants as called
use Rattle.archive_front.specs.Questions.{ComesTo, IsCallersCall, asked_of_call, question_of}
use Rattle.archive_front.specs.Backs.{IsForCallers}
use Rattle.archive_front.specs.Laws.{CallersAreFit, CallersAskNoMount, CallersGetTheirs}
use Rattle.link_loop.specs.declared.front.Routed.TheVariants as routed
use Rattle.link_loop.specs.Fronts.{IsFreeCall}
use Rattle.link_server.specs.Fronts.{need_in}

-- what a call asks is what is needed of the archive where it asks this
need_of_call : {M : Type 0} (c : ArchiveCall M) → routed.Call (question_of c) ≡ need_in (asked_of_call c)
need_of_call (call.Ask at k in_hand) = refl
need_of_call (call.Look at k) = refl

pub called_needs : {M : Type 0} (x : Asked) (t : ℕ) (c : ArchiveCall M) → ComesTo x t (called.Call c) → routed.Call (question_of c) ≡ need_in x
called_needs x t c h = need_of_call c ∙ ap need_in h.0

pub called_free : {M : Type 0} (told : M → MediumView) (site : Site) (x : Asked) (t : ℕ) (c : ArchiveCall M) → CallersAreFit told → CallersAskNoMount M → CallersGetTheirs told → ComesTo x t (called.Call c)
    → IsFreeCall (IsFitInOrder told site) call_asks (IsLegalInOrder site) (PlaysInOrder told site) IsForCallers c
called_free told site x t c fits about gets h =
    let callers : IsCallersCall c = h.2 in
    record {
      fit = λ xs. fits site (reverse xs) c callers;
      about = about c callers;
      told = λ xs ys b legal plays. gets site (reverse xs) (reverse ys) c b callers plays.1;
    }
