-- How a server over an archive ends.
use Rattle.std.specs.Prelude.{◌≡◌, ◌≤◌, ⊤, ℕ, Bool, true, List, Option, Some, length}
use Rattle.cta_site.specs.declared.site.Site.{Site}
use Rattle.cta_model.specs.declared.entries.Entry.{Entry}
use Rattle.cta_model.specs.Kept.{Kept}
use Rattle.outside.specs.Causes.{Rose}
use Rattle.archive_turns.specs.declared.calls.ArchiveCall.{ArchiveCall}
use Rattle.archive_turns.specs.declared.calls.ArchiveCall.TheVariants as call
use Rattle.archive_turns.specs.declared.calls.ArchiveBack.{ArchiveBack}
use Rattle.archive_front.specs.Questions.{question_of}
use Rattle.turn_hall.specs.declared.view.View.{View}
use Rattle.turn_hall.specs.declared.view.About.{About}
use Rattle.turn_hall.specs.declared.room.Room.{Room}
use Rattle.turn_hall.specs.declared.room.Holder.{Holder}
use Rattle.turn_hall.specs.Handles.{IsPassOf, first_of, seats_in, view}
use Rattle.link_crew.specs.Accounts.{Accounted}
use Rattle.server_crew.specs.Jobs.{AreApart}
use Rattle.link_server.specs.Callers.{is_callers}
use Rattle.link_server.specs.Fronts.{needs_of}
use Rattle.archive_opening.specs.declared.status.Status.{Status}
use Rattle.archive_opening.specs.declared.status.Status.TheVariants as status

-- why a server that has its archive ends: the listener has ended, or its count of faults rose, or memory ran out
abbrev pub EndsServing : Status → ℕ → ℕ → Bool → Type 0
EndsServing status.Ok before after ended = ended ≡ true
EndsServing status.ListenFault before after ended = Rose before after
EndsServing status.NoMemory before after ended = ⊤
EndsServing _ before after ended = ⊥

-- the site of what an archive keeps
abbrev pub site_kept : Kept → Site
site_kept kept = kept.site

-- What a server leaves: the pass is of this hall and has all of its seats. Where the listener had told its links, and these were at most 64, what callers asked by the calls of this pass is what
-- these links ask, each as often
pub record IsServed {S P M K : Type 0} (left : K → Option (List ℕ)) (firm : K → Bool) (links : Option (List K)) (hall : Room S (View Site Entry (ArchiveCall M) (ArchiveBack M)) (About Kept) P) (pass : Holder S Site Entry (ArchiveCall M) (ArchiveBack M)) (wanted : ℕ) : Type 0 where
  pub here : IsPassOf site_kept hall pass
  pub seats : pass.seats ≡ seats_in hall
  pub asked : (told : List K) → links ≡ Some told → length told ≤ 64
      → Accounted question_of is_callers left firm (first_of hall).site.limits.file (needs_of (first_of hall).site) (view pass).mine told wanted

-- what the session of a drive asks of an archive is nothing that a caller asks
abbrev pub SessionsAskApart : Type 0 → Type 0
SessionsAskApart M = AreApart {C = ArchiveCall M} {M = M} question_of is_callers call.Ask
