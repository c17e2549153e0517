-- What a worker is given, and what it gives back.
use Rattle.std.specs.Prelude.{◌≡◌, ℕ, ◌<◌, Bool, true, false, List, [], Option, length}
use Rattle.cta_site.specs.declared.site.Site.{Site}
use Rattle.cta_model.specs.declared.asks.Ask.{Ask}
use Rattle.cta_model.specs.declared.hands.Hand.{Hand}
use Rattle.media.specs.Drives.{DriveView}
use Rattle.wire_http.specs.declared.request.Request.{Request}
use Rattle.crossbeam_queue.specs.declared.array_queue.Doing.{Doing}
use Rattle.crossbeam_queue.specs.declared.array_queue.Slotted.{Slotted}
use Rattle.crossbeam_queue.specs.Passes.{Pass, view as pool_view}
use Rattle.link_pool.specs.declared.views.PoolView.{PoolView}
use Rattle.link_pool.specs.Entries.{links_of}
use Rattle.turn_hall.specs.declared.view.View.{View}
use Rattle.turn_hall.specs.declared.view.About.{About}
use Rattle.turn_hall.specs.declared.room.Room.{Room}
use Rattle.turn_hall.specs.declared.room.Holder.{Holder}
use Rattle.turn_hall.specs.Handles.{IsPassOf, first_of, view}
use Rattle.link_loop.specs.declared.front.Routed.{Routed}
use Rattle.drive_turns.specs.Turns.{is_of_session}
use Rattle.link_crew.specs.Accounts.{Accounted}
use Rattle.link_crew.specs.Seats.{IsSeatOf}
use Rattle.server_crew.specs.declared.post.Post.{Post}
use Rattle.server_crew.specs.declared.post.Task.{Task}
use Rattle.server_crew.specs.declared.post.Task.TheVariants as task
use Rattle.server_crew.specs.declared.post.Job.{Job}
use Rattle.server_crew.specs.declared.post.Done.{Done}

-- what a session asks is nothing that a caller asks
abbrev pub AreApart : {C K M : Type 0} → (C → K) → (K → Bool) → (ℕ → Ask → Hand M → C) → Type 0
AreApart {C} {K} {M} question is_callers asking = (at : ℕ) (a : Ask) (k : Hand M) → is_of_session a ≡ true → is_callers (question (asking at a k)) ≡ false

-- a drive that is not loaded, by its number
abbrev pub IsTask : {D : Type 0} → (D → DriveView) → ℕ → Task D → Type 0
IsTask seen drives (task.Drive number drive) = (number < drives) × ((seen drive).loaded ≡ false)
IsTask seen drives task.Links = Unit {0}
IsTask seen drives task.Busy = Unit {0}

module _ {T S W E C B P : Type 0} (site : T → W) (hall : Room S (View W E C B) (About T) P) where
  -- a pass of the hall with one seat
  abbrev pub IsOnePass : Holder S W E C B → Type 0
  IsOnePass pass = IsPassOf site hall pass × (pass.seats ≡ 1)

  -- the same, of a pass that has made no call
  abbrev pub IsNewPass : Holder S W E C B → Type 0
  IsNewPass pass = IsOnePass pass × ((view pass).mine ≡ [])

  module _ {L Q A : Type 0} (pool busy : Slotted (Option L) (Doing L (PoolView L)) Q A) where
    -- a pass of the hall with one seat, and a seat at each pool
    pub record IsPost (post : Post (Holder S W E C B) (Pass L (PoolView L))) : Type 0 where
      pub pass : IsOnePass post.pass
      pub seat : IsSeatOf pool post.seat
      pub full_seat : IsSeatOf busy post.full_seat

    -- the post of a worker that has made no call and taken no link, and its task
    pub record IsJob {D : Type 0} (seen : D → DriveView) (drives : ℕ) (job : Job (Holder S W E C B) (Pass L (PoolView L)) D) : Type 0 where
      pub post : IsPost job.post
      pub calls : (view job.post.pass).mine ≡ []
      pub links : (pool_view job.post.seat).got ≡ []
      pub task : IsTask seen drives job.task

    -- the post of a worker whose pass accounts for the links that it took
    pub record IsDone {K : Type 0} (question : C → K) (is_callers : K → Bool) (left : L → Option (List ℕ)) (firm : L → Bool) (limit : ℕ) (needs : Request → Routed K) (done : Done (Holder S W E C B) (Pass L (PoolView L))) : Type 0 where
      pub post : IsPost done.post
      pub accounted : Accounted question is_callers left firm limit needs (view done.post.pass).mine (links_of (pool_view done.post.seat).got) done.unserved
