-- What workers are given, and what they give back.
use Rattle.std.specs.Prelude.{ℕ, ◌≡◌, ◌<◌, ◌-◌, ◌≤◌, ⊤, List, false, Option, IfSome, All, drop, length, take}
use Rattle.blob.specs.declared.sum.Sum256.{Sum256}
use Rattle.media.specs.Drives.{DriveView}
use Rattle.turn_hall.specs.declared.view.View.{View}
use Rattle.turn_hall.specs.declared.view.About.{About}
use Rattle.turn_hall.specs.declared.room.Room.{Room}
use Rattle.turn_hall.specs.declared.room.Holder.{Holder}
use Rattle.turn_hall.specs.Handles.{IsPassOf}
use Rattle.mill_crew.specs.declared.posts.Task.{Task}
use Rattle.mill_crew.specs.declared.posts.Task.TheVariants as task
use Rattle.mill_crew.specs.declared.posts.Job.{Job}
use Rattle.mill_crew.specs.declared.posts.Made.{Made}
use Rattle.mill_crew.specs.declared.posts.Made.TheVariants as made
use Rattle.mill_crew.specs.declared.posts.Done.{Done}
use Rattle.mill_crew.specs.declared.posts.Fetcher.{Fetcher}
use Rattle.mill_crew.specs.declared.posts.Fetched.{Fetched}
use Rattle.mill_crew.specs.Contents.{AreFetched, file_sums}

module _ {D : Type 0} (seen : D → DriveView) where
  -- a drive that is not loaded
  abbrev pub IsUnloaded : D → Type 0
  IsUnloaded drive = (seen drive).loaded ≡ false

  -- the drive of a task is not loaded, and has a number below that of drives
  abbrev pub IsTask : ℕ → Task D → Type 0
  IsTask drives (task.Puts share) = ⊤
  IsTask drives (task.Steps number drive) = (number < drives) × IsUnloaded drive

  -- the drives of a site with so many, at most 64, none of which is loaded
  pub record AreDrives (count : ℕ) (drives : List D) : Type 0 where
    pub all : length drives ≡ count
    pub few : length drives ≤ 64
    pub unloaded : All IsUnloaded drives

  -- what was made of a share are the sums of its files, and a drive that comes back is not loaded
  abbrev pub IsMade : ℕ → Made D → Type 0
  IsMade seed (made.Sums share sums) = IfSome sums (λ v. v.items ≡ file_sums seed share.from (share.to - share.from))
  IsMade seed (made.Drive drive) = IfSome drive IsUnloaded

module _ {T S W E C B P : Type 0} (site : T → W) (hall : Room S (View W E C B) (About T) P) where
  -- a pass of the hall, and a task
  pub record IsJob {D : Type 0} (seen : D → DriveView) (drives : ℕ) (job : Job (Holder S W E C B) D) : Type 0 where
    pub pass : IsPassOf site hall job.pass
    pub task : IsTask seen drives job.task

  -- a pass of the hall, and what was made
  pub record IsDone {D : Type 0} (seen : D → DriveView) (seed : ℕ) (done : Done (Holder S W E C B) D) : Type 0 where
    pub pass : IsPassOf site hall done.pass
    pub made : IsMade seen seed done.made

  -- a pass of the hall
  abbrev pub IsFetcher : Fetcher (Holder S W E C B) → Type 0
  IsFetcher job = IsPassOf site hall job.pass

  -- a pass of the hall, and the total of contents with the sums of the share's files
  pub record HasFetched (sums : List Sum256) (done : Fetched (Holder S W E C B)) : Type 0 where
    pub pass : IsPassOf site hall done.pass
    pub fetched : IfSome done.total (AreFetched (take (done.share.to - done.share.from) (drop done.share.from sums)))
