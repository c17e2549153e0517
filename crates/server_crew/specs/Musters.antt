-- What the posts of workers are made of.
use Rattle.std.specs.Prelude.{◌≡◌, ℕ, ◌+◌, All, true, List, [], Option}
use Rattle.crossbeam_queue.specs.declared.array_queue.Doing.{Doing}
use Rattle.crossbeam_queue.specs.declared.array_queue.Slotted.{Slotted}
use Rattle.crossbeam_queue.specs.Passes.{Pass, view as pool_view, IsPassOf as IsPoolPassOf}
use Rattle.link_pool.specs.declared.views.PoolView.{PoolView}
use Rattle.link_pool.specs.Pooled.{whole}
use Rattle.turn_hall.specs.declared.view.View.{View}
use Rattle.turn_hall.specs.declared.view.About.{About}
use Rattle.turn_hall.specs.declared.room.Room.{Room}
use Rattle.turn_hall.specs.declared.room.Holder.{Holder}
use Rattle.server_crew.specs.declared.muster.Muster.{Muster}
use Rattle.server_crew.specs.Jobs.{IsNewPass}

-- the door of a pool behind so many seats, through which no link was put or taken
pub record IsDoor {L Q A : Type 0} (queue : Slotted (Option L) (Doing L (PoolView L)) Q A) (seats : ℕ) (pass : Pass L (PoolView L)) : Type 0 where
  pub here : IsPoolPassOf queue pass
  pub door : (pool_view pass).door ≡ true
  pub parts : (pool_view pass).parts + seats ≡ whole
  pub put : (pool_view pass).put ≡ []
  pub got : (pool_view pass).got ≡ []

-- passes with one seat that have made no call, and the doors of both pools behind so many posts
pub record IsMuster {T S W E C B P L Q A : Type 0} (site : T → W) (hall : Room S (View W E C B) (About T) P) (pool busy : Slotted (Option L) (Doing L (PoolView L)) Q A)
    (muster : Muster (Holder S W E C B) (Pass L (PoolView L))) : Type 0 where
  pub passes : All (IsNewPass site hall) muster.passes.items
  pub door : IsDoor pool muster.posts muster.door
  pub full : IsDoor busy muster.posts muster.full_door
