-- A worker's seat at a pool, and its door.
use Rattle.std.specs.Prelude.{◌≡◌, ℕ, ◌+◌, ◌≤◌, ◌++◌, List, length, Option, false}
use Rattle.crossbeam_queue.specs.declared.array_queue.Doing.{Doing}
use Rattle.crossbeam_queue.specs.declared.array_queue.Slotted.{Slotted}
use Rattle.crossbeam_queue.specs.Passes.{Pass, view, IsPassOf}
use Rattle.link_pool.specs.declared.views.PoolView.{PoolView}
use Rattle.link_pool.specs.Entries.{links_of}

-- a pass of this pool with one part, which is not the door
abbrev pub IsSeatOf : {L Q A : Type 0} → Slotted (Option L) (Doing L (PoolView L)) Q A → Pass L (PoolView L) → Type 0
IsSeatOf queue seat = IsPassOf queue seat × ((view seat).parts ≡ 1) × ((view seat).door ≡ false)

-- a door's view is that of the same door with as many parts, and it has got the same links
pub record IsSameDoor {L : Type 0} (v w : PoolView L) : Type 0 where
  pub door : w.door ≡ v.door
  pub parts : w.parts ≡ v.parts
  pub got : w.got ≡ v.got

-- all links that a listener had told were put through the door, where the pool has room for them
abbrev pub HavePutAll : {L : Type 0} → ℕ → List L → PoolView L → PoolView L → Type 0
HavePutAll capacity links v w = length v.put + length links ≤ capacity → links_of w.put ≡ links_of v.put ++ links
