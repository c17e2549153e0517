-- The live copies on a tape as items of a repack.
use Rattle.std.specs.Prelude.{ℕ, ◌≡◌, List}
use Rattle.cta_model.specs.declared.asks.Job.{Job}
use Rattle.part_model.specs.declared.space.Placed.{Placed}
use Rattle.part_model.specs.Tapes.{Table}
use Rattle.part_laws.specs.Operators.{items_told}
use Rattle.tape_table.specs.Live.{AreAllLive}

-- these are the copies that have their place on the tape and no others, each once, in order of fSeq
pub record AreItemsOn (v : Table) (tape : ℕ) (items : List Job) : Type 0 where
  pub walk : List Placed
  pub all : AreAllLive v.places tape 0 walk
  pub told : items ≡ items_told walk
