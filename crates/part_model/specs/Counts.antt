-- The counts of open mounts by direction and VO.
use Rattle.std.specs.Prelude.{ℕ, List, ◌+◌, ◌-◌, Bool, if◌then◌else◌, ◌==◌, ◌&&◌}
use Rattle.std.specs.List.{slice_index_or}
use Rattle.cta_site.specs.declared.site.Site.{Site}
use Rattle.cta_site.specs.Lookups.{vo_of_pool, pool_of_tape}
use Rattle.cta_model.specs.declared.asks.Direction.{Direction}
use Rattle.cta_model.specs.declared.asks.Direction.TheVariants as direction
use Rattle.cta_model.specs.declared.states.Mount.{Mount}
use Rattle.cta_model.specs.Mounts.{same_direction}

-- the value of the counts: for each direction, the open mounts of each VO
pub record Counts : Type 0 where
  pub archive : List ℕ
  pub retrieve : List ℕ

-- what the counts tell: a VO beyond the last has no mount
abbrev pub count_in : Counts → Direction → ℕ → ℕ
count_in v direction.Archive vo = slice_index_or v.archive vo 0
count_in v direction.Retrieve vo = slice_index_or v.retrieve vo 0

-- whether a mount goes this way and is of this VO
abbrev pub is_of_vo : Site → Direction → ℕ → Mount → Bool
is_of_vo site way vo m = same_direction m.direction way && vo_of_pool site (pool_of_tape site m.tape) == vo

-- the counts after a mount is opened
abbrev pub opened_count : Site → Mount → (Direction → ℕ → ℕ) → Direction → ℕ → ℕ
opened_count site x counts way vo = if is_of_vo site way vo x then counts way vo + 1 else counts way vo

-- the counts after a mount is ended
abbrev pub ended_count : Site → Mount → (Direction → ℕ → ℕ) → Direction → ℕ → ℕ
ended_count site x counts way vo = if is_of_vo site way vo x then counts way vo - 1 else counts way vo
