-- The numbers that are kept with a site.
use Rattle.std.specs.Prelude.{ℕ, ◌≡◌, List, map}
use Rattle.cta_site.specs.declared.site.Site.{Site}
use Rattle.cta_site.specs.declared.site.Tape.{Tape}
use Rattle.cta_site.specs.declared.site.TapePool.{TapePool}
use Rattle.cta_site.specs.declared.site.Vo.{Vo}
use Rattle.cta_site.specs.Lookups.{index_by, pool_number}

-- the number of the virtual organisation of this name
abbrev pub vo_number : Site → List ℕ → ℕ
vo_number site name = index_by (λ (v : Vo). v.name) site.vos.items name

-- the pool of each tape, and the virtual organisation of each pool
pub record HasNumbers (site : Site) (of_tapes of_pools : List ℕ) : Type 0 where
  pub tapes : of_tapes ≡ map (λ (t : Tape). pool_number site t.pool) site.tapes.items
  pub pools : of_pools ≡ map (λ (p : TapePool). vo_number site p.vo) site.pools.items
