-- The keys of queues.
use Rattle.std.specs.Prelude.{ℕ, List, length}
use Rattle.cta_site.specs.declared.site.Site.{Site}
use Rattle.cta_site.specs.Lookups.{pool_name, vid_of}
use Rattle.cta_model.specs.declared.asks.Direction.{Direction}
use Rattle.cta_model.specs.declared.asks.Direction.TheVariants as direction

-- how many keys the queues in a direction have: a pool each, or a tape each
abbrev pub key_count : Site → Direction → ℕ
key_count site direction.Archive = length site.pools.items
key_count site direction.Retrieve = length site.tapes.items

-- the name of a key of the queues in a direction: that of a pool, or the VID of a tape
abbrev pub key_name : Site → Direction → ℕ → List ℕ
key_name site direction.Archive = pool_name site
key_name site direction.Retrieve = vid_of site
