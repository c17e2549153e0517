-- Numbers by name, and counts by name.
use Rattle.std.specs.Prelude.{ℕ, List, Option, unwrap_or}
use Rattle.std.specs.BTreeMap.{get_by}
use Rattle.std.specs.Cmp.Lexicographic.{slice_cmp}
use Rattle.std.specs.Ordering.{nat_cmp}
use Rattle.cta_site.specs.declared.name_map.NameMap.{NameMap}
use Rattle.cta_site.specs.declared.tally.Tally.{Tally}

-- the number of a name
abbrev pub number_in : NameMap → List ℕ → Option ℕ
number_in map name = get_by (λ k. slice_cmp nat_cmp name k.items) map.numbers

-- how often a name was counted
abbrev pub count_in : Tally → List ℕ → ℕ
count_in tally name = unwrap_or (get_by (λ k. slice_cmp nat_cmp name k.items) tally.counts) 0
