use Rattle.tape_table.proofs.Trees.{none_placed, index_new}
use Rattle.tape_table.proofs.index.PlaceIndex.new.Goals as goal

pub invariant_of-result : goal.invariant_of-result
invariant_of-result c = (c.new_map-map.ensures.unique, index_new c.in_ok-forest.forest.trees c.new_map-map.result.entries (none_placed c.in_ok-forest.forest.trees 0 0 c.in_ok-forest.ensures.empty) c.new_map-map.ensures.empty)

pub returns-clause-places : goal.returns-clause-places
returns-clause-places c = none_placed c.in_ok-forest.forest.trees 0 0 c.in_ok-forest.ensures.empty
