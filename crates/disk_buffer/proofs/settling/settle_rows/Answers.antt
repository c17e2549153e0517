use Rattle.std.proofs.Common.{◌∙◌, sym, arith}
use Rattle.sum_trees.specs.Forests.{items_in}
use Rattle.disk_buffer.proofs.PinLists.{set_length_one}
use Rattle.disk_buffer.proofs.Settled.{all_same, none_waits, settle_tree, fewer_tree, has_one}
use Rattle.disk_buffer.proofs.settling.settle_rows.Goals as goal

pub loop-row-init : goal.loop-row-init
loop-row-init c = (c.requires, all_same c.args.at (items_in c.args.forest.now.trees 0), omega arith)

pub loop-row-smaller : goal.loop-row-smaller
loop-row-smaller c =
    fewer_tree c.args.at c.in-Some.row c.settled.result c.loop-row.forest.trees c.replace.new.self.trees c.loop-row.invariant.0 c.settled.ensures c.first_passing.ensures.sorted (sym c.in-Some.is ∙ c.first_passing.ensures.first) c.replace.ensures.trees

pub loop-row-preserved : goal.loop-row-preserved
loop-row-preserved c = (
  set_length_one _ _ _ c.loop-row.invariant.0 c.replace.ensures.trees,
  settle_tree c.args.at c.in-Some.row c.settled.result (items_in c.args.forest.now.trees 0) c.loop-row.forest.trees c.replace.new.self.trees c.loop-row.invariant.0 c.settled.ensures c.first_passing.ensures.sorted
      (sym c.in-Some.is ∙ c.first_passing.ensures.first) c.replace.ensures.trees c.loop-row.invariant.1,
  omega (arith, c.loop-row.invariant.2, c.replace.ensures.room),
)

pub replace-requires-clause-there : goal.replace-requires-clause-there
replace-requires-clause-there c = has_one c.args.at c.in-Some.row c.settled.result (items_in c.loop-row.forest.trees 0) c.settled.ensures c.first_passing.ensures.sorted (sym c.in-Some.is ∙ c.first_passing.ensures.first)

pub returns-clause-none : goal.returns-clause-none
returns-clause-none c = none_waits c.args.at (items_in c.loop-row.forest.trees 0) (sym c.in_default.is ∙ c.first_passing.ensures.first)
