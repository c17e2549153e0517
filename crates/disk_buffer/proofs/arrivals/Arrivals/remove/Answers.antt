use Rattle.std.proofs.Common.{◌∙◌, refl, ap}
use Rattle.sum_trees.specs.Forests.{items_in}
use Rattle.disk_buffer.specs.Stays.{Arrived, stays_of, without_file}
use Rattle.disk_buffer.proofs.PinLists.{set_length_one}
use Rattle.disk_buffer.proofs.Found.{told_row, told_no_row}
use Rattle.disk_buffer.proofs.Changed.{absent_file, content_cut, content_none, dropped, dropped_stays, dropped_tree, fits_row, kept_as, kept_dropped}
use Rattle.disk_buffer.proofs.arrivals.Arrivals.remove.Goals as goal

pub returns-in_default-clause-stays : goal.returns-in_default-clause-stays
returns-in_default-clause-stays c = absent_file c.args.file (items_in c.self.inside.forest.trees 0) c.args.self.now.stays (ap (λ (v : Arrived). v.stays) c.self.view_is) (told_no_row c.args.file (items_in c.self.inside.forest.trees 0) c.row_of.result c.in_default.is c.row_of.ensures)

pub returns-in_default-clause-contents : goal.returns-in_default-clause-contents
returns-in_default-clause-contents c = λ f. content_none c.self.inside.kept.entries c.args.self.now.contents c.args.file f (ap (λ (v : Arrived). v.contents) c.self.view_is) (c.self.invariant.1.found c.args.file ∙ (told_no_row c.args.file (items_in c.self.inside.forest.trees 0) c.row_of.result c.in_default.is c.row_of.ensures))

pub overflow_sub-self : goal.overflow_sub-self
overflow_sub-self c = fits_row c.args.file c.in-Some.row (items_in c.self.inside.forest.trees 0) _ _ _ _ c.self.invariant.1 (told_row c.args.file (items_in c.self.inside.forest.trees 0) c.row_of.result c.in-Some.row c.in-Some.is c.row_of.ensures).0 (told_row c.args.file (items_in c.self.inside.forest.trees 0) c.row_of.result c.in-Some.row c.in-Some.is c.row_of.ensures).1

pub invariant_of-self : goal.invariant_of-self
invariant_of-self c = (
  set_length_one _ _ _ c.self.invariant.0 c.take-was.ensures.trees,
  kept_as _ (dropped c.args.file (items_in c.self.inside.forest.trees 0)) _ _ _ _ (dropped_tree c.self.inside.forest.trees c.take-was.new.self.trees c.args.file c.in-Some.row c.self.invariant.0 (told_row c.args.file (items_in c.self.inside.forest.trees 0) c.row_of.result c.in-Some.row c.in-Some.is c.row_of.ensures).0 c.take-was.ensures.trees)
      (kept_dropped c.args.file c.in-Some.row (items_in c.self.inside.forest.trees 0) _ _ _ _ _ _ c.self.invariant.1 (told_row c.args.file (items_in c.self.inside.forest.trees 0) c.row_of.result c.in-Some.row c.in-Some.is c.row_of.ensures).0 (told_row c.args.file (items_in c.self.inside.forest.trees 0) c.row_of.result c.in-Some.row c.in-Some.is c.row_of.ensures).1 c.forget.ensures.places refl),
)

pub returns-clause-stays : goal.returns-clause-stays
returns-clause-stays c = ap stays_of (dropped_tree c.self.inside.forest.trees c.take-was.new.self.trees c.args.file c.in-Some.row c.self.invariant.0 (told_row c.args.file (items_in c.self.inside.forest.trees 0) c.row_of.result c.in-Some.row c.in-Some.is c.row_of.ensures).0 c.take-was.ensures.trees) ∙ dropped_stays c.args.file (items_in c.self.inside.forest.trees 0) ∙ ap (λ (v : Arrived). without_file c.args.file v.stays) c.self.view_is

pub returns-clause-contents : goal.returns-clause-contents
returns-clause-contents c = λ f. content_cut c.self.inside.kept.entries c.forget.new.kept.entries c.args.self.now.contents c.args.file f (ap (λ (v : Arrived). v.contents) c.self.view_is) (c.forget.ensures.sums f)
