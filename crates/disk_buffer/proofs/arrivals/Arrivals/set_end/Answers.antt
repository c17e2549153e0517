use Rattle.std.proofs.Common.{◌∙◌, refl, ap}
use Rattle.sum_trees.specs.Forests.{items_in}
use Rattle.disk_buffer.specs.Stays.{Arrived, ended, stays_of, with_end}
use Rattle.disk_buffer.proofs.PinLists.{set_length_one}
use Rattle.disk_buffer.proofs.Found.{told_row, told_no_row}
use Rattle.disk_buffer.proofs.Changed.{absent_end, ended_keeps, ended_stays, kept_as, kept_touched, replaced_tree, same_end, touched}
use Rattle.disk_buffer.proofs.arrivals.Arrivals.set_end.Goals as goal

pub returns-in_default-clause-stays : goal.returns-in_default-clause-stays
returns-in_default-clause-stays c =
    absent_end c.args.file c.args.until (items_in c.self.inside.forest.trees 0) c.args.self.now.stays (ap (λ (v : Arrived). v.stays) c.self.view_is) (told_no_row c.args.file (items_in c.self.inside.forest.trees 0) c.row_of.result c.in_default.is c.row_of.ensures)

pub returns-then-row-until-clause-stays : goal.returns-then-row-until-clause-stays
returns-then-row-until-clause-stays c =
    same_end c.args.file c.args.until c.in-Some.row (items_in c.self.inside.forest.trees 0) c.args.self.now.stays (ap (λ (v : Arrived). v.stays) c.self.view_is) (told_row c.args.file (items_in c.self.inside.forest.trees 0) c.row_of.result c.in-Some.row c.in-Some.is c.row_of.ensures).0 c.if-row-until.true

pub invariant_of-self : goal.invariant_of-self
invariant_of-self c = (
  set_length_one _ _ _ c.self.invariant.0 c.replace.ensures.trees,
  kept_as _ (touched c.args.file (ended c.args.until c.self.inside.clock) (items_in c.self.inside.forest.trees 0)) _ _ _ _ (replaced_tree c.self.inside.forest.trees c.replace.new.self.trees c.args.file c.in-Some.row c.ended.result (ended c.args.until c.self.inside.clock) (ended_keeps c.args.until c.self.inside.clock) c.self.invariant.0 c.ended.ensures (told_row c.args.file (items_in c.self.inside.forest.trees 0) c.row_of.result c.in-Some.row c.in-Some.is c.row_of.ensures).0 c.replace.ensures.trees)
      (kept_touched c.args.file (ended c.args.until c.self.inside.clock) (ended_keeps c.args.until c.self.inside.clock) (items_in c.self.inside.forest.trees 0) _ c.self.inside.clock _ _ (λ x. refl) c.self.invariant.1),
)

pub returns-clause-stays : goal.returns-clause-stays
returns-clause-stays c =
    ap stays_of (replaced_tree c.self.inside.forest.trees c.replace.new.self.trees c.args.file c.in-Some.row c.ended.result (ended c.args.until c.self.inside.clock) (ended_keeps c.args.until c.self.inside.clock) c.self.invariant.0 c.ended.ensures (told_row c.args.file (items_in c.self.inside.forest.trees 0) c.row_of.result c.in-Some.row c.in-Some.is c.row_of.ensures).0 c.replace.ensures.trees)
    ∙ ended_stays c.args.file c.args.until c.self.inside.clock (items_in c.self.inside.forest.trees 0)
    ∙ ap (λ (v : Arrived). with_end c.args.file c.args.until v.stays) c.self.view_is
