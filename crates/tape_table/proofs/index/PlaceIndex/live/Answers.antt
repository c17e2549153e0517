use Rattle.std.proofs.Common.{◌∙◌, ap, sym, arith}
use Rattle.std.specs.Prelude.{◌==◌, length, filter}
use Rattle.part_model.specs.declared.space.Placed.{Placed}
use Rattle.sum_trees.specs.Forests.{items_in}
use Rattle.tape_table.specs.Indexed.{Indexed}
use Rattle.tape_table.proofs.Told.{count_on, counted, counted_none}
use Rattle.tape_table.proofs.index.PlaceIndex.live.Goals as goal

pub returns-in-Some : goal.returns-in-Some
returns-in-Some c =
    counted (items_in c.self.inside.forest.trees c.args.tape) c.in-Some.count c.in-Some.ensures.few c.in-Some.ensures.sum
    ∙ sym (count_on c.self.inside.forest.trees 0 c.args.tape c.args.tape (omega arith))
    ∙ ap (λ (v : Indexed). length (filter (λ (p : Placed). p.place.tape == c.args.tape) v.places)) c.self.view_is

pub returns-in-None : goal.returns-in-None
returns-in-None c =
    counted_none (items_in c.self.inside.forest.trees c.args.tape) c.in-None.ensures.sum
    ∙ sym (count_on c.self.inside.forest.trees 0 c.args.tape c.args.tape (omega arith))
    ∙ ap (λ (v : Indexed). length (filter (λ (p : Placed). p.place.tape == c.args.tape) v.places)) c.self.view_is
