use Rattle.std.proofs.Common.{ap, subst, sym, List, Some, None, ◌+◌}
use Rattle.std.specs.Prelude.{Option, ◌==◌, ◌&&◌, if◌then◌else◌}
use Rattle.sum_trees.specs.Forests.{items_in}
use Rattle.repack_book.specs.declared.holders.Holder.{Holder}
use Rattle.repack_book.specs.Order.{has_holder}
use Rattle.repack_book.specs.Walks.{IsFirstFrom}
use Rattle.repack_book.proofs.Trees.{after_some, after_none}
use Rattle.repack_book.proofs.holders.Holders.after.Goals as goal

pub returns-in-Some : goal.returns-in-Some
returns-in-Some c =
    subst (λ (o : Option _). IsFirstFrom (has_holder c.args.self.now.value c.args.file c.args.copy) (c.args.repack + 1) o) (sym c.repack_of.ensures)
    (subst (λ (v : List Holder). IsFirstFrom (has_holder v c.args.file c.args.copy) (c.args.repack + 1) (if c.in-Some.next.file == c.args.file && c.in-Some.next.copy == c.args.copy then Some c.in-Some.next.repack else None)) (ap (λ v. v.value) c.self.view_is)
    (after_some (items_in c.self.inside.forest.trees 0) c.args.file c.args.copy c.args.repack c.in-Some.next c.sum-sorted.ensures.sorted c.in-Some.ensures))

pub returns-in-None : goal.returns-in-None
returns-in-None c =
    subst (λ (v : List Holder). IsFirstFrom (has_holder v c.args.file c.args.copy) (c.args.repack + 1) None) (ap (λ v. v.value) c.self.view_is)
    (after_none (items_in c.self.inside.forest.trees 0) c.args.file c.args.copy c.args.repack c.in-None.ensures)
