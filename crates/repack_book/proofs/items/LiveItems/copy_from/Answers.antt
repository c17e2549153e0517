use Rattle.std.proofs.Common.{ap, subst, sym, List, Some, None}
use Rattle.std.specs.Prelude.{Option, ◌==◌, ◌&&◌, if◌then◌else◌}
use Rattle.sum_trees.specs.Forests.{items_in}
use Rattle.repack_book.specs.declared.items.LiveItem.{LiveItem}
use Rattle.repack_book.specs.Order.{has_item}
use Rattle.repack_book.specs.Walks.{IsFirstFrom}
use Rattle.repack_book.proofs.Copies.{copy_some, copy_none}
use Rattle.repack_book.proofs.items.LiveItems.copy_from.Goals as goal

pub returns-in-Some : goal.returns-in-Some
returns-in-Some c =
    subst (λ (o : Option _). IsFirstFrom (has_item c.args.self.now.value c.args.tape c.args.repack c.args.file) c.args.copy o) (sym c.copy_of.ensures)
    (subst (λ (v : List LiveItem). IsFirstFrom (has_item v c.args.tape c.args.repack c.args.file) c.args.copy (if (c.in-Some.first.tape == c.args.tape && c.in-Some.first.repack == c.args.repack) && c.in-Some.first.file == c.args.file then Some c.in-Some.first.copy else None)) (ap (λ v. v.value) c.self.view_is)
    (copy_some (items_in c.self.inside.forest.trees 0) (record { tape = c.args.tape; repack = c.args.repack; file = c.args.file; copy = c.args.copy }) c.in-Some.first c.in-Some.ensures.sorted c.in-Some.ensures.from))

pub returns-in-None : goal.returns-in-None
returns-in-None c =
    subst (λ (v : List LiveItem). IsFirstFrom (has_item v c.args.tape c.args.repack c.args.file) c.args.copy None) (ap (λ v. v.value) c.self.view_is)
    (copy_none (items_in c.self.inside.forest.trees 0) (record { tape = c.args.tape; repack = c.args.repack; file = c.args.file; copy = c.args.copy }) c.in-None.ensures.from)
