use Rattle.std.proofs.Common.{◌∙◌, ap, List}
use Rattle.std.specs.Prelude.{not, ◌&&◌}
use Rattle.repack_book.specs.Order.{has_item, is_item}
use Rattle.repack_book.specs.declared.items.LiveItem.{LiveItem}
use Rattle.repack_book.proofs.Trees.{item_taken}
use Rattle.repack_book.proofs.items.LiveItems.take.Goals as goal

pub returns-clause-items : goal.returns-clause-items
returns-clause-items c = λ t r f k. (item_taken c.self.inside.forest.trees c.take.new.self.trees c.args.item c.self.invariant c.take.ensures.trees t r f k
    ∙ ap (λ (v : List LiveItem). not (is_item t r f k c.args.item) && has_item v t r f k) (ap (λ v. v.value) c.self.view_is))
