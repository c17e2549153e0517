use Rattle.std.proofs.Common.{◌∙◌, sym, ap, List, ◌||◌}
use Rattle.sum_trees.specs.Order.{has_like}
use Rattle.repack_book.specs.Order.{item_before, has_item, is_item}
use Rattle.repack_book.specs.declared.items.LiveItem.{LiveItem}
use Rattle.repack_book.proofs.Trees.{item_added, item_there}
use Rattle.repack_book.proofs.items.LiveItems.add.Goals as goal

pub returns-then-is_some-clause-items : goal.returns-then-is_some-clause-items
returns-then-is_some-clause-items c =
    item_there c.args.self.now.value c.args.item (ap (λ (v : List LiveItem). has_like item_before c.args.item v) (sym (ap (λ v. v.value) c.self.view_is)) ∙ sym c.get.ensures.had ∙ sym c.is_some.ensures ∙ c.if-is_some.true)

pub returns-clause-items : goal.returns-clause-items
returns-clause-items c =
    λ t r f k. (item_added c.self.inside.forest.trees c.insert.new.self.trees c.args.item c.self.invariant c.insert.ensures.trees t r f k
    ∙ ap (λ (v : List LiveItem). is_item t r f k c.args.item || has_item v t r f k) (ap (λ v. v.value) c.self.view_is))
