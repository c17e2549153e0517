use Rattle.std.proofs.Common.{◌∙◌, sym, ap, List, ◌||◌}
use Rattle.sum_trees.specs.Order.{has_like}
use Rattle.repack_book.specs.Order.{holder_before, has_holder, is_holder}
use Rattle.repack_book.specs.declared.holders.Holder.{Holder}
use Rattle.repack_book.proofs.Trees.{holder_added, holder_there}
use Rattle.repack_book.proofs.holders.Holders.add.Goals as goal

pub returns-then-is_some-clause-holders : goal.returns-then-is_some-clause-holders
returns-then-is_some-clause-holders c =
    holder_there c.args.self.now.value c.args.holder (ap (λ (v : List Holder). has_like holder_before c.args.holder v) (sym (ap (λ v. v.value) c.self.view_is)) ∙ sym c.get.ensures.had ∙ sym c.is_some.ensures ∙ c.if-is_some.true)

pub returns-clause-holders : goal.returns-clause-holders
returns-clause-holders c =
    λ f k r. (holder_added c.self.inside.forest.trees c.insert.new.self.trees c.args.holder c.self.invariant c.insert.ensures.trees f k r
    ∙ ap (λ (v : List Holder). is_holder f k r c.args.holder || has_holder v f k r) (ap (λ v. v.value) c.self.view_is))
