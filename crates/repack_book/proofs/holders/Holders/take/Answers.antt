use Rattle.std.proofs.Common.{◌∙◌, ap, List}
use Rattle.std.specs.Prelude.{not, ◌&&◌}
use Rattle.repack_book.specs.Order.{has_holder, is_holder}
use Rattle.repack_book.specs.declared.holders.Holder.{Holder}
use Rattle.repack_book.proofs.Trees.{holder_taken}
use Rattle.repack_book.proofs.holders.Holders.take.Goals as goal

pub returns-clause-holders : goal.returns-clause-holders
returns-clause-holders c = λ f k r. (holder_taken c.self.inside.forest.trees c.take.new.self.trees c.args.holder c.self.invariant c.take.ensures.trees f k r
    ∙ ap (λ (v : List Holder). not (is_holder f k r c.args.holder) && has_holder v f k r) (ap (λ v. v.value) c.self.view_is))
