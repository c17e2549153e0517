use Rattle.std.proofs.Common.{◌∙◌, ap, List, refl}
use Rattle.std.specs.Prelude.{◌==◌}
use Rattle.std.specs.List.{list_any}
use Rattle.sum_trees.specs.Forests.{items_in}
use Rattle.repack_book.specs.declared.items.LiveItem.{LiveItem}
use Rattle.repack_book.proofs.Trees.{any_some, any_none}
use Rattle.repack_book.proofs.items.LiveItems.any_on.Goals as goal

pub returns-in-Some : goal.returns-in-Some
returns-in-Some c = any_some (items_in c.self.inside.forest.trees 0) (record { tape = c.args.tape; repack = 0; file = 0; copy = 0 }) c.in-Some.first refl refl refl c.in-Some.ensures.sorted c.in-Some.ensures.from ∙ ap (λ (v : List LiveItem). list_any (λ (x : LiveItem). x.tape == c.args.tape) v) (ap (λ v. v.value) c.self.view_is)

pub returns-in-None : goal.returns-in-None
returns-in-None c = any_none (items_in c.self.inside.forest.trees 0) (record { tape = c.args.tape; repack = 0; file = 0; copy = 0 }) refl refl refl c.in-None.ensures.from ∙ ap (λ (v : List LiveItem). list_any (λ (x : LiveItem). x.tape == c.args.tape) v) (ap (λ v. v.value) c.self.view_is)
